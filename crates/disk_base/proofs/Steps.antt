-- What a disk in memory keeps, after one call more.
use Rattle.std.proofs.Common.{◌≡◌, ℕ, ◌+◌, ◌≤◌, List, [], ◌∷◌, ◌++◌, length, take, drop, fold, refl, sym, ap, subst, ◌∙◌, arith, length-append}
use Rattle.std.proofs.lemmas.List.{take_all, drop_all, take-append-le, drop-append-le}
use Rattle.std.proofs.lemmas.List.Sums.{fold-append}
use Rattle.disk_base.specs.Calls.{DiskCall}
use Rattle.disk_base.specs.Cut.{settled_bytes}
use Rattle.disk_base.specs.Kept.{IsSettled}
use Rattle.disk_base.specs.Log.{bytes_after, bytes_under, loose_after, loose_under, settled_count, story_of}
use Rattle.disk_base.specs.Listed.{next_story, story_under}
use Rattle.disk_base.specs.Story.{Story, settled_story, with_sync}
use Rattle.disk_base.specs.declared.disk.CallKind.{CallKind}
use Rattle.disk_base.specs.declared.disk.CallKind.TheVariants.{Attach, Read, Write, Sync}
use Rattle.disk_base.specs.declared.disk.DiskAnswer.{DiskAnswer}
use Rattle.disk_base.specs.declared.disk.DiskAnswer.TheVariants.{Done, Failed}

-- the bytes of a story are those that the calls leave
step_bytes : (kind : CallKind) (answer : DiskAnswer) (at : ℕ) (part : List ℕ) (story : Story) →
    (story_under kind answer at part story).now.bytes ≡ bytes_under kind at part story.now.bytes
step_bytes Write answer at part story = refl
step_bytes Attach answer at part story = refl
step_bytes Read answer at part story = refl
step_bytes Sync Done at part story = refl
step_bytes Sync Failed at part story = refl

pub story_bytes : (calls : List DiskCall) (story : Story) → (fold next_story story calls).now.bytes ≡ fold bytes_after story.now.bytes calls
story_bytes [] story = refl
story_bytes (call ∷ calls) story =
    story_bytes calls (next_story story call)
    ∙ ap (λ bytes. fold bytes_after bytes calls) (step_bytes call.kind call.answer call.at call.bytes story)

-- the story with one call more
pub one_more_call : (base : List ℕ) (calls : List DiskCall) (call : DiskCall) → story_of base (calls ++ call ∷ []) ≡ next_story (story_of base calls) call
one_more_call base calls call = fold-append next_story (settled_story base) calls (call ∷ [])

-- what a record of them says of a story
record IsOf (base : List ℕ) (calls : List DiskCall) (synced : ℕ) (now : List ℕ) (story : Story) : Type 0 where
  pub within : synced ≤ length calls
  pub bytes : story.now.bytes ≡ now
  pub settled : fold bytes_after base (take synced calls) ≡ settled_bytes story
  pub loose : fold loose_after [] (drop synced calls) ≡ story.now.loose

module _ (base : List ℕ) (calls : List DiskCall) (synced : ℕ) (now : List ℕ) (story : Story) (is : IsOf base calls synced now story) (call : DiskCall) where
  longer : length (calls ++ call ∷ []) ≡ length calls + 1
  longer = length-append calls (call ∷ [])

  same_front : take synced (calls ++ call ∷ []) ≡ take synced calls
  same_front = take-append-le synced calls (call ∷ []) is.within

  one_behind : fold loose_after [] (drop synced (calls ++ call ∷ [])) ≡ loose_after story.now.loose call
  one_behind =
      ap (λ (cs : List DiskCall). fold loose_after [] cs) (drop-append-le synced calls (call ∷ []) is.within)
      ∙ fold-append loose_after [] (drop synced calls) (call ∷ [])
      ∙ ap (λ loose. loose_after loose call) is.loose

  settled_front : fold bytes_after base (take synced (calls ++ call ∷ [])) ≡ settled_bytes story
  settled_front = ap (λ (cs : List DiskCall). fold bytes_after base cs) same_front ∙ is.settled

  -- a call that settles nothing
  on : (story' : Story) → story'.now.bytes ≡ bytes_after now call → settled_bytes story ≡ settled_bytes story' →
      loose_after story.now.loose call ≡ story'.now.loose → IsOf base (calls ++ call ∷ []) synced (bytes_after now call) story'
  on story' bytes same loose = record {
    within = omega (arith, is.within, longer);
    bytes = bytes;
    settled = settled_front ∙ same;
    loose = one_behind ∙ loose;
  }

  -- a good sync
  synced_on : call.kind ≡ Sync → story.now.bytes ≡ fold bytes_after base calls →
      IsOf base (calls ++ call ∷ []) (length calls + 1) now (with_sync story)
  synced_on sync replayed =
      let all : take (length calls + 1) (calls ++ call ∷ []) ≡ calls ++ call ∷ [] = take_all (length calls + 1) (calls ++ call ∷ []) (omega (arith, longer)) in
      let none : drop (length calls + 1) (calls ++ call ∷ []) ≡ [] = drop_all (length calls + 1) (calls ++ call ∷ []) (omega (arith, longer)) in
      record {
        within = omega (arith, longer);
        bytes = is.bytes;
        settled =
            ap (λ (cs : List DiskCall). fold bytes_after base cs) all
            ∙ fold-append bytes_after base calls (call ∷ [])
            ∙ ap (λ kind. bytes_under kind call.at call.bytes (fold bytes_after base calls)) sync
            ∙ sym replayed;
        loose = ap (λ (cs : List DiskCall). fold loose_after [] cs) none;
      }

  by_kind : (kind : CallKind) (answer : DiskAnswer) → call.kind ≡ kind → call.answer ≡ answer → story.now.bytes ≡ fold bytes_after base calls →
      IsOf base (calls ++ call ∷ []) (settled_count kind answer synced (length calls + 1)) (bytes_after now call) (story_under kind answer call.at call.bytes story)
  by_kind Write answer k a replayed =
      on _ (ap (λ bytes. bytes_under Write call.at call.bytes bytes) is.bytes ∙ ap (λ kind. bytes_under kind call.at call.bytes now) (sym k)) refl
      (ap (λ kind. loose_under kind call.at (length call.bytes) story.now.loose) k)
  by_kind Attach answer k a replayed = on _ (is.bytes ∙ ap (λ kind. bytes_under kind call.at call.bytes now) (sym k)) refl
      (ap (λ kind. loose_under kind call.at (length call.bytes) story.now.loose) k)
  by_kind Read answer k a replayed = on _ (is.bytes ∙ ap (λ kind. bytes_under kind call.at call.bytes now) (sym k)) refl
      (ap (λ kind. loose_under kind call.at (length call.bytes) story.now.loose) k)
  by_kind Sync Failed k a replayed = on _ (is.bytes ∙ ap (λ kind. bytes_under kind call.at call.bytes now) (sym k)) refl
      (ap (λ kind. loose_under kind call.at (length call.bytes) story.now.loose) k)
  by_kind Sync Done k a replayed =
      subst (λ kind. IsOf base (calls ++ call ∷ []) (length calls + 1) (bytes_under kind call.at call.bytes now) (with_sync story)) (sym k)
      (synced_on k replayed)

of_settled : (base now : List ℕ) (calls : List DiskCall) (synced : ℕ) → IsSettled base now calls synced → IsOf base calls synced now (story_of base calls)
of_settled base now calls synced is = record { within = is.within; bytes = is.bytes; settled = is.settled; loose = is.loose }

settled_of : (base now : List ℕ) (calls : List DiskCall) (synced : ℕ) → IsOf base calls synced now (story_of base calls) → IsSettled base now calls synced
settled_of base now calls synced is = record { within = is.within; bytes = is.bytes; settled = is.settled; loose = is.loose }

-- one effective call more
pub settled_on : (base now : List ℕ) (calls : List DiskCall) (synced : ℕ) (call : DiskCall) → IsSettled base now calls synced →
    IsSettled base (bytes_after now call) (calls ++ call ∷ []) (settled_count call.kind call.answer synced (length calls + 1))
settled_on base now calls synced call is =
    settled_of base (bytes_after now call) (calls ++ call ∷ []) _ (subst
    (λ story. IsOf base (calls ++ call ∷ []) (settled_count call.kind call.answer synced (length calls + 1)) (bytes_after now call) story)
    (sym (one_more_call base calls call))
    (by_kind base calls synced now (story_of base calls) (of_settled base now calls synced is) call call.kind call.answer refl refl
    (story_bytes calls (settled_story base))))
