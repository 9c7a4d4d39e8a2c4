-- What a crash leaves while a row of calls is carried out: what no write of the row breaks.
use Rattle.std.proofs.Common.{◌≡◌, ◌⊎◌, inl, inr, ℕ, zero, suc, ◌+◌, ◌<◌, ◌≤◌, List, [], ◌∷◌, ◌++◌, length}
use Rattle.std.proofs.Common.{slice_index, Option, Some, None, ◌∙◌, refl, sym, ap, subst, arith}
use Rattle.std.proofs.lemmas.Bool.{cases_lt}
use Rattle.std.specs.Option.{option_map}
use Rattle.disk_base.specs.Calls.{DiskCall}
use Rattle.disk_base.specs.Listed.{next_story, story_under}
use Rattle.disk_base.specs.Story.{Story, with_part, with_sync, with_write}
use Rattle.disk_base.specs.Through.{GoesThrough, Through}
use Rattle.disk_base.specs.declared.disk.CallKind.{CallKind}
use Rattle.disk_base.specs.declared.disk.CallKind.TheVariants.{Attach, Read, Write, Sync}
use Rattle.disk_base.specs.declared.disk.Disk as disk
use Rattle.disk_base.specs.declared.disk.DiskAnswer.{DiskAnswer}
use Rattle.disk_base.specs.declared.disk.DiskAnswer.TheVariants.{Done, Failed}
use Rattle.disk_base.proofs.Marks.{length-part, outside_part}
use Rattle.disk_base.proofs.Moments.{only_now, starts, sync_keeps}
use Rattle.spool_file.specs.Logs.{calls_below}
use Rattle.spool_slots.specs.Carried.{CarriesOut, FailsBy, story_behind}
use Rattle.spool_slots.proofs.Closed.{closed_keeps}

-- a call keeps P of bytes of this length, whatever its write leaves in its range
abbrev pub KeepsBy : (List ℕ → Type 0) → (size : ℕ) → CallKind → ℕ → List ℕ → Type 0
KeepsBy P size Write at bytes = (at + length bytes ≤ size)
    × ((image part : List ℕ) → length image ≡ size → length part ≡ length bytes → P image → P (with_part image at part))
KeepsBy P size Sync at bytes = Unit {0}
KeepsBy P size Read at bytes = Unit {0}
KeepsBy P size Attach at bytes = Unit {0}

abbrev pub KeepsEach : (List ℕ → Type 0) → (size : ℕ) → List DiskCall → Type 0
KeepsEach P size [] = Unit {0}
KeepsEach P size (call ∷ calls) = KeepsBy P size call.kind call.at call.bytes × KeepsEach P size calls

module _ (P : List ℕ → Type 0) (size : ℕ) where
  pub keeps_both : (xs ys : List DiskCall) → KeepsEach P size xs → KeepsEach P size ys → KeepsEach P size (xs ++ ys)
  keeps_both [] ys one two = two
  keeps_both (x ∷ xs) ys one two = (one.0, keeps_both xs ys one.1 two)

  keeps_parts : (xs ys : List DiskCall) → KeepsEach P size (xs ++ ys) → KeepsEach P size xs × KeepsEach P size ys
  keeps_parts [] ys both = (tt, both)
  keeps_parts (x ∷ xs) ys both = let rest = keeps_parts xs ys both.1 in ((both.0, rest.0), rest.1)

  pub keeps_below : (calls : ℕ → List DiskCall) (n : ℕ) → ((p : ℕ) → p < n → KeepsEach P size (calls p)) →
      KeepsEach P size (calls_below calls n)
  keeps_below calls zero each = tt
  keeps_below calls (suc n) each =
      keeps_both (calls_below calls n) (calls n) (keeps_below calls n (λ p below. each p (omega (arith, below))))
      (each n (omega arith))

abbrev story_or : Story → Option Story → Story
story_or other None = other
story_or other (Some s) = s

-- what goes on to a story that is known
reached : (old t : Story) (P : List ℕ → Type 0) → GoesThrough old (Some t) P → Through old t P
reached old t P goes = subst (λ (u : Story). Through old u P) (sym (ap (story_or goes.0) goes.1)) goes.2

module _ (old : Story) (P : List ℕ → Type 0) (size : ℕ) where
  one_call : (mid : Story) (kind : CallKind) (answer : DiskAnswer) (at : ℕ) (bytes : List ℕ) →
      length mid.now.bytes ≡ size → KeepsBy P size kind at bytes → Through old mid P →
      Through old (story_under kind answer at bytes mid) P
      × (length (story_under kind answer at bytes mid).now.bytes ≡ size)
  one_call mid Write answer at bytes long keeps so_far = (
    reached old (with_write at bytes mid) P
        (closed_keeps old mid P at bytes (Some (with_write at bytes mid)) Done so_far (omega (arith, keeps.0, long))
        (λ image part same fit has. keeps.1 image part (same ∙ long) fit has) refl),
    length-part mid.now.bytes bytes at (omega (arith, keeps.0, long)) ∙ long,
  )
  one_call mid Sync Done at bytes long keeps so_far =
      (reached old (with_sync mid) P (sync_keeps old mid P (Some (with_sync mid)) Done so_far refl), long)
  one_call mid Sync Failed at bytes long keeps so_far = (so_far, long)
  one_call mid Read answer at bytes long keeps so_far = (so_far, long)
  one_call mid Attach answer at bytes long keeps so_far = (so_far, long)

  pub row_done : (row : List DiskCall) (mid : Story) → length mid.now.bytes ≡ size → KeepsEach P size row →
      Through old mid P →
      Through old (story_behind row mid) P × (length (story_behind row mid).now.bytes ≡ size)
  row_done [] mid long keeps so_far = (so_far, long)
  row_done (call ∷ calls) mid long keeps so_far =
      let one = one_call mid call.kind call.answer call.at call.bytes long keeps.0 so_far in
      row_done calls (next_story mid call) one.1 keeps.1 one.0

  fails : (mid : Story) (kind : CallKind) (at : ℕ) (bytes : List ℕ) (after : Option Story) →
      length mid.now.bytes ≡ size → KeepsBy P size kind at bytes → Through old mid P →
      FailsBy kind at bytes (Some mid) after → GoesThrough old after P
  fails mid Write at bytes after long keeps so_far is =
      closed_keeps old mid P at bytes after Failed so_far (omega (arith, keeps.0, long))
      (λ image part same fit has. keeps.1 image part (same ∙ long) fit has) is
  fails mid Sync at bytes after long keeps so_far is = (mid, is, so_far)
  fails mid Read at bytes after long keeps so_far is = (mid, is, so_far)
  fails mid Attach at bytes after long keeps so_far is = (mid, is, so_far)

-- so it goes on through the row, as far as that went
pub carries_through : {D : Type 0} (members : disk.Ghosts D) (a c : D) (row : List DiskCall) (answer : DiskAnswer)
    (old mid : Story) (P : List ℕ → Type 0) → CarriesOut members a c row answer → members.told a ≡ Some mid →
    Through old mid P → KeepsEach P (length mid.now.bytes) row → GoesThrough old (members.told c) P
carries_through members a c row Done old mid P is told so_far keeps = (
  story_behind row mid,
  is.goes ∙ ap (λ (o : Option Story). option_map (story_behind row) o) told,
  (row_done old P (length mid.now.bytes) row mid refl keeps so_far).0,
)
carries_through members a c row Failed old mid P is told so_far keeps =
    let stop = is.goes in
    let size = length mid.now.bytes in
    let parts = keeps_parts P size stop.before (stop.call ∷ stop.rest)
    (subst (λ (calls : List DiskCall). KeepsEach P size calls) stop.split keeps) in
    let done = row_done old P size stop.before mid refl parts.0 so_far in
    fails old P size (story_behind stop.before mid) stop.call.kind stop.call.at stop.call.bytes (members.told c) done.1
    parts.1.0 done.0
    (subst (λ (o : Option Story). FailsBy stop.call.kind stop.call.at stop.call.bytes o (members.told c))
    (ap (λ (o : Option Story). option_map (story_behind stop.before) o) told) stop.told)

-- ---- bytes of which others may differ only at such places

pub record IsBut (Changes : ℕ → Type 0) (bytes image : List ℕ) : Type 0 where
  pub long : length image ≡ length bytes
  pub kept : (place : ℕ) → (Changes place → ⊥) → slice_index image place ≡ slice_index bytes place

-- at first they are the same
pub but_starts : (s : Story) (Changes : ℕ → Type 0) → s.now.loose ≡ [] → Through s s (IsBut Changes s.now.bytes)
but_starts s Changes settled = starts s (IsBut Changes s.now.bytes) (λ image left.
    subst (IsBut Changes s.now.bytes) (sym (only_now s.now image settled left))
    (record { long = refl; kept = λ place none. refl }))

-- and a write at such places changes nothing else
pub but_keeps : (Changes : ℕ → Type 0) (bytes part : List ℕ) (at size : ℕ) → length bytes ≡ size →
    at + length part ≤ size → ((place : ℕ) → at ≤ place → place < at + length part → Changes place) →
    KeepsBy (IsBut Changes bytes) size Write at part
but_keeps Changes bytes part at size long within changes = (
  within,
  λ image other same fit is. record {
    long = length-part image other at (omega (arith, within, same, fit)) ∙ is.long;
    kept = λ place none. outside_part image other at place 0 (omega (arith, within, same, fit))
        (by_start place (length other) fit none (cases_lt place at)) ∙ is.kept place none;
  },
) where
  by_end : (place n : ℕ) → n ≡ length part → (Changes place → ⊥) → at ≤ place →
      (place < at + n) ⊎ (at + n ≤ place) → (place < at) ⊎ (at + n ≤ place)
  by_end place n same none from (inl to) = absurd (none (changes place from (omega (arith, to, same))))
  by_end place n same none from (inr behind) = inr behind

  by_start : (place n : ℕ) → n ≡ length part → (Changes place → ⊥) → (place < at) ⊎ (at ≤ place) →
      (place < at) ⊎ (at + n ≤ place)
  by_start place n same none (inl before) = inl before
  by_start place n same none (inr from) = by_end place n same none from (cases_lt place (at + n))
