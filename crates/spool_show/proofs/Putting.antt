-- What was put of the bytes that a disk tells, and more behind it.
use Rattle.std.proofs.Common.{◌≡◌, ◌≢◌, refl, sym, ◌∙◌, ap, subst, ℕ, List, [], ◌++◌, Option, Some, append_assoc}
use Rattle.std.proofs.Common.{append-nil}
use Rattle.disk_base.specs.Faults.{Rose}
use Rattle.disk_base.specs.Story.{Story}
use Rattle.disk_base.specs.declared.disk.Disk as trait
use Rattle.disk_base.proofs.Stretches.{same_then}
use Rattle.gl_base.specs.Sending.{IsUnderWay, WroteShort}
use Rattle.gl_base.specs.Sink.{SinkHealth}
use Rattle.gl_base.specs.Told.{SinkTold}
use Rattle.gl_base.specs.declared.copying.SinkAnswer.TheVariants.{Failed}
use Rattle.gl_base.proofs.Appending.{passes_behind, told, under_way_more, wrote_nothing}
use Rattle.spool_show.specs.Showing.{HasShown, IsCounted, Puts, PutsText}
use Rattle.spool_show.specs.declared.spool_end.SpoolEnd.{SpoolEnd}
use Rattle.spool_show.specs.declared.spool_end.SpoolEnd.TheVariants as end
use Rattle.spool_slots.specs.Spool.{SpoolView, in_hand, known_of}

-- ---- what was put

-- nothing
pub nothing_put : {was : Option (List ℕ)} {a : SinkHealth} (page : List ℕ) →
    IsUnderWay (told was was a a) (page ++ []) page
nothing_put page = record { sent = []; wrote = wrote_nothing; whole = append-nil page }

pub disk_failed : {was : Option (List ℕ)} {a : SinkHealth} (before : Option Story) (wanted : List ℕ → List ℕ)
    (page : List ℕ) → Puts before wanted (told was was a a) page page end.DiskFailed
disk_failed before wanted page = ([], nothing_put page, λ s is. (wanted s.now.bytes, refl))

pub none_put : {was : Option (List ℕ)} {a : SinkHealth} (before : Option Story) (wanted : List ℕ → List ℕ)
    (page : List ℕ) → ((s : Story) → before ≡ Some s → wanted s.now.bytes ≡ []) →
    Puts before wanted (told was was a a) page page end.Done
none_put before wanted page none = ([], nothing_put page, λ s is. sym (none s is))

module _ (before : Option Story) (out : SinkTold) (old new : List ℕ) where
  -- a text, which is what was wanted
  pub text_put : (wanted : List ℕ → List ℕ) (text : List ℕ) (e : SpoolEnd) →
      ((s : Story) → before ≡ Some s → text ≡ wanted s.now.bytes) → PutsText text out old new e →
      Puts before wanted out old new e
  text_put wanted text end.Done is put = (text, put, is)
  text_put wanted text end.WriteFailed is put =
      ([], subst (λ (t : List ℕ). WroteShort out t) (sym (append-nil old)) put, λ s told_is. (wanted s.now.bytes, refl))
  text_put wanted text end.DiskFailed is put = absurd put
  text_put wanted text (end.NotSpool place) is put = absurd put

  module _ (wanted other : List ℕ → List ℕ) where
    -- what was wanted, said otherwise
    pub puts_as : (e : SpoolEnd) → ((s : Story) → before ≡ Some s → wanted s.now.bytes ≡ other s.now.bytes) →
        Puts before wanted out old new e → Puts before other out old new e
    puts_as end.Done same (text, under, is) = (text, under, λ s told_is. is s told_is ∙ same s told_is)
    puts_as end.DiskFailed same (text, under, front) =
        (text, under, λ s told_is. ((front s told_is).0, sym (same s told_is) ∙ (front s told_is).1))
    puts_as end.WriteFailed same (text, short, front) =
        (text, short, λ s told_is. ((front s told_is).0, sym (same s told_is) ∙ (front s told_is).1))
    puts_as (end.NotSpool place) same puts = absurd puts

    -- a front of what was wanted, where it stopped
    pub puts_front : (e : SpoolEnd) → e ≢ end.Done → ((s : Story) → before ≡ Some s → (rest : List ℕ)
        × (other s.now.bytes ≡ wanted s.now.bytes ++ rest)) → Puts before wanted out old new e →
        Puts before other out old new e
    puts_front end.Done stopped more puts = absurd (stopped refl)
    puts_front end.DiskFailed stopped more (text, under, front) =
        (text, under, λ s told_is. longer text s (front s told_is) (more s told_is)) where
          longer : (text : List ℕ) (s : Story) → (rest : List ℕ) × (wanted s.now.bytes ≡ text ++ rest) →
              (rest : List ℕ) × (other s.now.bytes ≡ wanted s.now.bytes ++ rest) →
              (rest : List ℕ) × (other s.now.bytes ≡ text ++ rest)
          longer text s one two =
              (one.0 ++ two.0, two.1 ∙ ap (λ (t : List ℕ). t ++ two.0) one.1 ∙ append_assoc text one.0 two.0)
    puts_front end.WriteFailed stopped more (text, short, front) =
        (text, short, λ s told_is. longer text s (front s told_is) (more s told_is)) where
          longer : (text : List ℕ) (s : Story) → (rest : List ℕ) × (wanted s.now.bytes ≡ text ++ rest) →
              (rest : List ℕ) × (other s.now.bytes ≡ wanted s.now.bytes ++ rest) →
              (rest : List ℕ) × (other s.now.bytes ≡ text ++ rest)
          longer text s one two =
              (one.0 ++ two.0, two.1 ∙ ap (λ (t : List ℕ). t ++ two.0) one.1 ∙ append_assoc text one.0 two.0)
    puts_front (end.NotSpool place) stopped more puts = absurd puts

-- ---- and more behind it

front_then : (first second : List ℕ → List ℕ) (text more : List ℕ) (s : Story) → text ≡ first s.now.bytes →
    (rest : List ℕ) × (second s.now.bytes ≡ more ++ rest) →
    (rest : List ℕ) × (first s.now.bytes ++ second s.now.bytes ≡ (text ++ more) ++ rest)
front_then first second text more s is rest = (
  rest.0,
  ap (λ (t : List ℕ). t ++ second s.now.bytes) (sym is) ∙ ap (λ (t : List ℕ). text ++ t) rest.1
      ∙ sym (append_assoc text more rest.0),
)

module _ {was mid : Option (List ℕ)} {a b : SinkHealth} (now : Option (List ℕ)) (c : SinkHealth)
    (before : Option Story) (first second : List ℕ → List ℕ) (old page new : List ℕ) where
  pub puts_then : (e : SpoolEnd) → Puts before first (told was mid a b) old page end.Done →
      Puts before second (told mid now b c) page new e →
      Puts before (λ bytes. first bytes ++ second bytes) (told was now a c) old new e
  puts_then end.Done (text, under, is) (more, under_more, is_more) = (
    text ++ more,
    subst (λ (t : List ℕ). IsUnderWay (told was now a c) t new) (append_assoc old text more)
        (under_way_more (old ++ text) page more new under under_more),
    λ s told_is. ap (λ (t : List ℕ). t ++ more) (is s told_is)
        ∙ ap (λ (t : List ℕ). first s.now.bytes ++ t) (is_more s told_is),
  )
  puts_then end.DiskFailed (text, under, is) (more, under_more, rest) = (
    text ++ more,
    subst (λ (t : List ℕ). IsUnderWay (told was now a c) t new) (append_assoc old text more)
        (under_way_more (old ++ text) page more new under under_more),
    λ s told_is. front_then first second text more s (is s told_is) (rest s told_is),
  )
  puts_then end.WriteFailed (text, under, is) (more, cut, rest) = (
    text ++ more,
    subst (λ (t : List ℕ). WroteShort (told was now a c) t) (append_assoc old text more)
        (passes_behind now c (old ++ text) page more new Failed under cut),
    λ s told_is. front_then first second text more s (is s told_is) (rest s told_is),
  )
  puts_then (end.NotSpool place) so_far puts = absurd puts

-- ---- the spool behind it

-- the count of faults, over two stretches of which the first one went well
count_on : (a b c : ℕ) (e : SpoolEnd) → b ≡ a → IsCounted b c e → IsCounted a c e
count_on a b c end.Done same is = is ∙ same
count_on a b c end.WriteFailed same is = is ∙ same
count_on a b c (end.NotSpool place) same is = is ∙ same
count_on a b c end.DiskFailed same is = subst (λ n. Rose n c) same is

pub shown_none : {D : Type 0} {members : trait.Ghosts D} (v : SpoolView D) → HasShown members v v end.Done
shown_none v = record { same = refl; told = refl; same_disk = (refl, refl, refl); count = refl }

pub shown_on : {D : Type 0} {members : trait.Ghosts D} (v w x : SpoolView D) (e : SpoolEnd) →
    HasShown members v w end.Done → HasShown members w x e → HasShown members v x e
shown_on {D} {members} v w x e one two = record {
  same = two.same
      ∙ ap (λ (u : SpoolView D). in_hand x.disk (known_of u)) one.same;
  told = two.told ∙ one.told;
  same_disk = same_then one.same_disk two.same_disk;
  count = count_on (members.health v.disk).faults (members.health w.disk).faults (members.health x.disk).faults e
      one.count two.count;
}
