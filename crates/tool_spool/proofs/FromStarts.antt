-- Notes that keep the law of the spool from their first one on, a start that finds whatever its file holds.
use Rattle.std.proofs.Common.{◌≡◌, refl, sym, subst, inl, inr, ◌⊎◌, arith, ℕ, false, List, [], ◌∷◌}
use Rattle.message_end.specs.Core.{Step, Went}
use Rattle.message_end.specs.Core.Went.{Goes, Spent}
use Rattle.message_end.specs.Course.{Course, Meeting, broken_at, course_of, filled_at, noted_behind, notes_of, went_on, with_meeting}
use Rattle.message_end.specs.Course.Course.{Reached, Stopped}
use Rattle.message_end.specs.Course.Meeting.{Acts, Breaks, Fills, LosesPower, Restarts, Writes}
use Rattle.message_end.specs.Ends.{Loss, Machine, call_of}
use Rattle.disk_base.specs.declared.cut.CutChoice.{CutChoice}
use Rattle.std.specs.Prelude.{Option, Some, None}
use Rattle.spool_law.specs.Shelf.{Change, KeepsSpool, KeepsSpoolFrom, MayChange, Policy, StartsWith, change_of}
use Rattle.spool_law.specs.Shelf.Change.{Finds}
use Rattle.trace_log.specs.Log.{Happening}
use Rattle.trace_log.specs.Names.{Spooled}
use Rattle.tool_spool.specs.LeavesInStep.{LeaveInTheirSteps, MayChangeInStep}
use Rattle.tool_spool.specs.MadeRoom.{MakesRoomForPuts, MayUse}

-- ---- whatever the first start finds

-- a start, behind no other note
pub record IsFirstStart (change : Change) (before : List Happening) : Type 0 where
  pub found : List (ℕ × Spooled)
  pub is : change ≡ Finds found
  pub alone : before ≡ []

-- the first note is a start, and each later one agrees with all before it; a place that was made for a put is used by
-- it; and messages leave in the step of their cause
abbrev pub KeepsOn : Policy → List Happening → Type 0
KeepsOn policy [] = ⊥
KeepsOn policy (what ∷ before) =
    IsFirstStart (change_of what) before
    ⊎ (MayChange policy before (change_of what) × MayUse before what × MayChangeInStep policy before (change_of what)
    × KeepsOn policy before)

abbrev pub IsSome : List Happening → Type 0
IsSome [] = ⊥
IsSome (what ∷ before) = Unit {0}

pub some-kept : (policy : Policy) (notes : List Happening) → KeepsOn policy notes → IsSome notes
some-kept policy [] kept = kept
some-kept policy (what ∷ before) kept = tt

pub some-behind : (rest notes : List Happening) → IsSome notes → IsSome (noted_behind rest notes)
some-behind [] notes some = some
some-behind (what ∷ rest) notes some = some-behind rest (what ∷ notes) tt

-- the notes before keep it as well
without-newest : (policy : Policy) (what : Happening) (notes : List Happening) → IsSome notes
    → KeepsOn policy (what ∷ notes) → KeepsOn policy notes
without-newest policy what [] some kept = absurd some
without-newest policy what (newest ∷ before) some (inl first) = let alone = first.alone in absurd (cc)
without-newest policy what (newest ∷ before) some (inr more) = more.3

pub kept-before : (policy : Policy) (rest notes : List Happening) → IsSome notes
    → KeepsOn policy (noted_behind rest notes) → KeepsOn policy notes
kept-before policy [] notes some kept = kept
kept-before policy (what ∷ rest) notes some kept =
    without-newest policy what notes some (kept-before policy rest (what ∷ notes) tt kept)

-- ---- the first note is that of the start

-- the oldest of these notes is this one
abbrev pub BeginsWith : Happening → List Happening → Type 0
BeginsWith first [] = ⊥
BeginsWith first (what ∷ []) = what ≡ first
BeginsWith first (what ∷ newest ∷ before) = BeginsWith first (newest ∷ before)

begins-more : (first what : Happening) (notes : List Happening) → BeginsWith first notes
    → BeginsWith first (what ∷ notes)
begins-more first what [] begins = absurd begins
begins-more first what (newest ∷ before) begins = begins

begins-behind : (first : Happening) (rest notes : List Happening) → BeginsWith first notes
    → BeginsWith first (noted_behind rest notes)
begins-behind first [] notes begins = begins
begins-behind first (what ∷ rest) notes begins =
    begins-behind first rest (what ∷ notes) (begins-more first what notes begins)

module _ {S C : Type 0} (machine : Machine S C) (first : Happening) where
  begins-went : (went : Went S Happening) (notes : List Happening) → BeginsWith first notes
      → BeginsWith first (notes_of (went_on went notes))
  begins-went (Goes step) notes begins = begins-behind first step.notes notes begins
  begins-went (Spent step) notes begins = begins-behind first step.notes notes begins

  begins-broken :
      (now : ℕ) (choice : CutChoice) (s : S) (notes : List Happening) (found : Option (Loss S))
      → BeginsWith first notes → BeginsWith first (notes_of (broken_at machine now choice s notes found))
  begins-broken now choice s notes None begins = begins
  begins-broken now choice s notes (Some loss) begins =
      begins-went (machine.restart (loss.left choice) now) (Happening.Power ∷ noted_behind loss.front notes)
      (begins-more first Happening.Power (noted_behind loss.front notes)
      (begins-behind first loss.front notes begins))

  begins-filled : (s : S) (notes : List Happening) (found : Option (Loss S)) → BeginsWith first notes
      → BeginsWith first (notes_of (filled_at s notes found))
  begins-filled s notes None begins = begins
  begins-filled s notes (Some loss) begins = begins-behind first loss.front notes begins

  begins-met : (meeting : Meeting C) (course : Course S) → BeginsWith first (notes_of course)
      → BeginsWith first (notes_of (with_meeting machine meeting course))
  begins-met meeting (Stopped notes) begins = begins
  begins-met (Acts input now) (Reached s notes) begins = begins-went (machine.act s input now) notes begins
  begins-met (Restarts now) (Reached s notes) begins = begins-went (machine.restart s now) notes begins
  begins-met (Writes characters) (Reached s notes) begins =
      begins-more first (Happening.Wrote characters) notes begins
  begins-met LosesPower (Reached s notes) begins = begins-more first Happening.Power notes begins
  begins-met (Breaks input now call choice) (Reached s notes) begins =
      begins-broken now choice s notes (call_of call (machine.losses s input now)) begins
  begins-met (Fills input now call) (Reached s notes) begins =
      begins-filled s notes (call_of call (machine.losses s input now)) begins

  pub begins-course :
      (start : Step S Happening) (rest : List Happening) → start.notes ≡ first ∷ rest → (meetings : List (Meeting C))
      → BeginsWith first (notes_of (course_of start machine meetings))
  begins-course start rest is [] =
      subst (λ (notes : List Happening). BeginsWith first (noted_behind notes [])) (sym is)
      (begins-behind first rest (first ∷ []) refl)
  begins-course start rest is (meeting ∷ meetings) =
      begins-met meeting (course_of start machine meetings) (begins-course start rest is meetings)

-- ---- so the first start finds what its file holds

starts-with : (held : List (ℕ × Spooled)) (base : ℕ) (what : Happening)
    → what ≡ Happening.EquipmentStarted held base → StartsWith held (change_of what)
starts-with held base what is = subst (λ (w : Happening). StartsWith held (change_of w)) (sym is) refl

pub kept-from :
    (policy : Policy) (held : List (ℕ × Spooled)) (base : ℕ) (notes : List Happening)
    → BeginsWith (Happening.EquipmentStarted held base) notes → KeepsOn policy notes
    → KeepsSpoolFrom policy held notes
kept-from policy held base [] begins kept = absurd begins
kept-from policy held base (what ∷ []) begins kept = (starts-with held base what begins, tt)
kept-from policy held base (what ∷ newest ∷ before) begins (inl first) = let alone = first.alone in absurd (cc)
kept-from policy held base (what ∷ newest ∷ before) begins (inr more) =
    (more.0, kept-from policy held base (newest ∷ before) begins more.3)

-- ---- what was made room for is put

pub room-used : (policy : Policy) (notes : List Happening) → KeepsOn policy notes → MakesRoomForPuts notes
room-used policy [] kept = absurd kept
room-used policy (what ∷ []) kept = (inl tt, tt)
room-used policy (what ∷ newest ∷ before) (inl first) = let alone = first.alone in absurd (cc)
room-used policy (what ∷ newest ∷ before) (inr more) = (more.1, room-used policy (newest ∷ before) more.3)

-- ---- and messages leave in their steps

start-in-step : (policy : Policy) (change : Change) (before : List Happening) → IsFirstStart change before
    → MayChangeInStep policy before change
start-in-step policy change before first =
    subst (λ (c : Change). MayChangeInStep policy before c) (sym first.is) tt

pub left-in-steps : (policy : Policy) (notes : List Happening) → KeepsOn policy notes → LeaveInTheirSteps policy notes
left-in-steps policy [] kept = absurd kept
left-in-steps policy (what ∷ before) (inl first) =
    (start-in-step policy (change_of what) before first, none-left before first.alone)
  where
    none-left : (before : List Happening) → before ≡ [] → LeaveInTheirSteps policy before
    none-left [] none = tt
    none-left (newest ∷ before) none = absurd (cc)
left-in-steps policy (what ∷ before) (inr more) = (more.2, left-in-steps policy before more.3)

-- ---- over an empty file

finds-nothing : (policy : Policy) (change : Change) → StartsWith [] change → MayChange policy [] change
finds-nothing policy (Change.Finds found) is = record {
  missing = 0;
  stored = false;
  at_most = omega arith;
  is = is;
}
finds-nothing policy (Change.Stores number message) is = absurd is
finds-nothing policy (Change.HasStored number) is = absurd is
finds-nothing policy (Change.Leaves number why room_for) is = absurd is
finds-nothing policy (Change.HasGone number) is = absurd is
finds-nothing policy (Change.Tries number system) is = absurd is
finds-nothing policy (Change.Sends message) is = absurd is
finds-nothing policy (Change.Receives message) is = absurd is
finds-nothing policy Change.Other is = absurd is

pub kept-empty : (policy : Policy) (notes : List Happening) → KeepsSpoolFrom policy [] notes → KeepsSpool policy notes
kept-empty policy [] kept = tt
kept-empty policy (what ∷ []) kept = (finds-nothing policy (change_of what) kept.0, tt)
kept-empty policy (what ∷ newest ∷ before) kept = (kept.0, kept-empty policy (newest ∷ before) kept.1)
