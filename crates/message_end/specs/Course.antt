-- What an end has noted over all its starts, whatever it was given and wherever its power was lost. The newest comes
-- first.
use Rattle.std.specs.Prelude.{ℕ, List, [], ◌∷◌, Option, Some, None}
use Rattle.disk_base.specs.declared.cut.CutChoice.{CutChoice}
use Rattle.trace_log.specs.Log.{Happening}
use Rattle.message_end.specs.Core.{Step, Went}
use Rattle.message_end.specs.Core.Went.{Goes, Spent}
use Rattle.message_end.specs.Ends.{Input, Loss, Machine, call_of}

-- what an end meets: it makes a step; it starts anew; the world notes the characters that a step has written, or that
-- power was lost; it loses its power at a call of its disk in a step, which its disk outlives by a choice, and starts
-- anew at once; or there is no room for such a call, and it does nothing more
pub data Meeting (C : Type 0) : Type 0 where
  Acts : (input : Input C) (now : ℕ) → Meeting C
  Restarts : (now : ℕ) → Meeting C
  Writes : (characters : List ℕ) → Meeting C
  LosesPower : Meeting C
  Breaks : (input : Input C) (now call : ℕ) (choice : CutChoice) → Meeting C
  Fills : (input : Input C) (now call : ℕ) → Meeting C

-- an end has come to a state with all that was noted, or it goes on no more
pub data Course (S : Type 0) : Type 0 where
  Reached : (s : S) (notes : List Happening) → Course S
  Stopped : (notes : List Happening) → Course S

-- these were noted behind those, the oldest of these first
abbrev pub noted_behind : List Happening → List Happening → List Happening
noted_behind [] before = before
noted_behind (what ∷ rest) before = noted_behind rest (what ∷ before)

abbrev pub went_on : {S : Type 0} → Went S Happening → List Happening → Course S
went_on (Goes step) before = Reached step.next (noted_behind step.notes before)
went_on (Spent step) before = Stopped (noted_behind step.notes before)

-- what was noted by the loss stands, then the loss, and the start; where the step makes fewer calls, nothing happens
abbrev pub broken_at :
    {S C : Type 0} → Machine S C → ℕ → CutChoice → S → List Happening → Option (Loss S) → Course S
broken_at machine now choice s notes (Some loss) =
    went_on (machine.restart (loss.left choice) now) (Happening.Power ∷ noted_behind loss.front notes)
broken_at machine now choice s notes None = Reached s notes

abbrev pub filled_at : {S : Type 0} → S → List Happening → Option (Loss S) → Course S
filled_at s notes (Some loss) = Stopped (noted_behind loss.front notes)
filled_at s notes None = Reached s notes

abbrev pub met_by : {S C : Type 0} → Machine S C → Meeting C → S → List Happening → Course S
met_by machine (Acts input now) s notes = went_on (machine.act s input now) notes
met_by machine (Restarts now) s notes = went_on (machine.restart s now) notes
met_by machine (Writes characters) s notes = Reached s (Happening.Wrote characters ∷ notes)
met_by machine LosesPower s notes = Reached s (Happening.Power ∷ notes)
met_by machine (Breaks input now call choice) s notes =
    broken_at machine now choice s notes (call_of call (machine.losses s input now))
met_by machine (Fills input now call) s notes = filled_at s notes (call_of call (machine.losses s input now))

-- one meeting more, where it goes on
abbrev pub with_meeting : {S C : Type 0} → Machine S C → Meeting C → Course S → Course S
with_meeting machine meeting (Reached s notes) = met_by machine meeting s notes
with_meeting machine meeting (Stopped notes) = Stopped notes

-- all that an end met since its first start
abbrev pub course_of : {S C : Type 0} → Step S Happening → Machine S C → List (Meeting C) → Course S
course_of start machine [] = Reached start.next (noted_behind start.notes [])
course_of start machine (meeting ∷ before) = with_meeting machine meeting (course_of start machine before)

abbrev pub notes_of : {S : Type 0} → Course S → List Happening
notes_of (Reached s notes) = notes
notes_of (Stopped notes) = notes
