-- What each end has noted of a log, as what its own course has brought.
use Rattle.std.specs.Prelude.{◌≡◌, ℕ, List, [], ◌∷◌, Option, Some, None, if◌then◌else◌}
use Rattle.disk_base.specs.declared.cut.CutChoice.{CutChoice}
use Rattle.gl_base.specs.declared.side.Side.{Side}
use Rattle.gl_base.specs.declared.side.Side.TheVariants.{Equipment, Host}
use Rattle.gl_base.specs.Side.{is_same_side}
use Rattle.line_schedule.specs.declared.event.Event.{Event}
use Rattle.message_end.specs.Core.{Step, Went, step_in}
use Rattle.message_end.specs.Course.{Course, Meeting, course_of, notes_of}
use Rattle.message_end.specs.Course.Course.{Reached, Stopped}
use Rattle.message_end.specs.Course.Meeting.{Acts, Breaks, Fills, LosesPower, Restarts, Writes}
use Rattle.message_end.specs.Ends.{Loss, Machine, call_of}
use Rattle.trace_log.specs.Log.{Entry, Happening}
use Rattle.trace_log.specs.Log.Entry.{Ended, Noted, Slipped}
use Rattle.trace_log.specs.declared.commands.HostCommand.{HostCommand}
use Rattle.trace_log.specs.declared.commands.ToolCommand.{ToolCommand}
use Rattle.end_pair.specs.Run.{log_of}

-- what one end has noted, the newest first as in the log
abbrev pub noted_by : Side → List Entry → List Happening
noted_by side [] = []
noted_by side (Noted moment end what ∷ before) =
    if is_same_side side end then what ∷ noted_by side before else noted_by side before
noted_by side (Slipped moment end frame characters ∷ before) = noted_by side before
noted_by side (Ended moment ∷ before) = noted_by side before

-- ---- with its moments

-- each note of one end with its moment
abbrev pub TimedNotes : Type 0
TimedNotes = List (ℕ × Happening)

abbrev pub timed_by : Side → List Entry → TimedNotes
timed_by side [] = []
timed_by side (Noted moment end what ∷ before) =
    if is_same_side side end then (moment, what) ∷ timed_by side before else timed_by side before
timed_by side (Slipped moment end frame characters ∷ before) = timed_by side before
timed_by side (Ended moment ∷ before) = timed_by side before

-- notes of one moment behind these, the oldest of them first
abbrev pub timed_behind : ℕ → List Happening → TimedNotes → TimedNotes
timed_behind now [] before = before
timed_behind now (what ∷ rest) before = timed_behind now rest ((now, what) ∷ before)

-- the world notes this behind them, at some moment
pub record IsNotedThen (what : Happening) (before timed : TimedNotes) : Type 0 where
  pub moment : ℕ
  pub is : timed ≡ (moment, what) ∷ before

-- the power goes at a call of the disk, if there is that call, and the start is noted at the same moment
abbrev pub IsBrokenThen :
    {S : Type 0} → (S → ℕ → Went S Happening) → ℕ → CutChoice → Option (Loss S) → TimedNotes → TimedNotes → Type 0
IsBrokenThen restart now choice None before timed = timed ≡ before
IsBrokenThen restart now choice (Some loss) before timed =
    timed
    ≡ timed_behind now (Happening.Power ∷ (step_in (restart (loss.left choice) now)).notes)
    (timed_behind now loss.front before)

abbrev pub IsFilledThen : {S : Type 0} → ℕ → Option (Loss S) → TimedNotes → TimedNotes → Type 0
IsFilledThen now None before timed = timed ≡ before
IsFilledThen now (Some loss) before timed = timed ≡ timed_behind now loss.front before

-- what is noted of a meeting, behind what was noted before: each note of a step or of a start at the moment of that
abbrev pub IsMetThen : {S C : Type 0} → Machine S C → Meeting C → Course S → TimedNotes → TimedNotes → Type 0
IsMetThen machine meeting (Stopped notes) before timed = timed ≡ before
IsMetThen machine (Acts input now) (Reached s notes) before timed =
    timed ≡ timed_behind now (step_in (machine.act s input now)).notes before
IsMetThen machine (Restarts now) (Reached s notes) before timed =
    timed ≡ timed_behind now (step_in (machine.restart s now)).notes before
IsMetThen machine (Writes characters) (Reached s notes) before timed =
    IsNotedThen (Happening.Wrote characters) before timed
IsMetThen machine LosesPower (Reached s notes) before timed = IsNotedThen Happening.Power before timed
IsMetThen machine (Breaks input now call choice) (Reached s notes) before timed =
    IsBrokenThen machine.restart now choice (call_of call (machine.losses s input now)) before timed
IsMetThen machine (Fills input now call) (Reached s notes) before timed =
    IsFilledThen now (call_of call (machine.losses s input now)) before timed

-- all that is noted of a course, each note with its moment
abbrev pub AreTimesOf : {S C : Type 0} → Step S Happening → Machine S C → List (Meeting C) → TimedNotes → Type 0
AreTimesOf start machine [] timed = timed ≡ timed_behind 0 start.notes []
AreTimesOf start machine (meeting ∷ met) timed =
    (before : TimedNotes) × (AreTimesOf start machine met before
    × IsMetThen machine meeting (course_of start machine met) before timed)

-- ---- as a course

-- each end has met some things, and what it noted of them, and when, is what the log has of it
pub record AreOfCourses {E H : Type 0}
    (e : Machine E ToolCommand) (h : Machine H HostCommand) (equipment : Step E Happening) (host : Step H Happening)
    (log : List Entry) : Type 0 where
  pub equipment_met : List (Meeting ToolCommand)
  pub host_met : List (Meeting HostCommand)
  pub equipment_noted : noted_by Equipment log ≡ notes_of (course_of equipment e equipment_met)
  pub host_noted : noted_by Host log ≡ notes_of (course_of host h host_met)
  pub equipment_timed : AreTimesOf equipment e equipment_met (timed_by Equipment log)
  pub host_timed : AreTimesOf host h host_met (timed_by Host log)

-- what holds of the notes of every course of an end, and of their moments, holds of its entries in the log of every run
abbrev pub EntriesAreOfCourses : Type 0 → Type 0 → Type 0
EntriesAreOfCourses E H =
    (e : Machine E ToolCommand) (h : Machine H HostCommand) (equipment : Step E Happening) (host : Step H Happening)
    (events : List Event) → AreOfCourses e h equipment host (log_of e h equipment host events)
