-- The steps that the equipment has made since its newest start, by all that it has met. The newest comes first.
use Rattle.std.specs.Prelude.{ℕ, List, [], ◌∷◌, Option, Some, None}
use Rattle.trace_log.specs.declared.commands.ToolCommand.{ToolCommand}
use Rattle.trace_log.specs.Log.{Happening}
use Rattle.message_end.specs.Core.{Step, Went, step_in}
use Rattle.message_end.specs.Core.Went.{Goes, Spent}
use Rattle.message_end.specs.Course.{Course, Meeting, course_of}
use Rattle.message_end.specs.Course.Course.{Reached, Stopped}
use Rattle.message_end.specs.Course.Meeting.{Acts, Breaks, Fills, LosesPower, Restarts, Writes}
use Rattle.message_end.specs.Ends.{Loss, call_of}
use Rattle.tool_step.specs.End.{machine}
use Rattle.tool_step.specs.Equipment.{EquipmentView, act, restarts}
use Rattle.tool_step.specs.Losses.{losses}
use Rattle.tool_reports.specs.Sampled.{Stepped}

abbrev pub stepped : ℕ → List Happening → List Happening → Stepped
stepped now before notes = record { now = now; before = before; notes = notes }

-- a step, where it has noted something: each that goes on notes its end, and one that stops with nothing noted has sent
-- nothing
abbrev pub with_step : ℕ → List Happening → List Happening → List Stepped → List Stepped
with_step now before [] steps = steps
with_step now before (what ∷ notes) steps = stepped now before (what ∷ notes) ∷ steps

-- behind a start there is none, unless it has no numbers
abbrev pub steps_started : Went EquipmentView Happening → List Stepped → List Stepped
steps_started (Goes step) steps = []
steps_started (Spent step) steps = steps

-- a step that stops at a call of its disk, for want of power or of room
abbrev pub steps_broken : (Loss EquipmentView → Went EquipmentView Happening) → ℕ → List Happening
    → Option (Loss EquipmentView) → List Stepped → List Stepped
steps_broken again now notes None steps = steps
steps_broken again now notes (Some loss) steps = steps_started (again loss) (with_step now notes loss.front steps)

abbrev pub steps_filled : ℕ → List Happening → Option (Loss EquipmentView) → List Stepped → List Stepped
steps_filled now notes None steps = steps
steps_filled now notes (Some loss) steps = with_step now notes loss.front steps

abbrev pub steps_at : Meeting ToolCommand → EquipmentView → List Happening → List Stepped → List Stepped
steps_at (Acts input now) s notes steps = with_step now notes (step_in (act s input now)).notes steps
steps_at (Restarts now) s notes steps = steps_started (restarts s now) steps
steps_at (Writes characters) s notes steps = steps
steps_at LosesPower s notes steps = steps
steps_at (Breaks input now call choice) s notes steps =
    steps_broken (λ loss. restarts (loss.left choice) now) now notes (call_of call (losses s input now)) steps
steps_at (Fills input now call) s notes steps = steps_filled now notes (call_of call (losses s input now)) steps

-- behind a meeting, at what the equipment was by then
abbrev pub steps_behind : Meeting ToolCommand → Course EquipmentView → List Stepped → List Stepped
steps_behind meeting (Reached s notes) steps = steps_at meeting s notes steps
steps_behind meeting (Stopped notes) steps = steps

abbrev pub steps_met : Step EquipmentView Happening → List (Meeting ToolCommand) → List Stepped
steps_met start [] = []
steps_met start (meeting ∷ before) = steps_behind meeting (course_of start machine before) (steps_met start before)
