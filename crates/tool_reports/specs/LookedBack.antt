-- That the equipment's tables are what its history makes of the plan's, and that the setup which it keeps is what its
-- notes tell.
use Rattle.std.specs.Prelude.{◌≡◌, ℕ, List, Option, None}
use Rattle.setup_law.specs.Setup.{list_in}
use Rattle.setup_store.specs.Entries.{Entry}
use Rattle.spool_file.specs.File.{SpoolFile}
use Rattle.trace_log.specs.declared.commands.ToolCommand.{ToolCommand}
use Rattle.message_end.specs.Core.{Went}
use Rattle.message_end.specs.Core.Went.{Goes, Spent}
use Rattle.message_end.specs.Course.{Course, Meeting, course_of, noted_behind}
use Rattle.message_end.specs.Course.Course.{Reached, Stopped}
use Rattle.message_end.specs.Ends.{Input}
use Rattle.trace_log.specs.Log.{Happening}
use Rattle.equipment_tables.specs.declared.plan.EquipmentPlan.{EquipmentPlan}
use Rattle.equipment_tables.specs.Plan.{EquipmentPlanFits}
use Rattle.tool_law.specs.Sound.{AllCanBeSent}
use Rattle.tool_step.specs.End.{machine}
use Rattle.tool_step.specs.Equipment.{EquipmentView, begun_step, started_on}
use Rattle.tool_step.specs.Setup.{setup_in}
use Rattle.tool_reports.specs.Reported.{tables_in}

-- as long as the equipment goes on, each variable, constant, report, event and alarm, and what is spooled, has what was
-- set last of it in this start, by all that the tool has commanded and the host has asked for, and else what the plan
-- says (SEMI E30)
abbrev pub HasWhatWasSet : EquipmentPlan → Course EquipmentView → Type 0
HasWhatWasSet plan (Reached s notes) = s.node.own.tables ≡ tables_in plan notes
HasWhatWasSet plan (Stopped notes) = Unit {0}

-- so it has between any two steps, whatever it meets over all its starts, over a spool with whatever messages that can
-- be sent
abbrev pub TablesAreWhatWasSet : Type 0
TablesAreWhatWasSet =
    (plan : EquipmentPlan) (file : SpoolFile) → EquipmentPlanFits plan → AllCanBeSent file.list
    → (meetings : List (Meeting ToolCommand))
    → HasWhatWasSet plan (course_of (started_on plan file) machine meetings)

-- behind all that is due and given in a step, before its disk is asked: by all that was noted so far
abbrev pub HasSetSoFar : EquipmentPlan → List Happening → Went EquipmentView Happening → Type 0
HasSetSoFar plan notes (Goes step) = step.next.node.own.tables ≡ tables_in plan (noted_behind step.notes notes)
HasSetSoFar plan notes (Spent step) = Unit {0}

abbrev pub SetsInSteps : EquipmentPlan → Course EquipmentView → Type 0
SetsInSteps plan (Reached s notes) =
    (input : Input ToolCommand) (now : ℕ) → HasSetSoFar plan notes (begun_step s input now)
SetsInSteps plan (Stopped notes) = Unit {0}

-- so it has within a step. What is due in it is decided by the tables between two steps, and what goes on behind its
-- input by these; its input alone changes them, and is answered by the former, with its own setting. So each answer,
-- each S5F1, the delay and what becomes of the spool are of what was set last
abbrev pub StepsHaveWhatWasSet : Type 0
StepsHaveWhatWasSet =
    (plan : EquipmentPlan) (file : SpoolFile) → EquipmentPlanFits plan → AllCanBeSent file.list
    → (meetings : List (Meeting ToolCommand))
    → SetsInSteps plan (course_of (started_on plan file) machine meetings)

-- as long as the equipment goes on, it keeps the setup that its start has found, with each primary behind it that was
-- noted as kept, and no request waits between two steps for what it has asked of an object outside
abbrev pub HasWhatWasKept : Option (List Entry) → Course EquipmentView → Type 0
HasWhatWasKept held (Reached s notes) = (s.node.own.setup ≡ list_in held notes) × (s.node.own.owed ≡ None)
HasWhatWasKept held (Stopped notes) = Unit {0}

abbrev pub SetupIsWhatWasKept : Type 0
SetupIsWhatWasKept =
    (plan : EquipmentPlan) (file : SpoolFile) → EquipmentPlanFits plan → AllCanBeSent file.list
    → (meetings : List (Meeting ToolCommand))
    → HasWhatWasKept (setup_in file) (course_of (started_on plan file) machine meetings)
