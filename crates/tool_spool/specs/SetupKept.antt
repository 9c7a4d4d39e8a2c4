-- That the equipment keeps the setup that its host makes, over its notes.
use Rattle.std.specs.Prelude.{◌≡◌, ◌<◌, ◌^◌, List, Option}
use Rattle.setup_law.specs.Setup.{KeepsSetup, due_in}
use Rattle.setup_law.specs.Setup.Due.{Anything}
use Rattle.setup_store.specs.Entries.{Entry}
use Rattle.spool_file.specs.File.{SpoolFile}
use Rattle.trace_log.specs.declared.commands.ToolCommand.{ToolCommand}
use Rattle.message_end.specs.Course.{Course, Meeting, course_of, notes_of}
use Rattle.message_end.specs.Course.Course.{Reached, Stopped}
use Rattle.equipment_tables.specs.declared.plan.EquipmentPlan.{EquipmentPlan}
use Rattle.equipment_tables.specs.Plan.{EquipmentPlanFits}
use Rattle.tool_step.specs.End.{machine}
use Rattle.tool_step.specs.Equipment.{EquipmentView, started_on}
use Rattle.tool_step.specs.Setup.{setup_in}
use Rattle.tool_spool.specs.SpoolKept.{MayHold}

-- between two steps no request waits for its keep, and no start for its setup
abbrev pub OwesNothing : EquipmentPlan → Option (List Entry) → Course EquipmentView → Type 0
OwesNothing plan held (Reached s notes) = due_in plan held notes ≡ Anything
OwesNothing plan held (Stopped notes) = Unit {0}

pub record IsSetupKept (plan : EquipmentPlan) (held : Option (List Entry)) (course : Course EquipmentView) : Type 0
  where
    pub keeps : KeepsSetup plan held (notes_of course)
    pub rests : OwesNothing plan held course

-- so it is whatever it meets over all its starts, over whatever its file held (this profile)
abbrev pub SetupIsKept : Type 0
SetupIsKept =
    (plan : EquipmentPlan) (file : SpoolFile) → EquipmentPlanFits plan → 0 < file.slots
    → file.slots < 2 ^ 16 → MayHold file → (meetings : List (Meeting ToolCommand))
    → IsSetupKept plan (setup_in file) (course_of (started_on plan file) machine meetings)
