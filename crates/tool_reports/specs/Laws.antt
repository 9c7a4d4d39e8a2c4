-- What holds of the reports of the equipment whatever it meets.
use Rattle.std.specs.Prelude.{List}
use Rattle.spool_file.specs.File.{SpoolFile}
use Rattle.message_end.specs.Course.{Meeting, course_of}
use Rattle.trace_log.specs.declared.commands.ToolCommand.{ToolCommand}
use Rattle.equipment_tables.specs.declared.plan.EquipmentPlan.{EquipmentPlan}
use Rattle.equipment_tables.specs.Plan.{EquipmentPlanFits}
use Rattle.tool_step.specs.End.{machine}
use Rattle.tool_step.specs.Equipment.{started_on}
use Rattle.tool_reports.specs.Histories.{ReportsHold, commands_met}
use Rattle.tool_law.specs.Sound.{AllCanBeSent}

-- whatever it meets over all its starts, at any moments, over a spool with whatever messages that can be sent, its
-- reports hold what they tell of, at each moment on the way and where its numbers are spent; and each command of the
-- tool
-- counts, in its order (SEMI E30, event data collection)
abbrev pub ReportsAreOfTheirEvents : Type 0
ReportsAreOfTheirEvents =
    (plan : EquipmentPlan) (file : SpoolFile) → EquipmentPlanFits plan → AllCanBeSent file.list
    → (meetings : List (Meeting ToolCommand))
    → ReportsHold plan (course_of (started_on plan file) machine meetings)
    (commands_met (started_on plan file) meetings)
