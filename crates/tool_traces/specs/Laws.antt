-- What holds of the trace data of the equipment whatever it meets.
use Rattle.std.specs.Prelude.{◌≡◌, ◌≤◌, List, [], length}
use Rattle.gem_trace.specs.History.{traces_at}
use Rattle.spool_file.specs.File.{SpoolFile}
use Rattle.trace_log.specs.declared.commands.ToolCommand.{ToolCommand}
use Rattle.message_end.specs.Course.{Course, Meeting, course_of, notes_of}
use Rattle.message_end.specs.Course.Course.{Reached, Stopped}
use Rattle.equipment_tables.specs.declared.plan.EquipmentPlan.{EquipmentPlan}
use Rattle.equipment_tables.specs.Plan.{EquipmentPlanFits}
use Rattle.tool_step.specs.End.{machine}
use Rattle.tool_step.specs.Equipment.{EquipmentView, started_on}
use Rattle.tool_law.specs.Sound.{AllCanBeSent}
use Rattle.tool_reports.specs.Sampled.{AreSampled, Stepped, history_of}
use Rattle.tool_traces.specs.Steps.{steps_met}

-- between two steps those traces run that are looked back for, 16 at most, and each S6F1 that was due has had its turn
pub record IsBetweenSteps (plan : EquipmentPlan) (s : EquipmentView) (steps : List Stepped) : Type 0 where
  pub running : s.node.own.tracing.running ≡ traces_at (history_of plan steps)
  pub most : length s.node.own.tracing.running ≤ 16
  pub made : s.node.own.tracing.made ≡ []

-- where it goes on
abbrev pub GoesOnBetweenSteps : EquipmentPlan → Course EquipmentView → List Stepped → Type 0
GoesOnBetweenSteps plan (Reached s notes) steps = IsBetweenSteps plan s steps
GoesOnBetweenSteps plan (Stopped notes) steps = Unit {0}

pub record TracesHold (plan : EquipmentPlan) (course : Course EquipmentView) (steps : List Stepped) : Type 0 where
  pub sampled : AreSampled plan (notes_of course) steps
  pub between : GoesOnBetweenSteps plan course steps

-- whatever it meets over all its starts, at any moments, over a spool with whatever messages that can be sent (SEMI
-- E30, trace data collection)
abbrev pub TracesAreSampled : Type 0
TracesAreSampled =
    (plan : EquipmentPlan) (file : SpoolFile) → EquipmentPlanFits plan → AllCanBeSent file.list
    → (meetings : List (Meeting ToolCommand))
    → TracesHold plan (course_of (started_on plan file) machine meetings)
    (steps_met (started_on plan file) meetings)
