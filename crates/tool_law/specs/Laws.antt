-- What holds of the equipment whatever it is told.
use Rattle.std.specs.Prelude.{◌≡◌, ℕ, List}
use Rattle.spool_file.specs.File.{SpoolFile}
use Rattle.message_end.specs.Doings.{Doing}
use Rattle.message_end.specs.Ends.{KeepsLaw}
use Rattle.message_end.specs.History.{IsHistoryOf}
use Rattle.spool_law.specs.Tries.{tries_in}
use Rattle.trace_log.specs.Commands.{ToolCommandFits}
use Rattle.equipment_tables.specs.declared.plan.EquipmentPlan.{EquipmentPlan}
use Rattle.equipment_tables.specs.Plan.{EquipmentPlanFits}
use Rattle.tool_step.specs.End.{machine}
use Rattle.tool_step.specs.Equipment.{EquipmentView, starts}
use Rattle.tool_law.specs.Sound.{AllCanBeSent, IsKept}
use Rattle.tool_step.specs.Step.{end_plan}
use Rattle.tool_law.specs.Tried.{AreInTurn, AreTried, newest_of}

-- these doings since a start have made the equipment what it is: what it keeps is sound, and its core is theirs. With
-- them it has tried the messages of its spool in turn, the last one with the system bytes that it keeps
pub record DidOf (plan : EquipmentPlan) (base : ℕ) (doings : List Doing) (s : EquipmentView) : Type 0 where
  pub sound : IsKept plan s
  pub is : IsHistoryOf (end_plan plan) base doings s.node.core
  pub tried : AreTried (end_plan plan) doings
  pub turn : AreInTurn (tries_in doings) s.node.core
  pub last : s.node.own.tried ≡ newest_of (tries_in doings)

-- whatever it is told, over a spool with whatever messages that can be sent, it keeps the law of an end
abbrev pub EquipmentKeepsItsLaw : Type 0
EquipmentKeepsItsLaw =
    (plan : EquipmentPlan) (file : SpoolFile) → EquipmentPlanFits plan → AllCanBeSent file.list
    → KeepsLaw (end_plan plan) (DidOf plan) ToolCommandFits (starts plan file) machine
