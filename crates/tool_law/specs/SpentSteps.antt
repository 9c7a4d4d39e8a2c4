-- How many system bytes a step draws, and where there are too few.
use Rattle.std.specs.Prelude.{◌≡◌, ◌+◌, ◌<◌, ◌&&◌, ◌||◌, ℕ, Bool, true, false, List}
use Rattle.trace_log.specs.declared.commands.ToolCommand.{ToolCommand}
use Rattle.message_end.specs.Core.{Went, step_in}
use Rattle.message_end.specs.Core.Went.{Goes, Spent}
use Rattle.message_end.specs.Doings.{Doing}
use Rattle.message_end.specs.Ends.{Input}
use Rattle.equipment_tables.specs.declared.plan.EquipmentPlan.{EquipmentPlan}
use Rattle.tool_step.specs.Equipment.{EquipmentView, act, is_marked_out, needs_numbers, node_step, reserving}
use Rattle.tool_law.specs.Laws.{DidOf}
use Rattle.tool_law.specs.Putting.{first_puts, one_lacks, where_goes}
use Rattle.tool_step.specs.Step.{first_parts}

-- the step has ended with its numbers spent
abbrev pub ends_spent : {S N : Type 0} → Went S N → Bool
ends_spent (Goes step) = false
ends_spent (Spent step) = true

-- it needs more system bytes, and the mark can't move on: the one above it is of more than four bytes
abbrev pub finds_mark_spent : EquipmentView → Bool
finds_mark_spent s = needs_numbers s && is_marked_out s.file.mark.value

-- it puts a message, and `room` answers that the numbers of the spool are at their end
abbrev pub finds_spool_spent : EquipmentView → Input ToolCommand → ℕ → Bool
finds_spool_spent s input now =
    where_goes (λ step. one_lacks (first_puts input now) (first_parts input now) (node_step step)) (reserving s)

abbrev pub finds_spent : EquipmentView → Input ToolCommand → ℕ → Bool
finds_spent s input now = finds_mark_spent s || finds_spool_spent s input now

-- whatever it is, and whatever it is given, a step draws fewer than 128 system bytes
abbrev pub DrawsFew : Type 0
DrawsFew =
    (s : EquipmentView) (input : Input ToolCommand) (now : ℕ)
    → (step_in (act s input now)).next.node.core.numbers.next < s.node.core.numbers.next + 128

-- so the numbers are spent for one of two causes, and where there is one of them they are (this profile)
abbrev pub SpentByCause : Type 0
SpentByCause =
    (plan : EquipmentPlan) (base : ℕ) (doings : List Doing) (s : EquipmentView) (input : Input ToolCommand) (now : ℕ)
    → DidOf plan base doings s → ends_spent (act s input now) ≡ finds_spent s input now
