-- A step up to its last parts.
use Rattle.std.proofs.Common.{◌≡◌, ◌∙◌, sym, subst, ◌≤◌, ℕ}
use Rattle.std.specs.Prelude.{Result, Ok, Err, IfOk}
use Rattle.arrayvec.specs.ArrayVec.{array_vec_len}
use Rattle.disk_base.specs.declared.disk.Disk as disk
use Rattle.gem_spool.specs.declared.spool.GemSpool.{GemSpool}
use Rattle.message_flow.specs.declared.step.StepOut.{StepOut}
use Rattle.trace_log.specs.declared.commands.ToolCommand.{ToolCommand}
use Rattle.trace_log.specs.Log.{Happening}
use Rattle.message_end.specs.Core.{Step, step_in}
use Rattle.message_end.specs.Ends.{Input}
use Rattle.message_end.specs.Parts.{Node}
use Rattle.spool_works.specs.declared.ended.Ended.{Ended}
use Rattle.tool_step.specs.declared.kind.Kind.{Kind}
use Rattle.tool_step.specs.Equipment.{EquipmentView, begun_step}
use Rattle.tool_step.specs.Own.{OwnView}
use Rattle.tool_step.specs.Recipes.{RecipesView}
use Rattle.equipment_node.specs.Amid.{Acts, EndsSo, ReadsSo, ServesLast, Worked, WorksSo, done_last}

-- how a step goes on from what was read, where each of its ends is known
pub works-so :
    {D : Type 0} (members : disk.Ghosts D) (s : EquipmentView) (input : Input ToolCommand) (now : ℕ)
    (t : Step EquipmentView Happening) (node : Node OwnView Kind) (out : StepOut) (result : Result (Worked D) (Ended D))
    → t.next.recipes ≡ s.recipes → t.next.node.own.owed ≡ (step_in (begun_step s input now)).next.node.own.owed
    → ((new : Node OwnView Kind) → (after : StepOut) → (end : Result (GemSpool D) (Ended D))
    → EndsSo members now t new after end → Acts members s input now new after end)
    → ReadsSo members now t node out result → WorksSo members s input now node out result
works-so members s input now t node out (Ok worked) recipes owed acts reads = (
  reads.0 ∙ owed,
  λ new after end does.
      acts new after end
      (reads.1 new after end
      (subst
      (λ (kept : RecipesView). ServesLast members kept worked.0 (done_last worked.1 now) node out new after end)
      (sym recipes) does)),
)
works-so members s input now t node out (Err end) recipes owed acts reads = acts node out (Err end) reads

-- the line has room, however it ends
pub has-room :
    {D : Type 0} (result : Result (Worked D) (Ended D)) (out : StepOut) → array_vec_len out.line ≤ 514
    → IfOk result (λ worked. array_vec_len out.line ≤ 514)
has-room (Ok worked) out room = room
has-room (Err end) out room = tt
