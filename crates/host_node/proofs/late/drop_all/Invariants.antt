-- The turns that are left come to what all 16 do.

use Rattle.std.proofs.Common.{◌≡◌, ◌≤◌, replicate}
use Rattle.trace_log.specs.Text.{printed_note}
use Rattle.message_end.specs.Parts.{on_the_way}
use Rattle.message_end.specs.Duties.{all_done}
use Rattle.host_node.specs.Host.{drops}
use Rattle.host_node.proofs.late.drop_all.Given as goal

abbrev pub invariant-messages : goal.invariant-messages
invariant-messages l = record {
  done : all_done printed_note (replicate l.left (drops l.now)) (on_the_way l.core l.out)
      ≡ all_done printed_note (replicate 16 (drops l.now)) (on_the_way l.initial.core l.initial.out);
  line : l.out.line ≡ l.initial.out.line;
  few : l.left ≤ 16;
}

abbrev pub decreases-messages : goal.decreases-messages
decreases-messages l = l.left
