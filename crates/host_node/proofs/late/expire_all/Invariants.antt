-- The turns that are left come to what all 64 do.

use Rattle.std.proofs.Common.{◌≡◌, ◌≤◌, replicate}
use Rattle.trace_log.specs.Text.{printed_note}
use Rattle.message_end.specs.Parts.{on_the_way}
use Rattle.message_end.specs.Duties.{all_done}
use Rattle.host_node.specs.Host.{expires}
use Rattle.host_node.proofs.late.expire_all.Given as goal

abbrev pub invariant-transactions : goal.invariant-transactions
invariant-transactions l = record {
  done : all_done printed_note (replicate l.left (expires l.now)) (on_the_way l.core l.out)
      ≡ all_done printed_note (replicate 64 (expires l.now)) (on_the_way l.initial.core l.initial.out);
  line : l.out.line ≡ l.initial.out.line;
  few : l.left ≤ 64;
}

abbrev pub decreases-transactions : goal.decreases-transactions
decreases-transactions l = l.left
