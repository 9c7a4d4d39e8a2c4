-- Ending the transactions that are left comes to what ending all does.

use Rattle.std.proofs.Common.{◌≡◌, length}
use Rattle.trace_log.specs.Text.{printed_note}
use Rattle.message_end.specs.Core.{carried}
use Rattle.message_end.specs.Endings.{ends_begun}
use Rattle.message_end.specs.Parts.{on_the_way}
use Rattle.host_node.specs.Host.{fails}
use Rattle.host_node.proofs.endings.end_begun.Given as goal

abbrev pub invariant-transactions : goal.invariant-transactions
invariant-transactions l = record {
  done : carried printed_note (ends_begun fails l.core) (on_the_way l.core l.out)
      ≡ carried printed_note (ends_begun fails l.initial.core) (on_the_way l.initial.core l.initial.out);
  line : l.out.line ≡ l.initial.out.line;
}

abbrev pub decreases-transactions : goal.decreases-transactions
decreases-transactions l = length l.core.transactions.begun
