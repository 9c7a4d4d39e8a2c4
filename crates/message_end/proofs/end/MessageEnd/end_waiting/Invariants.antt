-- Ending the messages that wait still comes to what ending all does.

use Rattle.std.proofs.Common.{◌≡◌, length}
use Rattle.trace_log.specs.Text.{printed_note}
use Rattle.message_end.specs.Core.{carried}
use Rattle.message_end.specs.Endings.{ends_waiting}
use Rattle.message_end.specs.Parts.{on_the_way}
use Rattle.message_end.proofs.end.MessageEnd.end_waiting.Given as goal

abbrev pub invariant-messages : goal.invariant-messages
invariant-messages g l = record {
  done : carried printed_note (ends_waiting l.self) (on_the_way l.self l.out)
      ≡ carried printed_note (ends_waiting l.initial.self) (on_the_way l.initial.self l.initial.out);
  line : l.out.line ≡ l.initial.out.line;
}

abbrev pub decreases-messages : goal.decreases-messages
decreases-messages g l = length l.self.outgoing.waiting
