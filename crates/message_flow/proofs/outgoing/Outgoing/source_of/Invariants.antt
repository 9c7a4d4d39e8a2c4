-- None of the messages looked at passes the test.

use Rattle.message_flow.specs.Outgoing.{is_source_of}
use Rattle.message_flow.proofs.Places.{NonePass}
use Rattle.message_flow.proofs.outgoing.Outgoing.source_of.Given as goal

abbrev pub invariant-places : goal.invariant-places
invariant-places l = NonePass (is_source_of l.self l.header) l.self.waiting l.left

abbrev pub decreases-places : goal.decreases-places
decreases-places l = l.left
