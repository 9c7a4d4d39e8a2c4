-- What is left to remove leads to all that is removed.

use Rattle.std.proofs.Common.{◌≡◌, length}
use Rattle.spool_ledger.proofs.Removing.{LeadsTo}
use Rattle.spool_ledger.proofs.ledger.Ledger.make_room.Given as goal

abbrev pub invariant-oldest : goal.invariant-oldest
invariant-oldest l = LeadsTo l.size l.fn.self l.self l.fn.out.notes l.out.notes × (l.out.line ≡ l.fn.out.line)

abbrev pub decreases-oldest : goal.decreases-oldest
decreases-oldest l = length l.self.sizes
