-- No room is made for a message where one is confirmed.

use Rattle.std.proofs.Common.{rules, None}
use Rattle.spool_ledger.proofs.ledger.Ledger.confirm.Goals as goal

pub returns-clause-notes : goal.returns-clause-notes
returns-clause-notes c = let notes = c.in_ok-oldest_out.ensures.notes None in search rules
