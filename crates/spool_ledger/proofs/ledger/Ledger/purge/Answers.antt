-- Without any message it stays a ledger.

use Rattle.std.proofs.Common.{rules, None}
use Rattle.spool_ledger.proofs.Keeping.{all_out_as}
use Rattle.spool_ledger.proofs.ledger.Ledger.purge.Goals as goal

pub invariant_of-self-2 : goal.invariant_of-self-2
invariant_of-self-2 c =
    all_out_as _ _ _ _ c.push.new.self c.self.invariant (search rules) (search rules) (search rules) (search rules)

pub returns-clause-notes : goal.returns-clause-notes
returns-clause-notes c = let notes = c.in_ok-note_leaving.ensures.notes None in search rules
