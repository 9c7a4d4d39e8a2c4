-- With a message more it stays a ledger, and the notes are those of the put.

use Rattle.std.proofs.Common.{rules, append_assoc, length}
use Rattle.spool_ledger.specs.Storing.{spooled}
use Rattle.spool_ledger.proofs.Keeping.{fits_more, put_as}
use Rattle.spool_ledger.proofs.ledger.Ledger.put.Goals as goal

pub push-requires-4-clause-len : goal.push-requires-4-clause-len
push-requires-4-clause-len c = (fits_more _ (length c.args.body) c.self.invariant (search rules)).1

pub invariant_of-self-in_default : goal.invariant_of-self-in_default
invariant_of-self-in_default c =
    put_as _ (spooled c.args.stream c.args.function c.args.body) c.push-4.new.self.now c.push-4.new.self.stood
    c.push-3.new.self c.self.invariant c.requires.function c.requires.stream (search rules) (search rules)
    (search rules) (search rules)

pub returns-clause-notes : goal.returns-clause-notes
returns-clause-notes c = let storing = c.in_ok-storing_note.ensures c.args.body in search (rules, append_assoc)
