-- With one more they stay transactions.

use Rattle.std.proofs.Common.{rules}
use Rattle.transact.proofs.Kept.{more-keeps}
use Rattle.transact.proofs.transactions.Transactions.begin.Goals as goal

pub invariant_of-self : goal.invariant_of-self
invariant_of-self g c =
    more-keeps _ c.self.inside.begun.items _ _ _ c.self.invariant c.requires
    (search rules) (search rules) c.push.ensures.items
