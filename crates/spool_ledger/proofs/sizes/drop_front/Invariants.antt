-- So many have left.

use Rattle.std.proofs.Common.{◌≡◌, drop}
use Rattle.spool_ledger.proofs.sizes.drop_front.Given as goal

abbrev pub invariant-front : goal.invariant-front
invariant-front l = l.each.items ≡ drop l.at l.fn.each.items
