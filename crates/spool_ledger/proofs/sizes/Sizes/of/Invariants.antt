-- So many are there, and take as many slots.

use Rattle.std.proofs.Common.{◌≡◌, take}
use Rattle.std.specs.Prelude.{sum}
use Rattle.spool_ledger.proofs.sizes.Sizes.of.Given as goal

abbrev pub invariant-sizes : goal.invariant-sizes
invariant-sizes l = (l.each.items ≡ take l.at l.sizes) × (l.used ≡ sum (take l.at l.sizes))
