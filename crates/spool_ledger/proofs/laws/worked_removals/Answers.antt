-- The removals, computed.

use Rattle.std.proofs.Common.{refl}
use Rattle.spool_file.specs.Sizes.{slots_for}
use Rattle.spool_ledger.proofs.laws.worked_removals.Goals as goal

pub returns : goal.returns
unfolding slots_for
returns c = record {
  one = λ message. refl;
  greater = λ message. refl;
  two = λ message. refl;
  too_few = refl;
  none = λ message. refl;
  too_long = refl;
}
