-- The losses, computed.

use Rattle.std.proofs.Common.{refl}
use Rattle.end_pair.proofs.laws.worked_losses.Goals as goal

pub returns : goal.returns
returns c = record {
  done = refl;
  undone = refl;
  behind = refl;
  last = refl;
  steps = refl;
  went_on = refl;
  too_far = refl;
  full = refl;
  turns = refl;
  lost = refl;
}
