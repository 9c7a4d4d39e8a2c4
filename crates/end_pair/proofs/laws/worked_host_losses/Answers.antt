-- The losses, computed.

use Rattle.std.proofs.Common.{refl}
use Rattle.end_pair.proofs.laws.worked_host_losses.Goals as goal

pub returns : goal.returns
returns c = record {
  done = refl;
  steps = refl;
  replaced = refl;
  replaces = refl;
  behind = refl;
  emptied = refl;
  counted_on = refl;
  crowded = refl;
  no_turn = refl;
  full = refl;
  lost = refl;
}
