-- The commands compute.

use Rattle.std.proofs.Common.{refl}
use Rattle.tool_step.proofs.laws.worked_own_s1f13.Goals as goal

pub returns : goal.returns
returns c = record { front = refl; behind = refl; both = refl; none = refl }
