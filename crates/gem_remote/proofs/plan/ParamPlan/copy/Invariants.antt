-- The copies so far.

use Rattle.std.proofs.Common.{◌≡◌, take}
use Rattle.gem_remote.proofs.plan.ParamPlan.copy.Given as goal

abbrev pub invariant-loop-value : goal.invariant-loop-value
invariant-loop-value l = l.values ≡ take l.value-index l.value-items
