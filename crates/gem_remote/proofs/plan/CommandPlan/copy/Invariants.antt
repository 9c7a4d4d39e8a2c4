-- The copies so far.

use Rattle.std.proofs.Common.{◌≡◌, take}
use Rattle.gem_remote.proofs.plan.CommandPlan.copy.Given as goal

abbrev pub invariant-loop-param : goal.invariant-loop-param
invariant-loop-param l = l.params ≡ take l.param-index l.param-items
