-- The constants so far fit.

use Rattle.std.proofs.Common.{ℕ, ◌<◌, get_or}
use Rattle.gem_vars.specs.declared.plan.ConstantPlan.{ConstantPlan}
use Rattle.gem_vars.specs.Plan.{ConstantFits}
use Rattle.gem_vars.proofs.plan.all_constants_fit.Given as goal

abbrev pub invariant-loop-constant : goal.invariant-loop-constant
invariant-loop-constant l = (k : ℕ) (d : ConstantPlan) → k < l.constant-index → ConstantFits (get_or l.plan k d)
