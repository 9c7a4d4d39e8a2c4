-- The variables so far fit.

use Rattle.std.proofs.Common.{ℕ, ◌<◌, get_or}
use Rattle.gem_vars.specs.declared.plan.VariablePlan.{VariablePlan}
use Rattle.gem_vars.specs.Plan.{VariableFits}
use Rattle.gem_vars.proofs.plan.all_variables_fit.Given as goal

abbrev pub invariant-loop-variable : goal.invariant-loop-variable
invariant-loop-variable l = (k : ℕ) (d : VariablePlan) → k < l.variable-index → VariableFits (get_or l.plan k d)
