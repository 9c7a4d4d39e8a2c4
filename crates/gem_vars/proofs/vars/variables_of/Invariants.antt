-- The variables so far are put.

use Rattle.std.proofs.Common.{[], drop}
use Rattle.gem_tables.specs.Rows.{rows_of}
use Rattle.gem_tables.proofs.Putting.{ArePut}
use Rattle.gem_vars.specs.declared.plan.VariablePlan.{VariablePlan}
use Rattle.gem_vars.specs.History.{variable_after}
use Rattle.gem_vars.proofs.vars.variables_of.Given as goal

abbrev pub invariant-loop-planned : goal.invariant-loop-planned
invariant-loop-planned l =
    ArePut (λ (p : VariablePlan). p.vid) (variable_after []) l.variables.entries (drop l.planned-index l.plan)
    (rows_of (λ (p : VariablePlan). p.vid) (variable_after []) l.plan)
