-- The constants so far are put.

use Rattle.std.proofs.Common.{[], ◌++◌, drop}
use Rattle.gem_tables.specs.Rows.{rows_of}
use Rattle.gem_tables.proofs.Putting.{ArePut}
use Rattle.gem_vars.specs.declared.plan.ConstantPlan.{ConstantPlan}
use Rattle.gem_vars.specs.History.{constant_after}
use Rattle.gem_vars.proofs.vars.put_constants.Given as goal

abbrev pub invariant-loop-planned : goal.invariant-loop-planned
invariant-loop-planned l =
    ArePut (λ (p : ConstantPlan). p.ecid) (constant_after []) l.constants.entries (drop l.planned-index l.plan)
    (l.fn.constants.entries ++ rows_of (λ (p : ConstantPlan). p.ecid) (constant_after []) l.plan)
