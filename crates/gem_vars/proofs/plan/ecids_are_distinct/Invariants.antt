-- No ECID so far stands again behind its constant.

use Rattle.std.proofs.Common.{◌↔◌, drop, nat_eq}
use Rattle.std.specs.List.{IsDistinct}
use Rattle.gem_vars.specs.Plan.{planned_ecids}
use Rattle.gem_vars.proofs.plan.ecids_are_distinct.Given as goal

abbrev pub invariant-loop-i : goal.invariant-loop-i
invariant-loop-i l = IsDistinct nat_eq (planned_ecids (drop l.i l.plan)) ↔ IsDistinct nat_eq (planned_ecids l.plan)
