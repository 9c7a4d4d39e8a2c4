-- No VID so far stands again behind its variable.

use Rattle.std.proofs.Common.{◌↔◌, drop, nat_eq}
use Rattle.std.specs.List.{IsDistinct}
use Rattle.gem_vars.specs.Plan.{planned_vids}
use Rattle.gem_vars.proofs.plan.vids_are_distinct.Given as goal

abbrev pub invariant-loop-i : goal.invariant-loop-i
invariant-loop-i l = IsDistinct nat_eq (planned_vids (drop l.i l.plan)) ↔ IsDistinct nat_eq (planned_vids l.plan)
