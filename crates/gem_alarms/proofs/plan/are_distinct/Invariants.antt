-- No ALID so far stands again behind its alarm.

use Rattle.std.proofs.Common.{◌↔◌, drop, nat_eq}
use Rattle.std.specs.List.{IsDistinct}
use Rattle.gem_alarms.specs.Plan.{alids_of}
use Rattle.gem_alarms.proofs.plan.are_distinct.Given as goal

abbrev pub invariant-loop-i : goal.invariant-loop-i
invariant-loop-i l = IsDistinct nat_eq (alids_of (drop l.i l.plan)) ↔ IsDistinct nat_eq (alids_of l.plan)
