-- No CEID so far stands again behind itself.

use Rattle.std.proofs.Common.{◌↔◌, ℕ, drop, map, nat_eq}
use Rattle.std.specs.List.{IsDistinct}
use Rattle.equipment_tables.proofs.plan.are_distinct.Given as goal

abbrev pub invariant-loop-i : goal.invariant-loop-i
invariant-loop-i l =
    IsDistinct nat_eq (map (λ (ceid : ℕ). ceid) (drop l.i l.ceids)) ↔ IsDistinct nat_eq (map (λ ceid. ceid) l.ceids)
