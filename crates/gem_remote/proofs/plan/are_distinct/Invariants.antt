-- No name so far stands again behind its command.

use Rattle.std.proofs.Common.{◌↔◌, drop}
use Rattle.std.specs.Prelude.{bytes_eq}
use Rattle.std.specs.List.{IsDistinct}
use Rattle.gem_remote.specs.Plan.{names_of}
use Rattle.gem_remote.proofs.plan.are_distinct.Given as goal

abbrev pub invariant-loop-i : goal.invariant-loop-i
invariant-loop-i l =
    IsDistinct bytes_eq (names_of (drop l.i l.commands)) ↔ IsDistinct bytes_eq (names_of l.commands)
