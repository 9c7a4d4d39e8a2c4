-- The names so far are there.

use Rattle.std.proofs.Common.{◌≡◌, take, true}
use Rattle.std.specs.List.{list_all}
use Rattle.gem_recipes.specs.Asking.{has_name}
use Rattle.gem_recipes.proofs.asking.has_all.Given as goal

abbrev pub invariant-loop-name : goal.invariant-loop-name
invariant-loop-name l = list_all (has_name (λ one. one.now) l.left) (take l.name-index l.names) ≡ true
