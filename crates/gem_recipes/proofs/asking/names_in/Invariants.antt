-- The names so far are found.

use Rattle.std.proofs.Common.{◌≡◌, ℕ, List, bytes_eq, take}
use Rattle.std.specs.List.{list_any}
use Rattle.gem_recipes.specs.Asking.{has_name}
use Rattle.gem_recipes.proofs.asking.names_in.Given as goal

abbrev pub invariant-loop-name : goal.invariant-loop-name
invariant-loop-name l =
    (name : List ℕ) → has_name (λ one. one.now) l.found name ≡ list_any (bytes_eq name) (take l.name-index l.names)
