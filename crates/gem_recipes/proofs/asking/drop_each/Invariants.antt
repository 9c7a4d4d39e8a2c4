-- The first recipes are deleted, the names of the others are left, and the keeper can be asked further.

use Rattle.std.proofs.Common.{◌≡◌, false, take}
use Rattle.std.specs.Option.{option_map}
use Rattle.gem_recipes.specs.Asking.{AreNames, StaysUnless, has_name, without_each}
use Rattle.gem_recipes.proofs.asking.drop_each.Given as goal

abbrev pub invariant-loop-name : goal.invariant-loop-name
invariant-loop-name g l =
    (AreNames (g.K.RecipeKeeper.told l.fn.keeper) (has_name (λ name. name.now) l.fn.left)
    → (g.K.RecipeKeeper.told l.keeper
    ≡ option_map (without_each (take l.name-index l.names)) (g.K.RecipeKeeper.told l.fn.keeper))
    × AreNames (g.K.RecipeKeeper.told l.keeper) (has_name (λ name. name.now) l.rest))
    × StaysUnless false g.K.RecipeKeeper l.fn.keeper l.keeper
