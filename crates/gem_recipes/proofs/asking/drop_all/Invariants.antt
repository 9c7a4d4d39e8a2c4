-- The first recipes are deleted, and the keeper can be asked further.

use Rattle.std.proofs.Common.{◌≡◌, false, take}
use Rattle.std.specs.Option.{option_map}
use Rattle.gem_recipes.specs.Asking.{StaysUnless, without_each}
use Rattle.gem_recipes.proofs.asking.drop_all.Given as goal

abbrev pub invariant-loop-name : goal.invariant-loop-name
invariant-loop-name g l =
    (g.K.RecipeKeeper.told l.keeper
    ≡ option_map (without_each (take l.name-index l.known)) (g.K.RecipeKeeper.told l.fn.keeper))
    × StaysUnless false g.K.RecipeKeeper l.fn.keeper l.keeper
