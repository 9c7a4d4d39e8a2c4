-- The names of all, or the keeper has failed.

use Rattle.gem_recipes.specs.declared.asking.RecipesAsked.TheVariants as asking
use Rattle.gem_recipes.proofs.Serving.{listed, none_made}
use Rattle.gem_recipes.proofs.asking.list.Goals as goal

pub returns-in-Names-clause-serves : goal.returns-in-Names-clause-serves
returns-in-Names-clause-serves g c =
    listed (g.K.RecipeKeeper.slots c.args.keeper.now) c.in-Names.names (g.K.RecipeKeeper.told c.args.keeper.now)
    (g.K.RecipeKeeper.told c.names.new.self) c.in-Names.ensures.answer.1 c.in-Names.ensures.told

pub returns-in-Failed-clause-serves : goal.returns-in-Failed-clause-serves
returns-in-Failed-clause-serves g c =
    none_made (g.K.RecipeKeeper.slots c.args.keeper.now) asking.List (g.K.RecipeKeeper.told c.args.keeper.now)
    (g.K.RecipeKeeper.told c.names.new.self) c.in-Failed.ensures.told
