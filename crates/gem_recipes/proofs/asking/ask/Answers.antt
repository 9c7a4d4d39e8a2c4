-- The body of that name is found, there is none, or the keeper has failed.

use Rattle.std.proofs.Common.{None, Some}
use Rattle.gem_recipes.specs.declared.asking.RecipesAsked.TheVariants as asking
use Rattle.gem_recipes.proofs.Serving.{found, none_made}
use Rattle.gem_recipes.proofs.asking.ask.Goals as goal

pub returns-in-Found-clause-serves : goal.returns-in-Found-clause-serves
returns-in-Found-clause-serves g c =
    found (g.K.RecipeKeeper.slots c.args.keeper.now) c.args.name c.bytes.result.now
    (g.K.RecipeKeeper.told c.args.keeper.now) (g.K.RecipeKeeper.told c.get.new.self) (Some c.in-Found.body)
    c.bytes.ensures.bytes c.in-Found.ensures.answer.1 c.in-Found.ensures.told

pub returns-in-Unknown-clause-serves : goal.returns-in-Unknown-clause-serves
returns-in-Unknown-clause-serves g c =
    found (g.K.RecipeKeeper.slots c.args.keeper.now) c.args.name c.bytes.result.now
    (g.K.RecipeKeeper.told c.args.keeper.now) (g.K.RecipeKeeper.told c.get.new.self) None c.bytes.ensures.bytes
    c.in-Unknown.ensures.answer c.in-Unknown.ensures.told

pub returns-in-Failed-clause-serves : goal.returns-in-Failed-clause-serves
returns-in-Failed-clause-serves g c =
    none_made (g.K.RecipeKeeper.slots c.args.keeper.now) (asking.Ask c.args.name)
    (g.K.RecipeKeeper.told c.args.keeper.now) (g.K.RecipeKeeper.told c.get.new.self) c.in-Failed.ensures.told
