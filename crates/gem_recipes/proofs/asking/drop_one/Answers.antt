-- A recipe that isn't there is none that goes.

use Rattle.gem_recipes.proofs.Serving.{dropped_none}
use Rattle.gem_recipes.proofs.asking.drop_one.Goals as goal

pub returns-in-Unknown-clause-drops : goal.returns-in-Unknown-clause-drops
returns-in-Unknown-clause-drops g c =
    dropped_none (g.K.RecipeKeeper.told c.args.keeper.now) (g.K.RecipeKeeper.told c.delete.new.self) c.args.name.now
    c.in-Unknown.ensures.answer c.in-Unknown.ensures.told
