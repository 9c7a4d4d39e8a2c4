-- No name is known.
use Rattle.gem_recipes.proofs.Empty.{get_finds_none}
use Rattle.gem_recipes.proofs.no_recipes.NoRecipesRecipeKeeper.get.Goals as goal

pub returns-clause-answer : goal.returns-clause-answer
returns-clause-answer c = get_finds_none _
