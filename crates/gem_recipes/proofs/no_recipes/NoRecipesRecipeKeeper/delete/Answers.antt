-- No name is known.
use Rattle.gem_recipes.proofs.Empty.{delete_finds_none}
use Rattle.gem_recipes.proofs.no_recipes.NoRecipesRecipeKeeper.delete.Goals as goal

pub returns-clause-answer : goal.returns-clause-answer
returns-clause-answer c = delete_finds_none _
