-- A name that isn't known has no room in no slot.
use Rattle.gem_recipes.proofs.Empty.{room_refused}
use Rattle.gem_recipes.proofs.no_recipes.NoRecipesRecipeKeeper.room.Goals as goal

pub returns-clause-answer : goal.returns-clause-answer
returns-clause-answer c = room_refused _
