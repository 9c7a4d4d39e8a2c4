-- There are no names.
use Rattle.std.proofs.Common.{List, ℕ, Some, subst, sym}
use Rattle.std.specs.FinMap.{empty}
use Rattle.gem_recipes.specs.declared.keeper.RecipeNames.TheVariants.{Names}
use Rattle.gem_recipes.specs.Keeper.{AnswersNames}
use Rattle.gem_recipes.proofs.Empty.{none_named}
use Rattle.gem_recipes.proofs.no_recipes.NoRecipesRecipeKeeper.names.Goals as goal

pub returns-clause-answer : goal.returns-clause-answer
returns-clause-answer c =
    subst (λ (names : List (List ℕ)). AnswersNames (Some empty) (Names names)) (sym c.new.ensures) none_named
