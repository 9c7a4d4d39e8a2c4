-- What holds of the recipes after every history of changes. The newest change stands first.
use Rattle.std.specs.Prelude.{◌≡◌, ◌<◌, ℕ, All, List, [], ◌∷◌, fold, Some}
use Rattle.std.specs.FinMap.{empty, get}
use Rattle.gem_recipes.specs.declared.asking.RecipesAsked.{RecipesAsked}
use Rattle.gem_recipes.specs.Asking.{after_exchange, answer_to, exchange_of, map_after}
use Rattle.gem_recipes.specs.History.{RecipeChange, after_change, body_at, recipes_after}
use Rattle.gem_recipes.specs.History.RecipeChange.{Deletes}
use Rattle.gem_recipes.specs.Recipes.{Recipes, body_of, next_number, numbers_of, with_recipe, without}
use Rattle.gem_recipes.specs.Requests.{Exchange, IsAnswered}

-- the body of a name is that of the newest change that says something of it
abbrev pub RecipesAreLookedBackFor : Type 0
RecipesAreLookedBackFor =
    (found : Recipes) (past : List RecipeChange) (name : List ℕ)
    → body_of name (recipes_after found past) ≡ body_at found past name

-- what is stored gets the next number, which is above all that there are
pub record NumbersRise : Type 0 where
  pub above : (recipes : Recipes) → All (λ number. number < next_number recipes) (numbers_of recipes)
  pub stored :
      (recipes : Recipes) (name body : List ℕ)
      → get (with_recipe name body recipes) name ≡ Some (record { number = next_number recipes; body = body })

-- a deletion is one of each of its names in turn; where it has none, nothing is left
pub record DeletesInTurn : Type 0 where
  pub named :
      (recipes : Recipes) (name : List ℕ) (more : List (List ℕ))
      → after_change (Deletes (name ∷ more)) recipes ≡ fold (λ left one. without one left) recipes (name ∷ more)
  pub all : (recipes : Recipes) → after_change (Deletes []) recipes ≡ empty

-- the exchange of a request with its answer, which is the one that the recipes ask for, and leaves them as the request
-- does
pub record IsExchange (slots : ℕ) (asked : RecipesAsked) (recipes : Recipes) : Type 0 where
  pub exchange : Exchange
  pub is : exchange_of asked (answer_to slots asked recipes) ≡ Some exchange
  pub answered : IsAnswered slots recipes exchange
  pub leaves : map_after slots asked recipes ≡ after_exchange exchange recipes

abbrev pub AnswersAreExchanges : Type 0
AnswersAreExchanges = (slots : ℕ) (asked : RecipesAsked) (recipes : Recipes) → IsExchange slots asked recipes
