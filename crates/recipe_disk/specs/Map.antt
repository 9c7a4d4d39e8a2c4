-- The recipes for which slots stand: of each name the open slot that has the greatest number (this profile).
use Rattle.std.specs.Prelude.{◌≡◌, ◌<◌, ℕ, zero, suc, ◌==◌, ◌&&◌, ◌||◌, Bool, true, false, bytes_eq, nat_lt, not, if◌then◌else◌, List, Option, Some, None}
use Rattle.std.specs.FinMap.{empty, get, insert}
use Rattle.gem_recipes.specs.Recipes.{Recipe, Recipes}
use Rattle.recipe_disk.specs.Slot.{RecipeSlot, is_open, name_of, number_of, recipe_of}

-- whether a number is above that of a recipe, if there is one
abbrev pub is_newer : ℕ → Option Recipe → Bool
is_newer number None = true
is_newer number (Some recipe) = nat_lt recipe.number number

-- an open slot's recipe, unless there is a newer one of its name
abbrev pub with_slot : RecipeSlot → Recipes → Recipes
with_slot slot recipes =
    if is_open slot && is_newer (number_of slot) (get recipes (name_of slot))
    then insert recipes (name_of slot) (recipe_of slot)
    else recipes

-- the recipes of the first n slots
abbrev pub recipes_below : (ℕ → RecipeSlot) → ℕ → Recipes
recipes_below slot zero = empty
recipes_below slot (suc k) = with_slot (slot k) (recipes_below slot k)

-- whether one of the n places before n is such a one
abbrev pub any_below : (ℕ → Bool) → ℕ → Bool
any_below is zero = false
any_below is (suc k) = any_below is k || is k

-- slot k is the newest one of a name among the first n
pub record IsHolder (slot : ℕ → RecipeSlot) (n : ℕ) (name : List ℕ) (k : ℕ) : Type 0 where
  pub below : k < n
  pub opened : is_open (slot k) ≡ true
  pub named : name_of (slot k) ≡ name
  pub newest :
      (j : ℕ) → j < n → (j ≡ k → ⊥) → is_open (slot j) ≡ true → name_of (slot j) ≡ name
      → number_of (slot j) < number_of (slot k)

-- and none of them is open and has this name
abbrev pub IsNoName : (ℕ → RecipeSlot) → ℕ → List ℕ → Type 0
IsNoName slot n name = (k : ℕ) → k < n → is_open (slot k) ≡ true → name_of (slot k) ≡ name → ⊥

-- each name has one open slot at most
abbrev pub IsTidy : (ℕ → RecipeSlot) → ℕ → Type 0
IsTidy slot n =
    (j k : ℕ) → j < n → k < n → is_open (slot j) ≡ true → is_open (slot k) ≡ true → name_of (slot j) ≡ name_of (slot k)
    → j ≡ k

-- whether an open slot of these is one of that name, or has that number
abbrev pub has_name : (ℕ → RecipeSlot) → ℕ → List ℕ → Bool
has_name slot n name = any_below (λ k. is_open (slot k) && bytes_eq (name_of (slot k)) name) n

abbrev pub has_number : (ℕ → RecipeSlot) → ℕ → ℕ → Bool
has_number slot n number = any_below (λ k. is_open (slot k) && number_of (slot k) == number) n

-- whether slot k is open and none of those before it has its name
abbrev pub is_new_name : (ℕ → RecipeSlot) → ℕ → Bool
is_new_name slot k = is_open (slot k) && not (has_name slot k (name_of (slot k)))
