-- What holds of the recipes for which slots stand.
use Rattle.std.specs.Prelude.{◌≡◌, ℕ, List, None, Some}
use Rattle.std.specs.FinMap.{get}
use Rattle.recipe_disk.specs.Map.{IsHolder, IsNoName, recipes_below}
use Rattle.recipe_disk.specs.Slot.{RecipeSlot, recipe_of}

-- the recipe of a name is that of its newest open slot; without one it has none
pub record RecipesAreOfNewestSlots : Type 0 where
  pub held :
      (slot : ℕ → RecipeSlot) (n : ℕ) (name : List ℕ) (k : ℕ) → IsHolder slot n name k
      → get (recipes_below slot n) name ≡ Some (recipe_of (slot k))
  pub none :
      (slot : ℕ → RecipeSlot) (n : ℕ) (name : List ℕ) → IsNoName slot n name
      → get (recipes_below slot n) name ≡ None
