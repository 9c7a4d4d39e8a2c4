-- The recipes after a history of changes that a host made, and what is looked back for in it. The newest change stands
-- first.
use Rattle.std.specs.Prelude.{ℕ, Bool, true, List, [], ◌∷◌, bytes_eq, not, Option, None, Some, if◌then◌else◌}
use Rattle.std.specs.FinMap.{retain_keys}
use Rattle.std.specs.List.{list_any}
use Rattle.gem_tables.specs.History.{newest}
use Rattle.gem_recipes.specs.Recipes.{Recipes, body_of, with_recipe}

-- an accepted S7F3, and the names of an accepted S7F17
pub data RecipeChange : Type 0 where
  Stores : (name : List ℕ) (body : List ℕ) → RecipeChange
  Deletes : (names : List (List ℕ)) → RecipeChange

-- whether a deletion means this name; where it has no names it means all (SEMI E5, S7F17)
abbrev pub is_meant : List (List ℕ) → List ℕ → Bool
is_meant [] name = true
is_meant (one ∷ more) name = list_any (bytes_eq name) (one ∷ more)

-- what a change leaves
abbrev pub after_change : RecipeChange → Recipes → Recipes
after_change (Stores name body) recipes = with_recipe name body recipes
after_change (Deletes names) recipes = retain_keys recipes (λ name. not (is_meant names name))

-- the map of process programs after a history, from the one found at its start
abbrev pub recipes_after : (found : Recipes) → List RecipeChange → Recipes
recipes_after found [] = found
recipes_after found (change ∷ past) = after_change change (recipes_after found past)

-- what a change says of a name, if anything: its body, or that it has none
abbrev pub body_from : List ℕ → RecipeChange → Option (Option (List ℕ))
body_from name (Stores other body) = if bytes_eq name other then Some (Some body) else None
body_from name (Deletes names) = if is_meant names name then Some None else None

-- the body of a name, looked back for
abbrev pub body_at : (found : Recipes) → List RecipeChange → List ℕ → Option (List ℕ)
body_at found past name = newest (body_from name) (body_of name found) past
