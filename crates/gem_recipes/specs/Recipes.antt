-- The map of process programs, also called recipes: each by its name, with a number and a body (SEMI E30, process
-- program management; the numbers and all bounds are this profile's).
use Rattle.std.specs.Prelude.{◌+◌, ◌-◌, ◌^◌, ◌<◌, ◌≤◌, ◌&&◌, ◌||◌, ℕ, Bool, All, List, length, fold, map, max, nat_eq, nat_lt, Option, if◌then◌else◌}
use Rattle.std.specs.Cmp.Lexicographic.{slice_cmp}
use Rattle.std.specs.FinMap.{FinMap, contains_key, entries, get, insert, keys, len, remove, values}
use Rattle.std.specs.List.{IsDistinct}
use Rattle.std.specs.Option.{option_map}
use Rattle.std.specs.Ordering.{nat_cmp}
use Rattle.std.specs.declared.cmp.Ordering.{Ordering}
use Rattle.gem_recipes.specs.declared.keeper.RecipePut.{RecipePut}
use Rattle.gem_recipes.specs.declared.keeper.RecipePut.TheVariants.{NoSpace, Stored, TooLong}

-- a name, PPID
pub record IsPpid (name : List ℕ) : Type 0 where
  pub least : 1 ≤ length name
  pub most : length name ≤ 80

-- a recipe without its name: its place in the order of storing, and its body, PPBODY
pub record Recipe : Type 0 where
  pub number : ℕ
  pub body : List ℕ

-- names go by their bytes, and a front before what it begins
abbrev pub by_bytes : List ℕ → List ℕ → Ordering
by_bytes = slice_cmp nat_cmp

abbrev pub Recipes : Type 0
Recipes = FinMap by_bytes Recipe

-- the most bytes of a body
abbrev pub most_body : ℕ
most_body = 65442

abbrev pub body_of : List ℕ → Recipes → Option (List ℕ)
body_of name recipes = option_map (λ recipe. recipe.body) (get recipes name)

-- all names, in their order
abbrev pub names_of : Recipes → List (List ℕ)
names_of recipes = keys recipes

abbrev pub numbers_of : Recipes → List ℕ
numbers_of recipes = map (λ recipe. recipe.number) (values recipes)

-- the number for the next recipe stored: the greatest one and 1, or 0 where there is none
abbrev pub next_number : Recipes → ℕ
next_number recipes = fold (λ next number. max next (number + 1)) 0 (numbers_of recipes)

-- whether there is room for a recipe of this name: the name is known, or fewer are than the slots but one, in which a
-- successor is written; and numbers are left
abbrev pub has_space : (slots : ℕ) → List ℕ → Recipes → Bool
has_space slots name recipes =
    (contains_key recipes name || nat_lt (len recipes) (slots - 1)) && nat_lt (next_number recipes) (2 ^ 63)

-- the answer to a put, where nothing fails; what is too long is refused first
abbrev pub put_answer : (slots : ℕ) → (name body : List ℕ) → Recipes → RecipePut
put_answer slots name body recipes =
    if nat_lt most_body (length body) then TooLong
    else if has_space slots name recipes then Stored
    else NoSpace

-- the recipes with one stored, in place of the one of that name
abbrev pub with_recipe : (name body : List ℕ) → Recipes → Recipes
with_recipe name body recipes = insert recipes name (record { number = next_number recipes; body = body })

-- the recipes behind a put, where nothing fails
abbrev pub after_put : (slots : ℕ) → (name body : List ℕ) → Recipes → Recipes
after_put slots name body recipes =
    if nat_lt most_body (length body) then recipes
    else if has_space slots name recipes then with_recipe name body recipes
    else recipes

abbrev pub without : List ℕ → Recipes → Recipes
without name recipes = remove recipes name

-- what is kept of a name
pub record EntryFits (entry : List ℕ × Recipe) : Type 0 where
  pub name : IsPpid entry.0
  pub number : entry.1.number < 2 ^ 63
  pub body : length entry.1.body ≤ most_body

-- recipes as a store of so many slots may have them
pub record RecipesFit (slots : ℕ) (recipes : Recipes) : Type 0 where
  pub few : len recipes ≤ slots - 1
  pub each : All EntryFits (entries recipes)
  pub distinct : IsDistinct nat_eq (numbers_of recipes)
