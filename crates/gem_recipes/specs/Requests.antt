-- What the requests of stream 7 are answered by the recipes there are, and which of them change these.
use Rattle.std.specs.Prelude.{◌≡◌, ◌==◌, ℕ, List, [], ◌∷◌, nat_lt, Option, None, Some, if◌then◌else◌}
use Rattle.std.specs.FinMap.{contains_key}
use Rattle.std.specs.List.{filter_map, list_all}
use Rattle.gem_recipes.specs.declared.keeper.RecipePut.{RecipePut}
use Rattle.gem_recipes.specs.declared.keeper.RecipePut.TheVariants.{Failed, NoSpace, Stored, TooLong}
use Rattle.gem_recipes.specs.History.{RecipeChange, recipes_after}
use Rattle.gem_recipes.specs.History.RecipeChange.{Deletes, Stores}
use Rattle.gem_recipes.specs.Recipes.{Recipes, body_of, has_space, names_of, put_answer}

-- the greatest LENGTH that is granted (this profile)
abbrev pub most_length : ℕ
most_length = 65438

-- PPGNT: 2 where there is no space (SEMI E5, S7F2)
abbrev pub ppgnt_of : (slots : ℕ) → (name : List ℕ) → (long : ℕ) → Recipes → ℕ
ppgnt_of slots name long recipes =
    if nat_lt most_length long then 2 else if has_space slots name recipes then 0 else 2

-- ACKC7 by what a put has answered: 2 is a length error, 3 a matrix overflow (SEMI E5, S7F4); behind a fault none is
-- sent
abbrev pub ackc7_of : RecipePut → Option ℕ
ackc7_of Stored = Some 0
ackc7_of TooLong = Some 2
ackc7_of NoSpace = Some 3
ackc7_of Failed = None

-- ACKC7: 4 where a PPID isn't found (SEMI E5, S7F18)
abbrev pub delete_ackc7_of : List (List ℕ) → Recipes → ℕ
delete_ackc7_of names recipes = if list_all (λ name. contains_key recipes name) names then 0 else 4

-- a request with its answer
pub data Exchange : Type 0 where
  Inquired : (name : List ℕ) (long : ℕ) (ppgnt : ℕ) → Exchange  -- S7F1, S7F2
  Sent : (name : List ℕ) (body : List ℕ) (ackc7 : ℕ) → Exchange  -- S7F3, S7F4
  Asked : (name : List ℕ) (body : Option (List ℕ)) → Exchange  -- S7F5, S7F6
  Deleted : (names : List (List ℕ)) (ackc7 : ℕ) → Exchange  -- S7F17, S7F18
  Listed : (names : List (List ℕ)) → Exchange  -- S7F19, S7F20

-- the change that it was, where it was accepted and is one
abbrev pub accepted : Exchange → Option RecipeChange
accepted (Inquired name long ppgnt) = None
accepted (Sent name body ackc7) = if ackc7 == 0 then Some (Stores name body) else None
accepted (Asked name body) = None
accepted (Deleted names ackc7) = if ackc7 == 0 then Some (Deletes names) else None
accepted (Listed names) = None

-- the answer is the one that these recipes ask for
abbrev pub IsAnswered : (slots : ℕ) → Recipes → Exchange → Type 0
IsAnswered slots recipes (Inquired name long ppgnt) = ppgnt ≡ ppgnt_of slots name long recipes
IsAnswered slots recipes (Sent name body ackc7) = Some ackc7 ≡ ackc7_of (put_answer slots name body recipes)
IsAnswered slots recipes (Asked name body) = body ≡ body_of name recipes
IsAnswered slots recipes (Deleted names ackc7) = ackc7 ≡ delete_ackc7_of names recipes
IsAnswered slots recipes (Listed names) = names ≡ names_of recipes

-- each answer is the one that the recipes after all that was accepted before ask for; the newest exchange stands first
abbrev pub AreAnswered : (slots : ℕ) → (found : Recipes) → List Exchange → Type 0
AreAnswered slots found [] = Unit {0}
AreAnswered slots found (exchange ∷ past) =
    IsAnswered slots (recipes_after found (filter_map accepted past)) exchange × AreAnswered slots found past
