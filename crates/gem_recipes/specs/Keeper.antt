-- What the calls of a keeper of recipes answer and change (this profile).
use Rattle.std.specs.Prelude.{◌≡◌, ◌⊎◌, ◌<◌, ◌≤◌, ℕ, Bool, true, false, All, List, [], length, Option, Some, None}
use Rattle.std.specs.FinMap.{contains_key}
use Rattle.std.specs.Option.{option_map}
use Rattle.gl_base.specs.Faults.{Rose}
use Rattle.gem_recipes.specs.declared.keeper.RecipeDrop.{RecipeDrop}
use Rattle.gem_recipes.specs.declared.keeper.RecipeDrop.TheVariants as deleting
use Rattle.gem_recipes.specs.declared.keeper.RecipeGet.{RecipeGet}
use Rattle.gem_recipes.specs.declared.keeper.RecipeGet.TheVariants as getting
use Rattle.gem_recipes.specs.declared.keeper.RecipeNames.{RecipeNames}
use Rattle.gem_recipes.specs.declared.keeper.RecipeNames.TheVariants as listing
use Rattle.gem_recipes.specs.declared.keeper.RecipePut.{RecipePut}
use Rattle.gem_recipes.specs.declared.keeper.RecipePut.TheVariants.{Failed, NoSpace, Stored, TooLong}
use Rattle.gem_recipes.specs.Recipes.{IsPpid, Recipes, after_put, body_of, most_body, names_of, put_answer, with_recipe, without}

-- what the recipes ask for, where they are told, is this
abbrev pub IsOf : {A : Type 0} → Option Recipes → (Recipes → A) → A → Type 0
IsOf told asked answer = (recipes : Recipes) → told ≡ Some recipes → asked recipes ≡ answer

-- the recipes of before, or those that a change would leave
abbrev pub IsOldOrNew : Option Recipes → Option Recipes → Option Recipes → Type 0
IsOldOrNew old new now = (now ≡ old) ⊎ (now ≡ new)

-- ---- each call's answer, and the recipes behind it

-- whether a put with an empty body would be stored
abbrev pub AnswersRoom : (slots : ℕ) → List ℕ → Option Recipes → RecipePut → Type 0
AnswersRoom slots name told Stored = IsOf told (put_answer slots name []) Stored
AnswersRoom slots name told NoSpace = IsOf told (put_answer slots name []) NoSpace
AnswersRoom slots name told TooLong = ⊥
AnswersRoom slots name told Failed = Unit {0}

-- whether the recipe is stored; only a body that is too long is refused as such, whatever is told
abbrev pub AnswersPut : (slots : ℕ) → (name body : List ℕ) → Option Recipes → RecipePut → Type 0
AnswersPut slots name body told Stored = (length body ≤ most_body) × IsOf told (put_answer slots name body) Stored
AnswersPut slots name body told NoSpace = (length body ≤ most_body) × IsOf told (put_answer slots name body) NoSpace
AnswersPut slots name body told TooLong = most_body < length body
AnswersPut slots name body told Failed = Unit {0}

abbrev pub PutLeaves : (slots : ℕ) → (name body : List ℕ) → Option Recipes → Option Recipes → RecipePut → Type 0
PutLeaves slots name body before after Stored = after ≡ option_map (with_recipe name body) before
PutLeaves slots name body before after NoSpace = after ≡ before
PutLeaves slots name body before after TooLong = after ≡ before
PutLeaves slots name body before after Failed = IsOldOrNew before (option_map (after_put slots name body) before) after

-- the body of that name, or that there is none
abbrev pub AnswersGet : List ℕ → Option Recipes → RecipeGet → Type 0
AnswersGet name told (getting.Found body) = (length body ≤ most_body) × IsOf told (body_of name) (Some body)
AnswersGet name told getting.Unknown = IsOf told (body_of name) None
AnswersGet name told getting.Failed = Unit {0}
AnswersGet name told getting.NoMemory = Unit {0}

-- whether there was a recipe of that name
abbrev pub AnswersDelete : List ℕ → Option Recipes → RecipeDrop → Type 0
AnswersDelete name told deleting.Dropped = IsOf told (λ recipes. contains_key recipes name) true
AnswersDelete name told deleting.Unknown = IsOf told (λ recipes. contains_key recipes name) false
AnswersDelete name told deleting.Failed = Unit {0}

abbrev pub DeleteLeaves : List ℕ → Option Recipes → Option Recipes → RecipeDrop → Type 0
DeleteLeaves name before after deleting.Dropped = after ≡ option_map (without name) before
DeleteLeaves name before after deleting.Unknown = after ≡ before
DeleteLeaves name before after deleting.Failed = IsOldOrNew before (option_map (without name) before) after

-- all names in the order of their bytes; each is one, whatever is told
abbrev pub AnswersNames : Option Recipes → RecipeNames → Type 0
AnswersNames told (listing.Names names) = All IsPpid names × IsOf told names_of names
AnswersNames told listing.Failed = Unit {0}
AnswersNames told listing.NoMemory = Unit {0}

-- ---- faults

abbrev pub put_failed : RecipePut → Bool
put_failed Stored = false
put_failed NoSpace = false
put_failed TooLong = false
put_failed Failed = true

abbrev pub get_failed : RecipeGet → Bool
get_failed (getting.Found body) = false
get_failed getting.Unknown = false
get_failed getting.Failed = true
get_failed getting.NoMemory = false

abbrev pub delete_failed : RecipeDrop → Bool
delete_failed deleting.Dropped = false
delete_failed deleting.Unknown = false
delete_failed deleting.Failed = true

abbrev pub names_failed : RecipeNames → Bool
names_failed (listing.Names names) = false
names_failed listing.Failed = true
names_failed listing.NoMemory = false

-- a fault is counted where a call fails, and nowhere else
abbrev pub HasKeeperCause : (failed : Bool) → (before now : ℕ) → Type 0
HasKeeperCause true before now = Rose before now
HasKeeperCause false before now = now ≡ before

-- a keeper stays sound, unless a call fails: then it isn't any more
abbrev pub IsSoundUnless : (failed : Bool) → Type 0 → Type 0
IsSoundUnless true Sound = Sound → ⊥
IsSoundUnless false Sound = Sound
