-- What is answered to what a host asks of the recipes, and what that leaves of them.
use Rattle.std.specs.Prelude.{◌≡◌, ◌==◌, ◌≤◌, ℕ, Bool, true, false, All, List, [], ◌∷◌, fold, length, map, take, Option, None, Some, Result, Ok, Err, if◌then◌else◌}
use Rattle.std.specs.BTreeSet.{BTreeSet, contains_by}
use Rattle.std.specs.FinMap.{contains_key}
use Rattle.std.specs.Option.{option_map, option_map_or, unwrap_or}
use Rattle.gem_recipes.specs.declared.asking.RecipesAnswer.{RecipesAnswer}
use Rattle.gem_recipes.specs.declared.asking.RecipesAnswer.TheVariants as answer
use Rattle.gem_recipes.specs.declared.asking.RecipesAsked.{RecipesAsked}
use Rattle.gem_recipes.specs.declared.asking.RecipesAsked.TheVariants as asking
use Rattle.gem_recipes.specs.declared.asking.Unanswered.{Unanswered}
use Rattle.gem_recipes.specs.declared.asking.Unanswered.TheVariants as unanswered
use Rattle.gem_recipes.specs.declared.keeper.RecipeKeeper as keeper
use Rattle.gem_recipes.specs.History.{RecipeChange, after_change}
use Rattle.gem_recipes.specs.History.RecipeChange.{Deletes, Stores}
use Rattle.gem_recipes.specs.Keeper.{HasKeeperCause, IsOf, IsOldOrNew, IsSoundUnless}
use Rattle.gem_recipes.specs.Recipes.{IsPpid, Recipes, body_of, by_bytes, most_body, names_of, put_answer, without}
use Rattle.gem_recipes.specs.Requests.{Exchange, accepted, ackc7_of, delete_ackc7_of, ppgnt_of}
use Rattle.gem_recipes.specs.Requests.Exchange.{Asked, Deleted, Inquired, Listed, Sent}

-- S7F3 and S7F17 change the recipes
abbrev pub is_change : RecipesAsked → Bool
is_change (asking.Send name body) = true
is_change (asking.Delete names) = true
is_change _ = false

-- ---- the answer

-- ACKC7 of a put that hasn't failed
abbrev pub put_ackc7 : (slots : ℕ) → (name body : List ℕ) → Recipes → ℕ
put_ackc7 slots name body recipes = unwrap_or (ackc7_of (put_answer slots name body recipes)) 0

abbrev pub answer_to : (slots : ℕ) → RecipesAsked → Recipes → RecipesAnswer
answer_to slots (asking.Inquire name long) recipes = answer.Code (ppgnt_of slots name long recipes)
answer_to slots (asking.Send name body) recipes = answer.Code (put_ackc7 slots name body recipes)
answer_to slots (asking.Ask name) recipes = answer.Body name (body_of name recipes)
answer_to slots (asking.Delete names) recipes = answer.Code (delete_ackc7_of names recipes)
answer_to slots asking.List recipes = answer.Names (names_of recipes)

-- ---- what it leaves

-- the names that a deletion means, in the order in which their recipes go (this profile)
abbrev pub meant : List (List ℕ) → Recipes → List (List ℕ)
meant [] recipes = names_of recipes
meant (name ∷ more) recipes = name ∷ more

-- the changes that are made one after another, each of one recipe; a refusal makes none. A recipe that is named again
-- is gone by then.
abbrev pub changes_of : (slots : ℕ) → RecipesAsked → Recipes → List RecipeChange
changes_of slots (asking.Send name body) recipes =
    if put_ackc7 slots name body recipes == 0 then Stores name body ∷ [] else []
changes_of slots (asking.Delete names) recipes =
    if delete_ackc7_of names recipes == 0 then map (λ name. Deletes (name ∷ [])) (meant names recipes) else []
changes_of slots _ recipes = []

abbrev pub after_changes : List RecipeChange → Recipes → Recipes
after_changes changes recipes = fold (λ left change. after_change change left) recipes changes

-- the recipes behind a request
abbrev pub map_after : (slots : ℕ) → RecipesAsked → Recipes → Recipes
map_after slots asked recipes = after_changes (changes_of slots asked recipes) recipes

-- and behind the first of its changes alone
abbrev pub map_amid : (slots : ℕ) → RecipesAsked → (count : ℕ) → Recipes → Recipes
map_amid slots asked count recipes = after_changes (take count (changes_of slots asked recipes)) recipes

-- ---- the exchange that it is

abbrev pub exchange_of : RecipesAsked → RecipesAnswer → Option Exchange
exchange_of (asking.Inquire name long) (answer.Code code) = Some (Inquired name long code)
exchange_of (asking.Send name body) (answer.Code code) = Some (Sent name body code)
exchange_of (asking.Ask name) (answer.Body same body) = Some (Asked name body)
exchange_of (asking.Delete names) (answer.Code code) = Some (Deleted names code)
exchange_of asking.List (answer.Names names) = Some (Listed names)
exchange_of _ _ = None

-- the recipes behind an exchange
abbrev pub after_exchange : Exchange → Recipes → Recipes
after_exchange exchange recipes = option_map_or (λ change. after_change change recipes) (accepted exchange) recipes

-- ---- a keeper that is asked

-- some first of the changes are made
pub record IsAmid (slots : ℕ) (asked : RecipesAsked) (before after : Option Recipes) : Type 0 where
  pub count : ℕ
  pub is : after ≡ option_map (map_amid slots asked count) before

-- where nothing is answered, a fault may have come amid the changes
abbrev pub LeavesUnanswered : (slots : ℕ) → RecipesAsked → (before after : Option Recipes) → Unanswered → Type 0
LeavesUnanswered slots asked before after unanswered.Failed = IsAmid slots asked before after
LeavesUnanswered slots asked before after unanswered.NoMemory = after ≡ before

abbrev pub Serves :
    (slots : ℕ) → RecipesAsked → (before after : Option Recipes) → Result RecipesAnswer Unanswered → Type 0
Serves slots asked before after (Ok given) =
    IsOf before (answer_to slots asked) given × (after ≡ option_map (map_after slots asked) before)
Serves slots asked before after (Err why) = LeavesUnanswered slots asked before after why

-- ---- deletions one by one

-- one recipe is deleted, if there is one of that name
abbrev pub DropsOne : List ℕ → (before after : Option Recipes) → Result (Unit {0}) Unanswered → Type 0
DropsOne name before after (Ok done) = after ≡ option_map (without name) before
DropsOne name before after (Err unanswered.Failed) = IsOldOrNew before (option_map (without name) before) after
DropsOne name before after (Err unanswered.NoMemory) = ⊥

abbrev pub without_each : List (List ℕ) → Recipes → Recipes
without_each names recipes = fold (λ left name. without name left) recipes names

-- some first of these recipes are deleted
abbrev pub DropsSome : List (List ℕ) → (before after : Option Recipes) → Type 0
DropsSome names before after = (count : ℕ) × (after ≡ option_map (without_each (take count names)) before)

-- a fault is all that ends deletions early
abbrev pub EndsDrops : List (List ℕ) → (before after : Option Recipes) → Unanswered → Type 0
EndsDrops names before after unanswered.Failed = DropsSome names before after
EndsDrops names before after unanswered.NoMemory = ⊥

-- these recipes are deleted one after another, which is answered by 0
abbrev pub DropsEach : List (List ℕ) → (before after : Option Recipes) → Result RecipesAnswer Unanswered → Type 0
DropsEach names before after (Ok given) =
    (given ≡ answer.Code 0) × (after ≡ option_map (without_each names) before)
DropsEach names before after (Err why) = EndsDrops names before after why

-- whether a name is among those that are looked up
abbrev pub has_name : {K : Type 0} → (K → List ℕ) → BTreeSet K → List ℕ → Bool
has_name bytes names name = contains_by (λ one. by_bytes name (bytes one)) names

-- those that are looked up are the names of the recipes, where these are told
abbrev pub AreNames : Option Recipes → (List ℕ → Bool) → Type 0
AreNames told has = (name : List ℕ) → IsOf told (λ recipes. contains_key recipes name) (has name)

-- an answer as any keeper gives it
abbrev pub AnswerFits : RecipesAnswer → Type 0
AnswerFits (answer.Code code) = code ≤ 4
AnswerFits (answer.Body name None) = Unit {0}
AnswerFits (answer.Body name (Some body)) = length body ≤ most_body
AnswerFits (answer.Names names) = All IsPpid names

abbrev pub is_fault : Unanswered → Bool
is_fault unanswered.Failed = true
is_fault unanswered.NoMemory = false

abbrev pub has_failed : {A : Type 0} → Result A Unanswered → Bool
has_failed (Ok given) = false
has_failed (Err why) = is_fault why

-- no call changes the slots, and whether they are offered; a keeper that has failed has counted a fault, and any other
-- can be asked further
abbrev pub StaysUnless : Bool → {K : Type 0} → keeper.Ghosts K → (before after : K) → Type 0
StaysUnless failed members before after =
    (members.slots after ≡ members.slots before)
    × (members.offers_is after ≡ members.offers_is before)
    × IsSoundUnless failed (members.sound after)
    × HasKeeperCause failed (members.faults before) (members.faults after)
