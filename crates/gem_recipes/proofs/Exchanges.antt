-- What a request leaves is what its exchange leaves: deletions one by one are the deletion of all that it means.
use Rattle.std.proofs.Common.{◌≡◌, refl, sym, ◌∙◌, ap, ℕ, Bool, true, false, cond, ◌==◌, List, [], ◌∷◌, bytes_eq, length, map, Option, None, Some, nat_lt}
use Rattle.std.specs.Cmp.Lexicographic.{nat_list_cmp_total}
use Rattle.std.specs.FinMap.{contains_key-keys, empty, get, get-empty, keys, same_map}
use Rattle.std.specs.List.{list_any}
use Rattle.std.specs.Option.{is_some, option_map_or, unwrap_or}
use Rattle.std.specs.Ordering.{eq_by_cmp}
use Rattle.gem_recipes.specs.declared.asking.RecipesAsked.{RecipesAsked}
use Rattle.gem_recipes.specs.declared.asking.RecipesAsked.TheVariants as asking
use Rattle.gem_recipes.specs.declared.keeper.RecipePut.TheVariants.{NoSpace, Stored, TooLong}
use Rattle.gem_recipes.specs.Asking.{after_changes, meant, put_ackc7, without_each}
use Rattle.gem_recipes.specs.History.{RecipeChange, after_change}
use Rattle.gem_recipes.specs.History.RecipeChange.{Deletes, Stores}
use Rattle.gem_recipes.specs.Laws.{IsExchange}
use Rattle.gem_recipes.specs.Recipes.{Recipe, Recipes, by_bytes, has_space, most_body, put_answer, without}
use Rattle.gem_recipes.specs.Requests.{ackc7_of, delete_ackc7_of}
use Rattle.gem_recipes.specs.Requests.Exchange.{Asked, Deleted, Inquired, Listed, Sent}
use Rattle.gem_recipes.proofs.History.{left_of, named_in_turn, none_left, same_name, tie}

-- ---- deletions one by one

pub in_turn :
    (names : List (List ℕ)) (recipes : Recipes)
    → after_changes (map (λ name. Deletes (name ∷ [])) names) recipes ≡ without_each names recipes
in_turn [] recipes = refl
in_turn (name ∷ names) recipes =
    ap (after_changes (map (λ one. Deletes (one ∷ [])) names)) (named_in_turn recipes name [])
    ∙ in_turn names (without name recipes)

pub tied :
    (name : List ℕ) (names : List (List ℕ)) → list_any (eq_by_cmp by_bytes name) names ≡ list_any (bytes_eq name) names
tied name [] = refl
tied name (one ∷ names) = rw (tie name one, tied name names) refl

-- where each name of the recipes goes, none is left
each_goes : (recipes : Recipes) → without_each (keys recipes) recipes ≡ empty
each_goes recipes =
    same_map nat_list_cmp_total same_name _ _ (λ one.
    left_of recipes (keys recipes) one
    ∙ go one (get recipes one) (contains_key-keys recipes one ∙ tied one (keys recipes))
    ∙ sym (get-empty by_bytes one))
  where
    go : (one : List ℕ) (o : Option Recipe) → is_some o ≡ list_any (bytes_eq one) (keys recipes)
        → cond (list_any (bytes_eq one) (keys recipes)) None o ≡ None
    go one None is = rw (sym is) refl
    go one (Some recipe) is = rw (sym is) refl

all_go :
    (names : List (List ℕ)) (recipes : Recipes)
    → after_changes (map (λ name. Deletes (name ∷ [])) (meant names recipes)) recipes
    ≡ after_change (Deletes names) recipes
all_go [] recipes = in_turn (keys recipes) recipes ∙ each_goes recipes ∙ sym (none_left recipes)
all_go (name ∷ more) recipes = in_turn (name ∷ more) recipes ∙ sym (named_in_turn recipes name more)

-- ---- the exchanges

-- a put that hasn't failed has its code
coded :
    (slots : ℕ) (name body : List ℕ) (recipes : Recipes)
    → Some (put_ackc7 slots name body recipes) ≡ ackc7_of (put_answer slots name body recipes)
coded slots name body recipes = go (nat_lt most_body (length body)) (has_space slots name recipes)
  where
    go : (long space : Bool)
        → Some (unwrap_or (ackc7_of (cond long TooLong (cond space Stored NoSpace))) 0)
        ≡ ackc7_of (cond long TooLong (cond space Stored NoSpace))
    go true space = refl
    go false true = refl
    go false false = refl

-- a code of 0, and any other
made_if :
    (b : Bool) (change : RecipeChange) (changes : List RecipeChange) (recipes : Recipes)
    → after_changes changes recipes ≡ after_change change recipes
    → after_changes (cond b changes []) recipes
    ≡ option_map_or (λ one. after_change one recipes) (cond b (Some change) None) recipes
made_if true change changes recipes same = same
made_if false change changes recipes same = refl

pub exchanges : (slots : ℕ) (asked : RecipesAsked) (recipes : Recipes) → IsExchange slots asked recipes
exchanges slots (asking.Inquire name long) recipes =
    record { exchange = Inquired name long _; is = refl; answered = refl; leaves = refl }
exchanges slots (asking.Send name body) recipes = record {
  exchange = Sent name body (put_ackc7 slots name body recipes);
  is = refl;
  answered = coded slots name body recipes;
  leaves = made_if (put_ackc7 slots name body recipes == 0) (Stores name body) (Stores name body ∷ []) recipes refl;
}
exchanges slots (asking.Ask name) recipes =
    record { exchange = Asked name _; is = refl; answered = refl; leaves = refl }
exchanges slots (asking.Delete names) recipes = record {
  exchange = Deleted names (delete_ackc7_of names recipes);
  is = refl;
  answered = refl;
  leaves = made_if (delete_ackc7_of names recipes == 0) (Deletes names) _ recipes (all_go names recipes);
}
exchanges slots asking.List recipes = record { exchange = Listed _; is = refl; answered = refl; leaves = refl }
