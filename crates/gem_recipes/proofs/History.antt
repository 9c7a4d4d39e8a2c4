-- What a change makes of the recipe of a name, and deletions one by one.
use Rattle.std.proofs.Common.{◌≡◌, refl, sym, ◌∙◌, ap, Bool, true, false, cond, ◌||◌, ℕ, List, [], ◌∷◌, bytes_eq, not, Option, None, Some, Equal, is_eq}
use Rattle.std.specs.Cmp.Lexicographic.{nat_list_cmp_total, texts_ties}
use Rattle.std.specs.FinMap.{empty, get, get-empty, get-insert, get-remove, get-retain_keys, nat_cmp-IsAntisymmetric, same_map, slice_cmp-IsAntisymmetric}
use Rattle.std.specs.List.{list_any}
use Rattle.std.specs.Option.{option_map, unwrap_or}
use Rattle.gem_recipes.specs.Asking.{without_each}
use Rattle.gem_recipes.specs.History.{RecipeChange, after_change, body_at, body_from, is_meant, recipes_after}
use Rattle.gem_recipes.specs.History.RecipeChange.{Deletes, Stores}
use Rattle.gem_recipes.specs.Recipes.{Recipe, Recipes, body_of, by_bytes, next_number, without}

-- two names that tie are one
pub same_name : (a b : List ℕ) → by_bytes a b ≡ Equal → a ≡ b
same_name = slice_cmp-IsAntisymmetric nat_cmp-IsAntisymmetric

-- to tie is to have the same bytes
pub tie : (a b : List ℕ) → is_eq (by_bytes a b) ≡ bytes_eq a b
tie a b = sym (texts_ties a b)

-- ---- one change

abbrev body : Option Recipe → Option (List ℕ)
body found = option_map (λ recipe. recipe.body) found

when_stored :
    (b : Bool) (recipe : Recipe) (o : Option Recipe)
    → body (cond b (Some recipe) o) ≡ unwrap_or (cond b (Some (Some recipe.body)) None) (body o)
when_stored true recipe o = refl
when_stored false recipe o = refl

when_deleted :
    (b : Bool) (o : Option Recipe)
    → body (cond (not b) o None) ≡ unwrap_or (cond b (Some None) None) (body o)
when_deleted true o = refl
when_deleted false o = refl

-- what is left of a name
kept_of :
    (recipes : Recipes) (names : List (List ℕ)) (name : List ℕ)
    → get (after_change (Deletes names) recipes) name ≡ cond (not (is_meant names name)) (get recipes name) None
kept_of recipes names name =
    get-retain_keys recipes (λ one. not (is_meant names one)) name
    (λ one tied. ap (λ other. not (is_meant names other)) (sym (same_name name one tied)))

change_said :
    (recipes : Recipes) (change : RecipeChange) (name : List ℕ)
    → body_of name (after_change change recipes) ≡ unwrap_or (body_from name change) (body_of name recipes)
change_said recipes (Stores other bytes) name =
    let recipe : Recipe = record { number = next_number recipes; body = bytes } in
    ap body (get-insert nat_list_cmp_total recipes other recipe name)
    ∙ ap (λ b. body (cond b (Some recipe) (get recipes name))) (tie name other)
    ∙ when_stored (bytes_eq name other) recipe (get recipes name)
change_said recipes (Deletes names) name =
    ap body (kept_of recipes names name) ∙ when_deleted (is_meant names name) (get recipes name)

pub looked_back :
    (found : Recipes) (past : List RecipeChange) (name : List ℕ)
    → body_of name (recipes_after found past) ≡ body_at found past name
looked_back found [] name = refl
looked_back found (change ∷ past) name =
    change_said (recipes_after found past) change name
    ∙ ap (unwrap_or (body_from name change)) (looked_back found past name)

-- ---- deletions

either : (a b : Bool) (o : Option Recipe) → cond a None (cond b None o) ≡ cond (b || a) None o
either true true o = refl
either true false o = refl
either false true o = refl
either false false o = refl

turned : (b : Bool) (o : Option Recipe) → cond (not b) o None ≡ cond b None o
turned true o = refl
turned false o = refl

-- what is left of a name behind deletions one by one
pub left_of :
    (recipes : Recipes) (names : List (List ℕ)) (name : List ℕ)
    → get (without_each names recipes) name ≡ cond (list_any (bytes_eq name) names) None (get recipes name)
left_of recipes [] name = refl
left_of recipes (one ∷ more) name =
    left_of (without one recipes) more name
    ∙ ap (cond (list_any (bytes_eq name) more) None) (get-remove nat_list_cmp_total recipes one name)
    ∙ ap (λ b. cond (list_any (bytes_eq name) more) None (cond b None (get recipes name))) (tie name one)
    ∙ either (list_any (bytes_eq name) more) (bytes_eq name one) (get recipes name)

pub named_in_turn :
    (recipes : Recipes) (name : List ℕ) (more : List (List ℕ))
    → after_change (Deletes (name ∷ more)) recipes ≡ without_each (name ∷ more) recipes
named_in_turn recipes name more =
    same_map nat_list_cmp_total same_name _ _ (λ one.
    kept_of recipes (name ∷ more) one
    ∙ turned (is_meant (name ∷ more) one) (get recipes one)
    ∙ sym (left_of recipes (name ∷ more) one))

pub none_left : (recipes : Recipes) → after_change (Deletes []) recipes ≡ empty
none_left recipes =
    same_map nat_list_cmp_total same_name _ _ (λ one. kept_of recipes [] one ∙ sym (get-empty by_bytes one))
