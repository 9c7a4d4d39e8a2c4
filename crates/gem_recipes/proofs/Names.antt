-- Names that are looked up before their recipes go.
use Rattle.std.proofs.Common.{◌≡◌, ◌<◌, ◌+◌, ◌||◌, refl, sym, ◌∙◌, ap, subst, ℕ, Bool, true, false, cond, List, [], ◌∷◌, ◌++◌, bytes_eq, get_or, length, take, Option, None, Some, Result, Ok, Err, is_eq}
use Rattle.std.proofs.lemmas.List.{take_more}
use Rattle.std.proofs.lemmas.List.Folds.{list_any_more}
use Rattle.std.specs.BTreeSet.{BTreeSet}
use Rattle.std.specs.Cmp.Lexicographic.{nat_list_cmp_total, nat_list_eq_equiv}
use Rattle.std.specs.FinMap.{contains_key, contains_key-keys, get, get-remove, keys}
use Rattle.std.specs.List.{list_any}
use Rattle.std.specs.Option.{is_some, option_map}
use Rattle.std.specs.Prelude.{OnOk}
use Rattle.gem_recipes.specs.declared.asking.Unanswered.{Unanswered}
use Rattle.gem_recipes.specs.Asking.{AreNames, DropsOne, has_name}
use Rattle.gem_recipes.specs.Keeper.{IsOf}
use Rattle.gem_recipes.specs.Recipes.{Recipe, Recipes, by_bytes, names_of, without}
use Rattle.gem_recipes.proofs.Exchanges.{tied}
use Rattle.gem_recipes.proofs.History.{tie}
use Rattle.gem_recipes.proofs.Serving.{gone}

-- ---- the set of them

pub none_found :
    {K : Type 0} (bytes : K → List ℕ) (found : BTreeSet K) (name : List ℕ) → found.keys ≡ []
    → has_name bytes found name ≡ false
none_found bytes found name none = ap (list_any (λ one. is_eq (by_bytes name (bytes one)))) none

-- one name more is put in
pub found_more :
    (now had : Bool) (names : List (List ℕ)) (place : ℕ) (name key other : List ℕ) → place < length names
    → key ≡ get_or names place other → now ≡ cond (is_eq (by_bytes key name)) true had
    → had ≡ list_any (bytes_eq name) (take place names) → now ≡ list_any (bytes_eq name) (take (place + 1) names)
found_more now had names place name key other less is more so_far =
    more
    ∙ ap (λ b. cond b true had) (tie key name ∙ nat_list_eq_equiv.symm key name)
    ∙ go had (bytes_eq name key)
    ∙ ap (λ b. b || bytes_eq name key) so_far
    ∙ ap (λ one. list_any (bytes_eq name) (take place names) || bytes_eq name one) is
    ∙ sym (list_any_more (bytes_eq name) names place other less)
  where
    go : (a b : Bool) → cond b true a ≡ (a || b)
    go true true = refl
    go true false = refl
    go false true = refl
    go false false = refl

-- the names so far, with the next one
pub next_name :
    (names : List (List ℕ)) (place : ℕ) (name other : List ℕ) → place < length names
    → name ≡ get_or names place other → take (place + 1) names ≡ take place names ++ name ∷ []
next_name names place name other less is =
    take_more names place other less ∙ ap (λ one. take place names ++ one ∷ []) (sym is)

-- one name is taken out
pub taken_out :
    (now had : Bool) (name bytes one : List ℕ) → bytes ≡ name → now ≡ cond (is_eq (by_bytes bytes one)) false had
    → now ≡ cond (bytes_eq name one) false had
taken_out now had name bytes one same out =
    out ∙ ap (λ b. cond b false had) (tie bytes one ∙ ap (λ other. bytes_eq other one) same)

-- ---- the recipes of them

-- behind a deletion those that are left are the names
pub left_behind :
    (told after : Option Recipes) (name : List ℕ) (had has : List ℕ → Bool) → AreNames told had
    → ((one : List ℕ) → has one ≡ cond (bytes_eq name one) false (had one)) → after ≡ option_map (without name) told
    → AreNames after has
left_behind None after name had has are left then one recipes here = absurd (none recipes (sym then ∙ here))
  where
    none : (recipes : Recipes) → ◌≡◌ {A = Option Recipes} None (Some recipes) → ⊥
    none recipes is = cc
left_behind (Some first) after name had has are left then one recipes here =
    subst (λ kept. contains_key kept one ≡ has one) (same (without name first) recipes (sym then ∙ here))
    (ap is_some (get-remove nat_list_cmp_total first name one)
    ∙ ap (λ b. is_some (cond b None (get first one))) (tie one name ∙ nat_list_eq_equiv.symm one name)
    ∙ go (bytes_eq name one) (get first one)
    ∙ ap (cond (bytes_eq name one) false) (are one first refl)
    ∙ sym (left one))
  where
    same : (one other : Recipes) → ◌≡◌ {A = Option Recipes} (Some one) (Some other) → one ≡ other
    same one other is = cc

    go : (b : Bool) (o : Option Recipe) → is_some (cond b None o) ≡ cond b false (is_some o)
    go true o = refl
    go false o = refl

-- where its recipe is deleted, unless that has failed
pub left_on :
    (told after : Option Recipes) (name : List ℕ) (had has : List ℕ → Bool) (r : Result (Unit {0}) Unanswered)
    → AreNames told had → ((one : List ℕ) → has one ≡ cond (bytes_eq name one) false (had one))
    → DropsOne name told after r → OnOk r (AreNames after has)
left_on told after name had has (Ok done) are left drops = left_behind told after name had has are left drops
left_on told after name had has (Err why) are left drops = tt

-- a name that isn't left has no recipe
pub none_gone :
    (told : Option Recipes) (name : List ℕ) (had : List ℕ → Bool) → AreNames told had → had name ≡ false
    → told ≡ option_map (without name) told
none_gone told name had are none = gone told name (λ recipes here. are name recipes here ∙ none)

-- the names that a keeper gives are those of the recipes
pub named_all :
    (told : Option Recipes) (known : List (List ℕ)) (has : List ℕ → Bool) → IsOf told names_of known
    → ((name : List ℕ) → has name ≡ list_any (bytes_eq name) known) → AreNames told has
named_all told known has all each name recipes here =
    contains_key-keys recipes name
    ∙ tied name (keys recipes)
    ∙ ap (list_any (bytes_eq name)) (all recipes here)
    ∙ sym (each name)
