-- That the next number is above all there are, and is given to what is stored.
use Rattle.std.proofs.Common.{◌≡◌, ◌∙◌, ap, ◌+◌, ◌<◌, ◌≤◌, ℕ, All, List, [], ◌∷◌, arith, cond, fold, is_eq, le_refl, le_trans, max, Some}
use Rattle.std.proofs.lemmas.Cmp.{tied_itself}
use Rattle.std.proofs.lemmas.List.Elements.{All-cons, All-nil}
use Rattle.std.specs.Cmp.Lexicographic.{nat_list_cmp_total}
use Rattle.std.specs.FinMap.{get, get-insert}
use Rattle.gem_recipes.specs.Recipes.{Recipe, Recipes, next_number, numbers_of, with_recipe}

abbrev next_from : ℕ → List ℕ → ℕ
next_from next numbers = fold (λ before number. max before (number + 1)) next numbers

is_left : (a b : ℕ) → a ≤ max a b
is_left a b = omega arith

is_right : (a b c : ℕ) → max a (b + 1) ≤ c → b < c
is_right a b c h = omega arith

rises : (next : ℕ) (numbers : List ℕ) → next ≤ next_from next numbers
rises next [] = le_refl next
rises next (one ∷ more) =
    le_trans (is_left next (one + 1)) (rises (max next (one + 1)) more)

all_above : (next : ℕ) (numbers : List ℕ) → All (λ number. number < next_from next numbers) numbers
all_above next [] = All-nil (λ number. number < next)
all_above next (one ∷ more) =
    let later = max next (one + 1) in
    All-cons (λ number. number < next_from later more) one more
    (is_right next one (next_from later more) (rises later more)) (all_above later more)

pub above : (recipes : Recipes) → All (λ number. number < next_number recipes) (numbers_of recipes)
above recipes = all_above 0 (numbers_of recipes)

pub gets_next :
    (recipes : Recipes) (name bytes : List ℕ)
    → get (with_recipe name bytes recipes) name ≡ Some (record { number = next_number recipes; body = bytes })
gets_next recipes name bytes =
    let recipe : Recipe = record { number = next_number recipes; body = bytes } in
    get-insert nat_list_cmp_total recipes name recipe name
    ∙ ap (λ o. cond (is_eq o) (Some recipe) (get recipes name)) (tied_itself nat_list_cmp_total name)
