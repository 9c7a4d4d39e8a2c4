-- The worked slots, by the newest open slot of each name and by the tests.
use Rattle.std.proofs.Common.{◌≡◌, refl, sym, ap, ℕ, zero, suc, ◌+◌, ◌<◌, true, false, List, [], ◌∷◌, None, Some, arith}
use Rattle.std.specs.FinMap.{len, len-empty}
use Rattle.std.specs.Option.{option_map}
use Rattle.gem_recipes.specs.Recipes.{Recipe, body_of, by_bytes}
use Rattle.recipe_disk.specs.File.{area_break}
use Rattle.recipe_disk.specs.Map.{IsHolder, IsNoName, is_new_name, recipes_below}
use Rattle.recipe_disk.specs.Slot.{RecipeSlot, is_open, name_of, number_of, slot_place}
use Rattle.recipe_disk.specs.Worked.{first, new_slot, old_slot, other_slot, recipe_slot, second, slot_with, slots}
use Rattle.recipe_disk.proofs.Areas.{area_none}
use Rattle.recipe_disk.proofs.Fresh.{closed_area}
use Rattle.recipe_disk.proofs.Holders.{held, names_differ, unheld}
use Rattle.recipe_disk.proofs.Scanning.{area_numbers, behind_numbers, names_few, names_many, names_next}

-- the body of a holder
of_holder : (slot : ℕ → RecipeSlot) (name : List ℕ) (k : ℕ) → IsHolder slot 2 name k → body_of name (recipes_below slot 2) ≡ Some (slot k).body
of_holder slot name k is = ap (option_map (λ (recipe : Recipe). recipe.body)) (held slot 2 name k is)

-- ---- a replacement

abbrev before : ℕ → RecipeSlot
before = slots (old_slot true ∷ new_slot false ∷ [])

abbrev both : ℕ → RecipeSlot
both = slots (old_slot true ∷ new_slot true ∷ [])

abbrev behind : ℕ → RecipeSlot
behind = slots (old_slot false ∷ new_slot true ∷ [])

shut_not : false ≡ true → ⊥
shut_not is = absurd (grind (arith, is))

pub written : body_of first (recipes_below before 2) ≡ Some (33 ∷ 1 ∷ 2 ∷ [])
written = of_holder before first 0 (record { below = omega arith; opened = refl; named = refl; newest = newest })
  where
    newest : (j : ℕ) → j < 2 → (j ≡ 0 → ⊥) → is_open (before j) ≡ true → name_of (before j) ≡ first → number_of (before j) < number_of (before 0)
    newest zero below other there named = absurd (other refl)
    newest (suc zero) below other there named = absurd (shut_not there)
    newest (suc (suc j)) below other there named = absurd (omega (arith, below))

pub opened : body_of first (recipes_below both 2) ≡ Some (33 ∷ 1 ∷ 3 ∷ [])
opened = of_holder both first 1 (record { below = omega arith; opened = refl; named = refl; newest = newest })
  where
    newest : (j : ℕ) → j < 2 → (j ≡ 1 → ⊥) → is_open (both j) ≡ true → name_of (both j) ≡ first → number_of (both j) < number_of (both 1)
    newest zero below other there named = omega arith
    newest (suc zero) below other there named = absurd (other refl)
    newest (suc (suc j)) below other there named = absurd (omega (arith, below))

pub closed : body_of first (recipes_below behind 2) ≡ Some (33 ∷ 1 ∷ 3 ∷ [])
closed = of_holder behind first 1 (record { below = omega arith; opened = refl; named = refl; newest = newest })
  where
    newest : (j : ℕ) → j < 2 → (j ≡ 1 → ⊥) → is_open (behind j) ≡ true → name_of (behind j) ≡ first → number_of (behind j) < number_of (behind 1)
    newest zero below other there named = absurd (shut_not there)
    newest (suc zero) below other there named = absurd (other refl)
    newest (suc (suc j)) below other there named = absurd (omega (arith, below))

pub unknown : body_of second (recipes_below both 2) ≡ None
unknown = ap (option_map (λ (recipe : Recipe). recipe.body)) (unheld both 2 second none)
  where
    none : IsNoName both 2 second
    none zero below there named = names_differ first second refl named
    none (suc zero) below there named = names_differ first second refl named
    none (suc (suc k)) below there named = absurd (omega (arith, below))

-- ---- the tests

one_name : (slot : ℕ → RecipeSlot) → true ≡ is_new_name slot 0 → 1 ≡ len (recipes_below slot 1)
one_name slot new = names_next slot 0 0 true (sym (len-empty by_bytes Recipe)) new

pub sound : area_break both 2 ≡ None
sound =
    area_numbers both 2 None refl
    (behind_numbers both 2 None refl (names_few both 2 1 (names_next both 1 1 false (one_name both refl) refl) (omega arith)))

abbrev two_names : ℕ → RecipeSlot
two_names = slots (old_slot true ∷ other_slot 1 ∷ [])

pub names : area_break two_names 2 ≡ Some (slot_place 1 + 10)
names =
    area_numbers two_names 2 (Some (slot_place 1 + 10)) refl
    (behind_numbers two_names 2 (Some (slot_place 1 + 10)) refl
    (names_many two_names 2 2 (omega arith) (names_next two_names 1 1 true (one_name two_names refl) refl) (omega arith)))

pub number : area_break (slots (old_slot true ∷ other_slot 0 ∷ [])) 2 ≡ Some (slot_place 1 + 1)
number = refl

pub spent : area_break (slots (recipe_slot true 9223372036854775808 [] [] ∷ [])) 2 ≡ Some (slot_place 0 + 1)
spent = refl

pub nameless : area_break (slots (recipe_slot true 0 [] [] ∷ [])) 2 ≡ Some (slot_place 0 + 9)
nameless = refl

pub long : area_break (slots (slot_with true 0 first 65443 [] ∷ [])) 2 ≡ Some (slot_place 0 + 90)
long = refl

pub shut : area_break (slots (slot_with false 9223372036854775808 [] 65443 [] ∷ [])) 2 ≡ None
shut = area_none all_shut 2 (closed_area all_shut 2 each)
  where
    all_shut : ℕ → RecipeSlot
    all_shut = slots (slot_with false 9223372036854775808 [] 65443 [] ∷ [])

    each : (k : ℕ) → k < 2 → is_open (all_shut k) ≡ false
    each zero below = refl
    each (suc k) below = refl
