-- Slots that can be followed by hand: a recipe that is replaced in a store of two slots, and slots that break.
use Rattle.std.specs.Prelude.{◌≡◌, ◌+◌, ◌^◌, ℕ, zero, suc, Bool, true, false, List, [], ◌∷◌, codes, length, None, Some}
use Rattle.gem_recipes.specs.Recipes.{body_of}
use Rattle.recipe_disk.specs.File.{area_break}
use Rattle.recipe_disk.specs.Map.{recipes_below}
use Rattle.recipe_disk.specs.Slot.{RecipeSlot, slot_place}

abbrev pub first : List ℕ
first = codes "Au"

abbrev pub second : List ℕ
second = codes "Cu"

-- a slot with these fields
abbrev pub slot_with : (opened : Bool) (number : ℕ) (name : List ℕ) (long : ℕ) (body : List ℕ) → RecipeSlot
slot_with opened number name long body = record {
  head = record { opened = opened; number = number; name_len = length name; name = name; body_len = long };
  body = body;
}

abbrev pub recipe_slot : (opened : Bool) (number : ℕ) (name body : List ℕ) → RecipeSlot
recipe_slot opened number name body = slot_with opened number name (length body) body

-- these slots, and behind them none that is open
abbrev pub slots : List RecipeSlot → ℕ → RecipeSlot
slots [] k = recipe_slot false 0 [] []
slots (slot ∷ more) zero = slot
slots (slot ∷ more) (suc k) = slots more k

-- Au with a B of one byte, the same with another one, and Cu
abbrev pub old_slot : Bool → RecipeSlot
old_slot opened = recipe_slot opened 0 first (33 ∷ 1 ∷ 2 ∷ [])

abbrev pub new_slot : Bool → RecipeSlot
new_slot opened = recipe_slot opened 1 first (33 ∷ 1 ∷ 3 ∷ [])

abbrev pub other_slot : ℕ → RecipeSlot
other_slot number = recipe_slot true number second (33 ∷ 1 ∷ 2 ∷ [])

pub record WorkedSlots : Type 0 where
  -- a replacement: its parts are written, its gate is opened, the gate of the old one is closed
  pub written :
      body_of first (recipes_below (slots (old_slot true ∷ new_slot false ∷ [])) 2) ≡ Some (33 ∷ 1 ∷ 2 ∷ [])
  pub opened :
      body_of first (recipes_below (slots (old_slot true ∷ new_slot true ∷ [])) 2) ≡ Some (33 ∷ 1 ∷ 3 ∷ [])
  pub closed :
      body_of first (recipes_below (slots (old_slot false ∷ new_slot true ∷ [])) 2) ≡ Some (33 ∷ 1 ∷ 3 ∷ [])
  pub unknown : body_of second (recipes_below (slots (old_slot true ∷ new_slot true ∷ [])) 2) ≡ None
  -- two slots of one name stand for a recipe; two of one number don't, nor do two names in two slots
  pub sound : area_break (slots (old_slot true ∷ new_slot true ∷ [])) 2 ≡ None
  pub number : area_break (slots (old_slot true ∷ other_slot 0 ∷ [])) 2 ≡ Some (slot_place 1 + 1)
  pub names : area_break (slots (old_slot true ∷ other_slot 1 ∷ [])) 2 ≡ Some (slot_place 1 + 10)
  -- fields out of their ranges, of which the first one counts
  pub spent : area_break (slots (recipe_slot true (2 ^ 63) [] [] ∷ [])) 2 ≡ Some (slot_place 0 + 1)
  pub nameless : area_break (slots (recipe_slot true 0 [] [] ∷ [])) 2 ≡ Some (slot_place 0 + 9)
  pub long : area_break (slots (slot_with true 0 first 65443 [] ∷ [])) 2 ≡ Some (slot_place 0 + 90)
  -- what isn't open isn't tested
  pub shut : area_break (slots (slot_with false (2 ^ 63) [] 65443 [] ∷ [])) 2 ≡ None
