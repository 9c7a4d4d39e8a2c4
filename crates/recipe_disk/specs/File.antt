-- A file of recipes: which bytes stand for which recipes (this profile).
use Rattle.std.specs.Prelude.{◌≡◌, ℕ, ◌+◌, ◌-◌, ◌&&◌, nat_lt, if◌then◌else◌, List, [], ◌∷◌, length, take, Option, Some, None}
use Rattle.std.specs.FinMap.{len}
use Rattle.std.specs.Int.{w32, from_be_bytes}
use Rattle.std.specs.Option.{option_map}
use Rattle.disk_base.specs.Story.{bytes_at}
use Rattle.gem_recipes.specs.Recipes.{Recipes}
use Rattle.spool_file.specs.Area.{first_at, or_else}
use Rattle.spool_file.specs.Front.{unlike_at}
use Rattle.recipe_disk.specs.Map.{has_number, recipes_below}
use Rattle.recipe_disk.specs.Slot.{RecipeSlot, head_break, is_open, number_of, slot_in, slot_place}

-- "GLRECIP1"
abbrev pub magic : List ℕ
magic = 71 ∷ 76 ∷ 82 ∷ 69 ∷ 67 ∷ 73 ∷ 80 ∷ 49 ∷ []

-- what is tested in front of the slots
abbrev pub front_in : List ℕ → List ℕ
front_in bytes = take 12 bytes

-- how many slots there are
abbrev pub slots_of : List ℕ → ℕ
slots_of front = from_be_bytes w32 (bytes_at front 8 4)

abbrev pub slots_in : List ℕ → ℕ
slots_in bytes = slots_of (front_in bytes)

unfoldable pub magic_break : List ℕ → Option ℕ
magic_break front = unlike_at 0 magic front

-- of a file with this many bytes
abbrev pub slots_break : List ℕ → ℕ → Option ℕ
slots_break front size =
    if nat_lt size 12 then Some size
    else (if nat_lt (slots_of front) 2 then Some 8
    else (if nat_lt 4096 (slots_of front) then Some 8
    else (if nat_lt size (slot_place (slots_of front)) then Some size
    else None)))

unfoldable pub front_break : List ℕ → ℕ → Option ℕ
front_break front size = or_else (magic_break front) (slots_break front size)

-- a place in slot k as one in the file
abbrev pub in_slot : ℕ → Option ℕ → Option ℕ
in_slot k place = option_map (λ p. slot_place k + p) place

-- where the fields of slot k break
abbrev pub fields_at : (ℕ → RecipeSlot) → ℕ → Option ℕ
fields_at slot k = in_slot k (head_break (slot k).head)

-- where slot k has the number of an earlier one
abbrev pub number_at : (ℕ → RecipeSlot) → ℕ → Option ℕ
number_at slot k =
    if is_open (slot k) && has_number slot k (number_of (slot k)) then Some (slot_place k + 1) else None

-- one slot of n stays free for the successor of a recipe, so the last one is at fault where each has a name of its own
abbrev pub names_break : (ℕ → RecipeSlot) → ℕ → Option ℕ
names_break slot n = if nat_lt (n - 1) (len (recipes_below slot n)) then Some (slot_place (n - 1) + 10) else None

-- where n slots break
abbrev pub area_break : (ℕ → RecipeSlot) → ℕ → Option ℕ
area_break slot n = or_else (first_at (fields_at slot) n) (or_else (first_at (number_at slot) n) (names_break slot n))

-- the first place at which bytes aren't a file of recipes
abbrev pub recipes_break : List ℕ → Option ℕ
recipes_break bytes =
    or_else (front_break (front_in bytes) (length bytes)) (area_break (slot_in bytes) (slots_in bytes))

-- the recipes for which bytes stand, if they stand for any
abbrev pub recipes_in : List ℕ → Recipes
recipes_in bytes = recipes_below (slot_in bytes) (slots_in bytes)

-- the bytes are a file of so many slots, and stand for these recipes
pub record StandsFor (slots : ℕ) (recipes : Recipes) (bytes : List ℕ) : Type 0 where
  pub sound : recipes_break bytes ≡ None
  pub slots_are : slots ≡ slots_in bytes
  pub is : recipes_in bytes ≡ recipes
