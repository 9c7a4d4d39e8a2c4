-- A slot of the file of recipes (this profile).
use Rattle.std.specs.Prelude.{ℕ, ◌+◌, ◌*◌, ◌^◌, ◌==◌, ◌&&◌, Bool, nat_le, nat_lt, not, if◌then◌else◌, List, take, slice_index, Option, Some, None}
use Rattle.std.specs.Int.{w32, w64, from_be_bytes}
use Rattle.disk_base.specs.Story.{bytes_at}
use Rattle.gem_recipes.specs.Recipes.{Recipe, most_body}
use Rattle.recipe_disk.specs.declared.head.Head.{Head}

-- where slot k begins
abbrev pub slot_place : ℕ → ℕ
slot_place k = 4096 + 65536 * k

-- what a gate and the 93 bytes behind it say: the slot is open where the gate is 5A; number, length of the name, 80
-- bytes for it, length of the body; numbers have the high byte first
abbrev pub head_of : (gate : ℕ) (fields : List ℕ) → Head
head_of gate fields = record {
  opened = gate == 90;
  number = from_be_bytes w64 (take 8 fields);
  name_len = slice_index fields 8;
  name = bytes_at fields 9 80;
  body_len = from_be_bytes w32 (bytes_at fields 89 4);
}

-- a slot: its head, and the body behind it
pub record RecipeSlot : Type 0 where
  pub head : Head
  pub body : List ℕ

abbrev pub head_in : List ℕ → ℕ → Head
head_in bytes k = head_of (slice_index bytes (slot_place k)) (bytes_at bytes (slot_place k + 1) 93)

-- slot k of a file
abbrev pub slot_in : List ℕ → ℕ → RecipeSlot
slot_in bytes k = record {
  head = head_in bytes k;
  body = take (head_in bytes k).body_len (bytes_at bytes (slot_place k + 94) most_body);
}

abbrev pub is_open : RecipeSlot → Bool
is_open slot = slot.head.opened

abbrev pub name_in : Head → List ℕ
name_in head = take head.name_len head.name

abbrev pub name_of : RecipeSlot → List ℕ
name_of slot = name_in slot.head

abbrev pub number_of : RecipeSlot → ℕ
number_of slot = slot.head.number

abbrev pub recipe_of : RecipeSlot → Recipe
recipe_of slot = record { number = number_of slot; body = slot.body }

-- where the fields of an open slot break, as a place in the slot
abbrev pub fields_break : Head → Option ℕ
fields_break head =
    if nat_le (2 ^ 63) head.number then Some 1
    else (if not (nat_le 1 head.name_len && nat_le head.name_len 80) then Some 9
    else (if nat_lt most_body head.body_len then Some 90
    else None))

-- a slot that isn't open doesn't break
abbrev pub head_break : Head → Option ℕ
head_break head = if head.opened then fields_break head else None
