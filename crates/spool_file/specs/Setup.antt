-- The area behind the slots of a spool file, and the setup that is kept there (this profile).
use Rattle.std.specs.Prelude.{ℕ, ◌+◌, ◌*◌, ◌^◌, ◌%◌, ◌/◌, Bool, nat_le, if◌then◌else◌, List, drop, length, replicate}
use Rattle.std.specs.Prelude.{take, Option, Some, None}
use Rattle.std.specs.Option.{option_map}
use Rattle.disk_base.specs.Story.{bytes_at}
use Rattle.gate_cell.specs.Cell.{Cell, cell_in}
use Rattle.spool_file.specs.Front.{front_in, slots_of}
use Rattle.spool_file.specs.Slot.{slot_place}

-- where the cell of the setup begins
abbrev pub setup_cell : ℕ
setup_cell = 47

-- the area has two copies, of so many bytes each; and all its bytes
abbrev pub copy_size : ℕ
copy_size = 262144

abbrev pub area_size : ℕ
area_size = 524288

-- where it ends: it begins behind the last slot
abbrev pub area_end : (slots : ℕ) → ℕ
area_end slots = slot_place slots + area_size

-- whether a file has one, which its size alone tells
abbrev pub has_area : (slots size : ℕ) → Bool
has_area slots size = nat_le (area_end slots) size

-- its bytes
abbrev pub area_of : (slots : ℕ) → List ℕ → Option (List ℕ)
area_of slots bytes =
    if has_area slots (length bytes) then Some (bytes_at bytes (slot_place slots) area_size) else None

abbrev pub area_in : List ℕ → Option (List ℕ)
area_in bytes = area_of (slots_of (front_in bytes)) bytes

-- those of a new file
unfoldable pub new_area : List ℕ
new_area = replicate area_size 0

-- the bytes that a value of the cell names in the area: its upper half is the number of the copy, and its lower half
-- how many bytes they are
abbrev pub named_in : (value : ℕ) → List ℕ → List ℕ
named_in value area = take (value % 2 ^ 32) (drop (copy_size * (value / 2 ^ 32)) area)

-- what is kept: the cell, and the bytes that it names; a file without an area has none
pub record Setup : Type 0 where
  pub cell : Cell
  pub bytes : Option (List ℕ)

abbrev pub setup_of : Cell → Option (List ℕ) → Setup
setup_of cell area = record { cell = cell; bytes = option_map (named_in cell.value) area }

abbrev pub setup_in : List ℕ → Setup
setup_in bytes = setup_of (cell_in bytes setup_cell) (area_in bytes)
