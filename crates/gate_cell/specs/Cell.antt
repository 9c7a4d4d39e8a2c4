-- A number in two copies, of which a gate names the one that counts (this profile).
use Rattle.std.specs.Prelude.{ℕ, ◌+◌, ◌%◌, ◌==◌, Bool, true, false, not, List, slice_index}
use Rattle.std.specs.Int.{w64, from_be_bytes, to_be_bytes}
use Rattle.disk_base.specs.Story.{bytes_at}

-- the seventeen bytes of a cell are two numbers of eight, the high byte first, and behind them the gate, whose lowest
-- bit says which of them is its value
abbrev pub gate_of : List ℕ → ℕ
gate_of bytes = slice_index bytes 16

abbrev pub names_second : ℕ → Bool
names_second gate = gate % 2 == 1

abbrev pub copy_place : Bool → ℕ
copy_place false = 0
copy_place true = 8

unfoldable pub copy_of : List ℕ → Bool → ℕ
copy_of bytes second = from_be_bytes w64 (bytes_at bytes (copy_place second) 8)

-- the bytes of a copy of a number
unfoldable pub copy_bytes : ℕ → List ℕ
copy_bytes value = to_be_bytes w64 value

-- what a cell holds: the value, and whether copy 1 is the one that has it
pub record Cell : Type 0 where
  pub value : ℕ
  pub second : Bool

-- the copy that the gate names, and the other one
abbrev pub cell_of : List ℕ → Cell
cell_of bytes = record {
  value = copy_of bytes (names_second (gate_of bytes));
  second = names_second (gate_of bytes);
}

abbrev pub spare_of : List ℕ → Cell
spare_of bytes = record {
  value = copy_of bytes (not (names_second (gate_of bytes)));
  second = not (names_second (gate_of bytes));
}

-- the same of a cell that begins at a place of a disk
abbrev pub cell_in : List ℕ → ℕ → Cell
cell_in bytes at = cell_of (bytes_at bytes at 17)

abbrev pub spare_in : List ℕ → ℕ → Cell
spare_in bytes at = spare_of (bytes_at bytes at 17)

-- another value, which counts once the gate names the other copy
abbrev pub with_value : ℕ → Cell → Cell
with_value value cell = record { value = value; second = not cell.second }

-- where the copy stands that doesn't count, in a cell that begins at a place
abbrev pub spare_place : ℕ → Cell → ℕ
spare_place at cell = at + copy_place (not cell.second)

-- the gate that names a copy
abbrev pub gate_byte : Bool → ℕ
gate_byte false = 0
gate_byte true = 1
