-- The two copies of a kept list in the area of a spool file, and what a keep makes of them (this profile).
use Rattle.std.specs.Prelude.{ℕ, ◌+◌, ◌-◌, ◌*◌, ◌^◌, ◌%◌, ◌/◌, ◌==◌, ◌&&◌, Bool, nat_le, nat_lt, if◌then◌else◌}
use Rattle.std.specs.Prelude.{◌≡◌, List, [], ◌∷◌, ◌++◌, is_some, length, not, true, Some}
use Rattle.disk_base.specs.Calls.{DiskCall, read_call, sync_call, write_call}
use Rattle.disk_base.specs.declared.disk.DiskAnswer.TheVariants.{Done}
use Rattle.gate_cell.specs.Cell.{Cell, copy_bytes, gate_byte, spare_place, with_value}
use Rattle.spool_file.specs.File.{SpoolFile, file_in}
use Rattle.spool_file.specs.Setup.{Setup, copy_size, setup_cell}
use Rattle.spool_file.specs.Slot.{slot_place}
use Rattle.spool_slots.specs.Files.{with_setup}

-- ---- the value of the setup's cell

-- the number of the copy that it names, and how many bytes the list has there
abbrev pub copy_number : (value : ℕ) → ℕ
copy_number value = value / 2 ^ 32

abbrev pub kept_length : (value : ℕ) → ℕ
kept_length value = value % 2 ^ 32

-- there are two copies, and a list is no longer than its own
abbrev pub names_list : (value : ℕ) → Bool
names_list value = nat_lt (copy_number value) 2 && nat_le (kept_length value) copy_size

-- so it does, unless the file has no area
abbrev pub HoldsList : SpoolFile → Type 0
HoldsList file = is_some file.setup.bytes ≡ true → names_list file.setup.cell.value ≡ true

-- the copy that it doesn't name, and the value that names a list there
abbrev pub spare_number : (value : ℕ) → ℕ
spare_number value = 1 - copy_number value % 2

abbrev pub value_with : (value : ℕ) → List ℕ → ℕ
value_with value list = 2 ^ 32 * spare_number value + length list

-- where a copy begins in the area, and in the file
abbrev pub copy_begin : (number : ℕ) → ℕ
copy_begin number = copy_size * number

abbrev pub list_place : (slots number : ℕ) → ℕ
list_place slots number = slot_place slots + copy_begin number

-- ---- what a keep makes

-- this list is kept, in the copy that wasn't named
abbrev pub kept_setup : List ℕ → Setup → Setup
kept_setup list setup =
    record { cell = with_value (value_with setup.cell.value list) setup.cell; bytes = Some list }

abbrev pub with_kept : List ℕ → SpoolFile → SpoolFile
with_kept list file = with_setup (kept_setup list file.setup) file

abbrev pub kept_in : List ℕ → List ℕ → SpoolFile
kept_in list bytes = with_kept list (file_in bytes)

-- ---- the calls of the disk

abbrev pub cell_look : List DiskCall
cell_look = read_call setup_cell 17 Done ∷ []

-- nothing is written where the list is empty
abbrev pub copy_calls : (at : ℕ) → List ℕ → List DiskCall
copy_calls at [] = []
copy_calls at (byte ∷ list) = write_call at (byte ∷ list) Done ∷ sync_call Done ∷ []

-- the cell is read, and the list written in the copy that its value doesn't name
abbrev pub list_calls : (slots value : ℕ) → List ℕ → List DiskCall
list_calls slots value list = cell_look ++ copy_calls (list_place slots (spare_number value)) list

-- another value of a cell that begins at a place
abbrev pub value_calls : (at : ℕ) → Cell → (value : ℕ) → List DiskCall
value_calls at cell value =
    read_call (at + 16) 1 Done
    ∷ write_call (spare_place at cell) (copy_bytes value) Done
    ∷ sync_call Done
    ∷ write_call (at + 16) (gate_byte (not cell.second) ∷ []) Done
    ∷ sync_call Done
    ∷ []

abbrev pub keep_calls : (slots : ℕ) → Cell → List ℕ → List DiskCall
keep_calls slots cell list =
    list_calls slots cell.value list ++ value_calls setup_cell cell (value_with cell.value list)

-- how many calls a keep makes, and how many of them before the write of the gate; and how many bytes it writes
abbrev pub many_early : List ℕ → ℕ
many_early [] = 4
many_early (byte ∷ list) = 6

abbrev pub many_calls : List ℕ → ℕ
many_calls list = many_early list + 2

abbrev pub many_bytes : List ℕ → ℕ
many_bytes list = length list + 9

-- the calls of a load: the cell; the list that its value names, unless that is empty; or, where the value is bad, the
-- gate that tells its place
abbrev pub list_look : (slots value : ℕ) → List DiskCall
list_look slots value =
    if kept_length value == 0 then []
    else read_call (list_place slots (copy_number value)) (kept_length value) Done ∷ []

abbrev pub gate_look : List DiskCall
gate_look = read_call (setup_cell + 16) 1 Done ∷ []

-- behind the look at the cell
abbrev pub value_looks : (slots value : ℕ) → List DiskCall
value_looks slots value = if names_list value then list_look slots value else gate_look

abbrev pub load_calls : (slots value : ℕ) → List DiskCall
load_calls slots value = cell_look ++ value_looks slots value
