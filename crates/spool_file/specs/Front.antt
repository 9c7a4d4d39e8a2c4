-- What stands in front of the slots of a spool file (this profile).
use Rattle.std.specs.Prelude.{ℕ, ◌+◌, ◌^◌, ◌==◌, nat_lt, if◌then◌else◌, List, [], ◌∷◌, take, get_or, Option, Some}
use Rattle.std.specs.Prelude.{None}
use Rattle.std.specs.Int.{w32, from_be_bytes}
use Rattle.disk_base.specs.Story.{bytes_at}
use Rattle.gate_cell.specs.Cell.{Cell, cell_in, copy_place, names_second}
use Rattle.spool_file.specs.Area.{first_break}
use Rattle.spool_file.specs.Slot.{slot_place}
use Rattle.spool_file.specs.declared.slot.Frame.{Frame}

-- the place, from a place on, of the first byte that isn't as wanted, or isn't there
abbrev pub unlike_at : ℕ → List ℕ → List ℕ → Option ℕ
unlike_at place [] bytes = None
unlike_at place (want ∷ wanted) [] = Some place
unlike_at place (want ∷ wanted) (byte ∷ bytes) =
    if want == byte then unlike_at (place + 1) wanted bytes else Some place

-- "GLSPOOL1", and what a file of version 2 begins with, "GLSPOOL"
abbrev pub magic : List ℕ
magic = 71 ∷ 76 ∷ 83 ∷ 80 ∷ 79 ∷ 79 ∷ 76 ∷ 49 ∷ []

abbrev pub magic_of : (version : ℕ) → List ℕ
magic_of version = if version == 1 then magic else take 7 magic

-- how many bytes are tested in front of the slots, and the first ones of a file
abbrev pub front_size : ℕ
front_size = 47

abbrev pub front_in : List ℕ → List ℕ
front_in bytes = take front_size bytes

-- where the gate of the version stands, and the version: 1 where the gate is even, and 2 where it is odd or isn't there
abbrev pub version_gate : ℕ
version_gate = 46

abbrev pub version_of : List ℕ → ℕ
version_of front = if names_second (get_or front version_gate 1) then 2 else 1

-- how many slots there are
abbrev pub slots_of : List ℕ → ℕ
slots_of front = from_be_bytes w32 (bytes_at front 8 4)

-- where the cells of the mark and of the floor begin
abbrev pub mark_cell : ℕ
mark_cell = 12

abbrev pub floor_cell : ℕ
floor_cell = 29

-- the mark, and the floor, below which no message stands
abbrev pub mark_of : List ℕ → ℕ
mark_of front = (cell_in front mark_cell).value

abbrev pub floor_of : List ℕ → ℕ
floor_of front = (cell_in front floor_cell).value

-- what the tests of the slots go by
abbrev pub frame_of : List ℕ → Frame
frame_of front = record { version = version_of front; slots = slots_of front; floor = floor_of front }

unfoldable pub magic_break : List ℕ → Option ℕ
magic_break front = unlike_at 0 (magic_of (version_of front)) front

-- of a file with this many bytes
abbrev pub slots_break : List ℕ → ℕ → Option ℕ
slots_break front size =
    if nat_lt size 12 then Some size
    else (if slots_of front == 0 then Some 8
    else (if nat_lt 65535 (slots_of front) then Some 8
    else (if nat_lt size (slot_place (slots_of front)) then Some size
    else None)))

-- where a cell that begins at a place has a value above the most that it may have: at the copy that counts
abbrev pub cell_break : ℕ → ℕ → Cell → Option ℕ
cell_break at most cell = if nat_lt most cell.value then Some (at + copy_place cell.second) else None

abbrev pub mark_break : List ℕ → Option ℕ
mark_break front = cell_break mark_cell (2 ^ 32) (cell_in front mark_cell)

abbrev pub floor_break : List ℕ → Option ℕ
floor_break front = cell_break floor_cell (2 ^ 63) (cell_in front floor_cell)

-- the tests in their order, and where the front breaks
abbrev pub front_tests : List ℕ → ℕ → List (Option ℕ)
front_tests front size = magic_break front ∷ slots_break front size ∷ mark_break front ∷ floor_break front ∷ []

unfoldable pub front_break : List ℕ → ℕ → Option ℕ
front_break front size = first_break (front_tests front size)
