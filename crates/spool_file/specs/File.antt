-- A spool file: what bytes stand for, which is all of it that a loss of power keeps (this profile).
use Rattle.std.specs.Prelude.{◌≡◌, ℕ, zero, suc, ◌%◌, Bool, false, List, [], ◌∷◌, ◌++◌, length, get_or, Option, None}
use Rattle.disk_base.specs.Story.{Story}
use Rattle.gate_cell.specs.Cell.{Cell, cell_in}
use Rattle.spool_file.specs.Area.{or_else}
use Rattle.spool_file.specs.Breaks.{area_break, list_below}
use Rattle.spool_file.specs.Front.{floor_cell, front_break, front_in, mark_cell, slots_of, version_of}
use Rattle.spool_file.specs.Setup.{Setup, setup_in}
use Rattle.spool_file.specs.Slot.{Message, Slot, is_open, slot_in}
use Rattle.spool_file.specs.declared.slot.Frame.{Frame}

abbrev pub slots_in : List ℕ → ℕ
slots_in bytes = slots_of (front_in bytes)

abbrev pub floor_in : List ℕ → ℕ
floor_in bytes = (cell_in bytes floor_cell).value

abbrev pub version_in : List ℕ → ℕ
version_in bytes = version_of (front_in bytes)

abbrev pub frame_in : List ℕ → Frame
frame_in bytes = record { version = version_in bytes; slots = slots_in bytes; floor = floor_in bytes }

-- the first place at which bytes aren't a spool file
abbrev pub spool_break : List ℕ → Option ℕ
spool_break bytes =
    or_else (front_break (front_in bytes) (length bytes)) (area_break (frame_in bytes) (slot_in bytes))

-- of each of the first n slots, whether it is open
abbrev pub gates_below : (ℕ → Slot) → ℕ → List Bool
gates_below slot zero = []
gates_below slot (suc k) = gates_below slot k ++ is_open (slot k) ∷ []

-- the version, how many slots there are, which of them are open, mark and floor with the copies that have them, the
-- setup, and the messages by number
pub record SpoolFile : Type 0 where
  pub version : ℕ
  pub slots : ℕ
  pub gates : List Bool
  pub mark : Cell
  pub floor : Cell
  pub setup : Setup
  pub list : List Message

-- what bytes stand for if they stand for anything
abbrev pub file_in : List ℕ → SpoolFile
file_in bytes = record {
  version = version_in bytes;
  slots = slots_in bytes;
  gates = gates_below (slot_in bytes) (slots_in bytes);
  mark = cell_in bytes mark_cell;
  floor = cell_in bytes floor_cell;
  setup = setup_in bytes;
  list = list_below (frame_in bytes) (slot_in bytes) (slots_in bytes);
}

-- whether the slot of a number is open; where it holds no message, its gate is stale
abbrev pub is_open_at : ℕ → SpoolFile → Bool
is_open_at number file = get_or file.gates (number % file.slots) false

pub record StandsFor (bytes : List ℕ) (file : SpoolFile) : Type 0 where
  pub sound : spool_break bytes ≡ None
  pub is : file ≡ file_in bytes

-- all that is there now stands for a file, and is settled
pub record Ends (t : Story) (file : SpoolFile) : Type 0 where
  pub settled : t.now.loose ≡ []
  pub stands : StandsFor t.now.bytes file
