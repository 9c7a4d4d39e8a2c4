-- How a spool file changes (this profile).
use Rattle.std.specs.Prelude.{ℕ, zero, suc, ◌+◌, ◌%◌, Bool, true, false, List, [], ◌∷◌, ◌++◌, drop, set, Option}
use Rattle.std.specs.Option.{option_map}
use Rattle.disk_base.specs.Story.{with_part}
use Rattle.gate_cell.specs.Cell.{Cell, cell_in, with_value}
use Rattle.spool_file.specs.Area.{first_of}
use Rattle.spool_file.specs.File.{SpoolFile, file_in, slots_in}
use Rattle.spool_file.specs.Setup.{Setup, area_in, setup_cell, setup_of}
use Rattle.spool_file.specs.Slot.{Message, slot_in, slot_message}

-- other gates are open, and nothing else has changed
abbrev pub with_gates : List Bool → SpoolFile → SpoolFile
with_gates gates file = record {
  version = file.version;
  slots = file.slots;
  gates = gates;
  mark = file.mark;
  floor = file.floor;
  setup = file.setup;
  list = file.list;
}

-- gates with those of the slots of n numbers in a row shut, from a number on
abbrev pub gates_shut : (slots number n : ℕ) → List Bool → List Bool
gates_shut slots number zero gates = gates
gates_shut slots number (suc n) gates = set (gates_shut slots number n gates) ((number + n) % slots) false

abbrev pub with_shut : (number n : ℕ) → SpoolFile → SpoolFile
with_shut number n file = with_gates (gates_shut file.slots number n file.gates) file

-- with a message more at its end, whose first slot is open then
abbrev pub with_message : Message → SpoolFile → SpoolFile
with_message message file = record {
  version = file.version;
  slots = file.slots;
  gates = set file.gates (message.number % file.slots) true;
  mark = file.mark;
  floor = file.floor;
  setup = file.setup;
  list = file.list ++ message ∷ [];
}

-- without its first message, whose first slot is closed then
abbrev pub without_first : SpoolFile → SpoolFile
without_first file = record {
  version = file.version;
  slots = file.slots;
  gates = set file.gates (first_of file.floor.value file.list % file.slots) false;
  mark = file.mark;
  floor = file.floor;
  setup = file.setup;
  list = drop 1 file.list;
}

-- with its floor moved up to a number behind all its messages, none of which stands then
abbrev pub with_floor_moved : ℕ → SpoolFile → SpoolFile
with_floor_moved next file = record {
  version = file.version;
  slots = file.slots;
  gates = file.gates;
  mark = file.mark;
  floor = with_value next file.floor;
  setup = file.setup;
  list = [];
}

-- with another mark, and with its mark moved on
abbrev pub with_mark : Cell → SpoolFile → SpoolFile
with_mark mark file = record {
  version = file.version;
  slots = file.slots;
  gates = file.gates;
  mark = mark;
  floor = file.floor;
  setup = file.setup;
  list = file.list;
}

abbrev pub with_mark_moved : SpoolFile → SpoolFile
with_mark_moved file = with_mark (with_value (file.mark.value + 4096) file.mark) file

-- of version 2
abbrev pub upgraded : SpoolFile → SpoolFile
upgraded file = record {
  version = 2;
  slots = file.slots;
  gates = file.gates;
  mark = file.mark;
  floor = file.floor;
  setup = file.setup;
  list = file.list;
}

-- with another setup
abbrev pub with_setup : Setup → SpoolFile → SpoolFile
with_setup setup file = record {
  version = file.version;
  slots = file.slots;
  gates = file.gates;
  mark = file.mark;
  floor = file.floor;
  setup = setup;
  list = file.list;
}

-- ---- what bytes stand for, so changed

abbrev pub shut_in : (number n : ℕ) → List ℕ → SpoolFile
shut_in number n bytes = with_shut number n (file_in bytes)

-- with the message whose head is in a slot
abbrev pub sealed_in : ℕ → List ℕ → SpoolFile
sealed_in k bytes = with_message (slot_message (slots_in bytes) (slot_in bytes) k) (file_in bytes)

abbrev pub dropped_in : List ℕ → SpoolFile
dropped_in bytes = without_first (file_in bytes)

abbrev pub reserved_in : List ℕ → SpoolFile
reserved_in bytes = with_mark_moved (file_in bytes)

abbrev pub cleared_in : ℕ → List ℕ → SpoolFile
cleared_in next bytes = with_floor_moved next (file_in bytes)

abbrev pub upgraded_in : List ℕ → SpoolFile
upgraded_in bytes = upgraded (file_in bytes)

-- with another value of the setup's cell
abbrev pub set_in : (value : ℕ) → List ℕ → SpoolFile
set_in value bytes =
    with_setup (setup_of (with_value value (cell_in bytes setup_cell)) (area_in bytes)) (file_in bytes)

-- with some bytes written at a place of the area
abbrev pub area_written : (at : ℕ) → List ℕ → List ℕ → Option (List ℕ)
area_written at part bytes = option_map (λ area. with_part area at part) (area_in bytes)

abbrev pub written_in : (at : ℕ) → List ℕ → List ℕ → SpoolFile
written_in at part bytes = with_setup (setup_of (cell_in bytes setup_cell) (area_written at part bytes)) (file_in bytes)
