-- What a start reads of the setup in a file, and where that breaks (this profile).
use Rattle.std.specs.Prelude.{ℕ, ◌+◌, ◌/◌, ◌^◌, List, [], Option, Some, if◌then◌else◌}
use Rattle.std.specs.Option.{option_and_then, option_map, option_map_or, option_or}
use Rattle.disk_base.specs.Calls.{DiskCall}
use Rattle.gate_cell.specs.Cell.{Cell, copy_place}
use Rattle.setup_store.specs.Copies.{copy_number, list_place, load_calls, names_list}
use Rattle.setup_store.specs.Entries.{break_of, entries_in}
use Rattle.setup_store.specs.OnDisk.{behind}
use Rattle.spool_file.specs.File.{SpoolFile, file_in, spool_break}
use Rattle.spool_file.specs.Setup.{setup_cell}
use Rattle.spool_file.specs.declared.reading.NotSpool.{NotSpool}

-- the calls: none where the file has no area
abbrev pub setup_looks : SpoolFile → List DiskCall
setup_looks file = option_map_or (λ bytes. load_calls file.slots file.setup.cell.value) file.setup.bytes []

-- ---- where it breaks

-- with the highest byte of the cell's value, in the copy that counts, where that names no list
abbrev pub value_break : Cell → NotSpool
value_break cell = record { at = setup_cell + copy_place cell.second; got = Some (cell.value / 2 ^ 56) }

-- or within the bytes that it names, where these are no list
abbrev pub named_break : SpoolFile → List ℕ → Option NotSpool
named_break file bytes =
    let value = file.setup.cell.value in
    if names_list value
    then option_map (behind (list_place file.slots (copy_number value))) (break_of (entries_in bytes))
    else Some (value_break file.setup.cell)

-- a file without an area has none
abbrev pub setup_break : SpoolFile → Option NotSpool
setup_break file = option_and_then (named_break file) file.setup.bytes

-- the first place at which bytes break that stand for no spool, or for one whose setup is none
abbrev pub start_break : List ℕ → Option ℕ
start_break bytes = option_or (spool_break bytes) (option_map (λ e. e.at) (setup_break (file_in bytes)))
