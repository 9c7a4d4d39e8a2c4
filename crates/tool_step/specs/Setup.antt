-- The setup of the equipment as its host has made it: what a start finds of it and carries out, and what is kept of a
-- request (this profile).
use Rattle.std.specs.Prelude.{ℕ, Bool, ◌==◌, ◌&&◌, ◌||◌, List, [], ◌∷◌, fold, length, Option, Some, None, Result, Ok, Err, if◌then◌else◌}
use Rattle.std.specs.Option.{option_map, option_map_or}
use Rattle.gem_reports.specs.declared.answers.Drack.TheVariants.{NoSpace}
use Rattle.gem_shapes.specs.Answers.{code_item}
use Rattle.gem_shapes.specs.declared.request.Request.{Request}
use Rattle.gem_shapes.specs.declared.request.Request.TheVariants as request
use Rattle.gem_shapes.specs.declared.request.TablesRequest.{TablesRequest}
use Rattle.message_flow.specs.declared.message.Message.{Message}
use Rattle.secs_items.specs.declared.item.Item.{Item}
use Rattle.setup_store.specs.Copies.{load_calls, with_kept}
use Rattle.setup_store.specs.Entries.{Entry, bytes_of, entries_in, is_kept}
use Rattle.setup_store.specs.Kept.{kept}
pub use Rattle.setup_law.specs.Setup.{carried_line}
use Rattle.spool_file.specs.File.{SpoolFile}
use Rattle.spool_file.specs.declared.reading.NotSpool.{NotSpool}
use Rattle.spool_rule.specs.Reply.{reply_item}
use Rattle.spool_rule.specs.declared.rule.RuleAnswer.TheVariants.{Replaced}
use Rattle.trace_log.specs.Log.{Happening}
use Rattle.message_end.specs.Ends.{Asked}
use Rattle.equipment_tables.specs.Answers.{drack_code}
use Rattle.equipment_tables.specs.Setup.{accepts_request, asked_of, primary_of}
use Rattle.equipment_tables.specs.Tables.{TablesState, after_past}
use Rattle.tool_step.specs.declared.owed.Owed.{Owed}
use Rattle.tool_step.specs.declared.owed.Owed.TheVariants.{Keep}
use Rattle.tool_step.specs.Own.{OwnView}

-- ---- what a start finds

-- bytes that are no list of entries, with which no start goes on, count as an empty one
abbrev pub entries_of : Result (List Entry) NotSpool → List Entry
entries_of (Ok list) = list
entries_of (Err e) = []

abbrev pub list_of : List ℕ → List Entry
list_of bytes = entries_of (entries_in bytes)

-- None where the file has no area
abbrev pub setup_in : SpoolFile → Option (List Entry)
setup_in file = option_map list_of file.setup.bytes

abbrev pub found_list : Option (List Entry) → List Entry
found_list None = []
found_list (Some list) = list

-- one entry more is carried out, as if the host had just asked for it; one that is refused changes nothing
abbrev pub tables_with : TablesState → Entry → TablesState
tables_with t entry = after_past (asked_of entry) t

-- all of them, in their order
abbrev pub set_up : TablesState → List Entry → TablesState
set_up = fold tables_with

abbrev pub carried_lines : TablesState → List Entry → List Happening
carried_lines t [] = []
carried_lines t (entry ∷ list) = carried_line t entry ∷ carried_lines (tables_with t entry) list

-- ---- what is kept of a request

-- the list behind one of the six primaries that change the setup, where it isn't refused; None behind any other
-- request, and where there is no area
abbrev pub next_kept : TablesRequest → Message → OwnView → Option (List Entry)
next_kept asked message own =
    if is_kept message.stream message.function && accepts_request own.tables asked
    then option_map (λ list. kept list (primary_of message)) own.setup
    else None

abbrev pub next_setup : Request → Message → OwnView → Option (List Entry)
next_setup (request.OfTables asked) message own = next_kept asked message own
next_setup _ message own = None

-- S2F33 and S2F35 have a code for want of space (SEMI E5, DRACK, LRACK)
abbrev pub has_space_code : Message → Bool
has_space_code message = (message.stream == 2) && ((message.function == 33) || (message.function == 35))

abbrev pub no_space : ℕ
no_space = drack_code NoSpace

-- how a primary is answered that was kept: by RSPACK 0 and no fault, or by the code 0 (SEMI E5, S2F44, EAC, DRACK,
-- LRACK, ERACK, ACKC5)
abbrev pub accepted_item : Message → Item
accepted_item primary = if primary.function == 43 then reply_item Replaced else code_item 0

-- ---- the work of keeping

abbrev pub bytes_to_keep : Option Owed → Option (List Entry) → Option (List ℕ)
bytes_to_keep None setup = None
bytes_to_keep (Some (Keep primary)) setup = option_map bytes_of setup
bytes_to_keep _ setup = None

-- the bytes that are to be kept in this step, if any are
abbrev pub to_keep : OwnView → Option (List ℕ)
to_keep own = bytes_to_keep own.owed own.setup

abbrev pub kept_file : OwnView → SpoolFile → SpoolFile
kept_file own file = option_map_or (λ bytes. with_kept bytes file) (to_keep own) file

-- ---- what a start asks of the disk for it

-- in a file without an area there is nothing to read
abbrev pub loading : SpoolFile → Asked
loading file = record {
  calls = option_map_or (λ bytes. length (load_calls file.slots file.setup.cell.value)) file.setup.bytes 0;
  bytes = 0;
}
