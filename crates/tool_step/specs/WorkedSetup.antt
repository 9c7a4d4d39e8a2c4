-- A setup that is kept, refused and carried out again, in turns that can be followed by hand: what a body asks for is
-- read in a row of its own, and the turns are given what was read.
use Rattle.std.specs.Prelude.{◌≡◌, ◌+◌, ℕ, Bool, true, false, List, [], ◌∷◌, replicate, None, Option, Some}
use Rattle.block_codec.specs.declared.header.Header.{Header}
use Rattle.gem_reports.specs.Reporting.{is_enabled_in}
use Rattle.gem_shapes.specs.declared.request.Request.{Request}
use Rattle.gem_shapes.specs.declared.request.Request.TheVariants as request
use Rattle.gem_shapes.specs.declared.request.TablesRequest.TheVariants as tables_request
use Rattle.message_flow.specs.declared.message.Message.{Message}
use Rattle.secs_items.specs.declared.item.Item.{Item}
use Rattle.secs_items.specs.declared.item.Item.TheVariants as item
use Rattle.secs_items.specs.Items.{number_item}
use Rattle.setup_store.specs.Entries.{Entry, bytes_of, has_room}
use Rattle.setup_store.specs.Worked.{define, eleven, entry, events, linked, ten}
use Rattle.spool_file.specs.File.{SpoolFile}
use Rattle.spool_file.specs.Format.{empty_file}
use Rattle.spool_slots.specs.Files.{with_setup as with_area}
use Rattle.spool_works.specs.DiskWorks.{fronts_of}
use Rattle.spool_works.specs.DiskWorks.DiskWork.{Keep}
use Rattle.trace_log.specs.Log.{Happening, Past}
use Rattle.message_end.specs.Core.{Step, Went, and_then, asked_by, at_first, step_in}
use Rattle.equipment_tables.specs.Answers.{event_item}
use Rattle.equipment_tables.specs.Setup.{asked_of}
use Rattle.equipment_tables.specs.Tables.{TablesState, asked_after, set_by}
use Rattle.tool_step.specs.Disk.{works_behind}
use Rattle.tool_step.specs.Equipment.{EquipmentView, ended_step, parts_done, settled_went, started_on}
use Rattle.tool_step.specs.Messages.{primary_turn, requested_turn, unkept_turn}
use Rattle.tool_step.specs.Own.{OwnView, ToolTurn, with_setup, with_tables}
use Rattle.tool_step.specs.WorkedSpool.{plan_with, with_host, with_own}

-- ---- what the host asks for

-- a primary with such system bytes; and the reply to it by a code of one byte
abbrev pub asked : Bool → ℕ → Entry → Message
asked wait system primary = record {
  stream = primary.stream;
  function = primary.function;
  wait = wait;
  system = system;
  body = primary.body;
}

abbrev pub coded : (code system : ℕ) → Entry → Message
coded code system primary = record {
  stream = primary.stream;
  function = primary.function + 1;
  wait = false;
  system = system;
  body = 33 ∷ 1 ∷ code ∷ [];
}

-- and by function 0
abbrev pub aborted : (system : ℕ) → Entry → Message
aborted system primary = record {
  stream = primary.stream;
  function = 0;
  wait = false;
  system = system;
  body = [];
}

-- a new file of three slots, whose area holds this list, or which has no area
abbrev pub file_with : Option (List Entry) → SpoolFile
file_with None = with_area (record { cell = (empty_file 3).setup.cell; bytes = None }) (empty_file 3)
file_with (Some list) =
    with_area (record { cell = (empty_file 3).setup.cell; bytes = Some (bytes_of list) }) (empty_file 3)

-- a start on it, and the same with its first step behind it, where the host is there
abbrev pub start_with : Option (List Entry) → Step EquipmentView Happening
start_with list = started_on (plan_with 0 0) (file_with list)

abbrev pub tool_with : Option (List Entry) → EquipmentView
tool_with list = with_host (with_own (λ own. record own { has_begun = true }) (start_with list).next)

-- ---- one that is accepted is kept

-- what is read of a primary: S2F33 of one report of the variable, or of none
abbrev pub defines : ℕ → Request
defines rptid = request.OfTables (tables_request.Define 0 (record { rptid = rptid; vids = 1 ∷ [] } ∷ []))

abbrev pub deletes : Request
deletes = request.OfTables (tables_request.Define 0 [])

-- the newest message that was delivered is this one
abbrev pub delivered : Message → EquipmentView → EquipmentView
delivered message s =
    record s { node = record s.node { core = record s.node.core { asked = asked_by message } } }

-- its turn, in which that is asked for, and the whole step
abbrev pub turned : ToolTurn → Message → EquipmentView → Went EquipmentView Happening
turned turn message s = parts_done ((λ own e. turn) ∷ []) (at_first (delivered message s))

abbrev pub ended : Went EquipmentView Happening → Step EquipmentView Happening
ended begun = step_in (and_then (settled_went begun) (ended_step 0))

abbrev pub turn_at : Request → Message → EquipmentView → ToolTurn
turn_at request message s = requested_turn 0 request message s.node.own

abbrev pub begun_at : Request → Message → EquipmentView → Went EquipmentView Happening
begun_at request message s = turned (turn_at request message s) message s

abbrev pub heard : Request → Message → EquipmentView → Step EquipmentView Happening
heard request message s = ended (begun_at request message s)

abbrev pub stops_in : Went EquipmentView Happening → List (List Happening)
stops_in begun = fronts_of [] (works_behind begun) (step_in begun).notes

-- S2F33 of report 10
abbrev pub defined : Bool → Step EquipmentView Happening
defined wait = heard (defines 10) (asked wait 5 ten) (tool_with (Some []))

-- it counts, it is kept, and only then it is answered; where the disk fails at that, nothing behind its line is noted,
-- and no answer goes
pub record IsKeptSo : Type 0 where
  -- its body asks for that
  pub read :
      (header : Header)
      → primary_turn 0 header (asked true 5 ten) (tool_with (Some [])).node.own
      ≡ turn_at (defines 10) (asked true 5 ten) (tool_with (Some []))
  pub notes :
      (defined true).notes
      ≡ Happening.Recorded (Past.Asked (asked true 5 ten))
      ∷ Happening.Keeping (asked true 5 ten)
      ∷ Happening.Kept (asked true 5 ten)
      ∷ Happening.Sent (coded 0 5 ten)
      ∷ Happening.StepEnded
      ∷ []
  pub works :
      works_behind (begun_at (defines 10) (asked true 5 ten) (tool_with (Some []))) ≡ Keep (bytes_of (ten ∷ [])) ∷ []
  pub stops :
      stops_in (begun_at (defines 10) (asked true 5 ten) (tool_with (Some [])))
      ≡ (Happening.Recorded (Past.Asked (asked true 5 ten)) ∷ Happening.Keeping (asked true 5 ten) ∷ []) ∷ []
  pub file : (defined true).next.file.setup.bytes ≡ Some (bytes_of (ten ∷ []))
  pub list : (defined true).next.node.own.setup ≡ Some (ten ∷ [])
  -- without W it is kept, and nothing is answered
  pub unasked :
      (defined false).notes
      ≡ Happening.Recorded (Past.Asked (asked false 5 ten))
      ∷ Happening.Keeping (asked false 5 ten)
      ∷ Happening.Kept (asked false 5 ten)
      ∷ Happening.StepEnded
      ∷ []

-- ---- one that isn't kept

-- report 10 is there already, and this is kept
abbrev pub with_ten : List Entry → EquipmentView
with_ten list =
    with_own (λ own. with_setup list (with_tables (asked_after (Some (defines 10)) own.tables) own))
    (tool_with (Some []))

-- a list with as many bytes as are kept, and with one entry more
abbrev pub filling : Entry
filling = entry 2 37 (replicate 262138 0)

-- the tool keeps that list
abbrev pub full : EquipmentView
full = with_own (with_setup (filling ∷ [])) (tool_with (Some []))

-- one for which there is no room
abbrev pub refused_by : Entry → Step EquipmentView Happening
refused_by primary =
    let message = asked true 5 primary in
    let s = tool_with (Some []) in
    ended (turned (unkept_turn message s.node.own) message s)

pub record IsNotKept : Type 0 where
  -- the same once more is refused by DRACK 3, counts, and that is all
  pub refused :
      (heard (defines 10) (asked true 6 ten) (with_ten (ten ∷ []))).notes
      ≡ Happening.Recorded (Past.Asked (asked true 6 ten))
      ∷ Happening.Sent (coded 3 6 ten)
      ∷ Happening.StepEnded
      ∷ []
  pub no_work : works_behind (begun_at (defines 10) (asked true 6 ten) (with_ten (ten ∷ []))) ≡ []
  -- in a file without an area it is answered at once
  pub no_area :
      (heard (defines 10) (asked true 5 ten) (tool_with None)).notes
      ≡ Happening.Recorded (Past.Asked (asked true 5 ten))
      ∷ Happening.Sent (coded 0 5 ten)
      ∷ Happening.StepEnded
      ∷ []
  pub none_asked : works_behind (begun_at (defines 10) (asked true 5 ten) (tool_with None)) ≡ []
  -- where there is no room it doesn't count, and gets DRACK 1 or LRACK 1, and else function 0
  pub fits : has_room (bytes_of (filling ∷ [])) ≡ true
  pub over : has_room (bytes_of (filling ∷ ten ∷ [])) ≡ false
  pub unkept : turn_at (defines 10) (asked true 5 ten) full ≡ unkept_turn (asked true 5 ten) full.node.own
  pub define : (refused_by ten).notes ≡ Happening.Sent (coded 1 5 ten) ∷ Happening.StepEnded ∷ []
  pub link : (refused_by linked).notes ≡ Happening.Sent (coded 1 5 linked) ∷ Happening.StepEnded ∷ []
  pub other : (refused_by (events 1 [])).notes ≡ Happening.Sent (aborted 5 (events 1 [])) ∷ Happening.StepEnded ∷ []

-- ---- the list over several of them

-- what the tool keeps beside its core behind a request
abbrev pub own_behind : Request → Message → OwnView → OwnView
own_behind request message own = (requested_turn 0 request message own).own

-- S2F33 of report 10, S2F33 without entries, and S2F33 of report 11: the last alone is kept
abbrev pub anew : OwnView
anew =
    own_behind (defines 11) (asked true 7 eleven) (own_behind deletes (asked true 6 (define []))
    (own_behind (defines 10) (asked true 5 ten) (tool_with (Some [])).node.own))

-- ---- a start carries it out

-- report 10, once more, its link, and that all events are enabled
abbrev pub kept_list : List Entry
kept_list = ten ∷ ten ∷ linked ∷ events 1 [] ∷ []

abbrev pub tables_again : TablesState
tables_again = (start_with (Some kept_list)).next.node.own.tables

-- S6F11 of the event, with its report
abbrev pub reported : ℕ → Item
reported value =
    item.L (number_item 0 ∷ number_item 1
    ∷ item.L (item.L (number_item 10 ∷ item.L (item.U4 (value ∷ []) ∷ []) ∷ []) ∷ []) ∷ [])

pub record IsSetUpSo : Type 0 where
  pub last_alone : anew.setup ≡ Some (eleven ∷ [])
  -- one that is refused is noted, and stays in the list
  pub notes :
      (start_with (Some kept_list)).notes
      ≡ Happening.EquipmentStarted [] 0
      ∷ Happening.Setup (Some kept_list)
      ∷ Happening.Recorded (asked_of ten)
      ∷ Happening.Refused
      ∷ Happening.Recorded (asked_of linked)
      ∷ Happening.Recorded (asked_of (events 1 []))
      ∷ Happening.StepEnded
      ∷ []
  pub list : (start_with (Some kept_list)).next.node.own.setup ≡ Some kept_list
  pub none :
      (start_with None).notes ≡ Happening.EquipmentStarted [] 0 ∷ Happening.Setup None ∷ Happening.StepEnded ∷ []
  -- the event is reported as the host has asked for in the start before, with what the variable is now
  pub enabled : is_enabled_in tables_again.reports 1 ≡ true
  pub told : (value : ℕ) → event_item (set_by None 1 (item.U4 (value ∷ [])) tables_again) 1 0 ≡ reported value
