-- Runs of the equipment with its spool that can be followed by hand.
use Rattle.std.specs.Prelude.{◌≡◌, ◌-◌, ◌^◌, ℕ, true, false, List, [], ◌∷◌, ◌++◌, codes, drop, fold, length, map, replicate, slice_index, take, None, Some}
use Rattle.block_codec.specs.Frame.{frame_bytes}
use Rattle.gem_shapes.specs.declared.request.TablesRequest.TheVariants as tables_request
use Rattle.gem_spool.specs.declared.works.Work.TheVariants.{Put}
use Rattle.gem_states.specs.declared.comms.CommsIn.TheVariants.{SendFailed}
use Rattle.gem_states.specs.declared.comms.CommsState.TheVariants.{Communicating, WaitCra}
use Rattle.gem_states.specs.declared.control.ControlState.TheVariants.{Attempt, Remote}
use Rattle.gl_base.specs.declared.side.Side.TheVariants.{Equipment, Host}
use Rattle.line_end.specs.declared.event.Phase.TheVariants.{Gathering}
use Rattle.message_flow.specs.declared.message.Message.{Message}
use Rattle.message_flow.specs.Blocks.{header_of}
use Rattle.secs_items.specs.declared.item.Item.TheVariants as item
use Rattle.spool_file.specs.File.{SpoolFile}
use Rattle.spool_file.specs.Format.{empty_file}
use Rattle.spool_file.specs.Slot as slot
use Rattle.spool_slots.specs.Files.{with_message}
use Rattle.trace_log.specs.declared.commands.ToolCommand.{ToolCommand}
use Rattle.trace_log.specs.declared.names.Cause.TheVariants.{Confirmed, Overwritten}
use Rattle.trace_log.specs.declared.names.CommsName.TheVariants as comms
use Rattle.trace_log.specs.declared.names.ControlName.TheVariants.{EquipmentOffLine}
use Rattle.trace_log.specs.declared.names.Title.{Title}
use Rattle.trace_log.specs.Log.{Happening}
use Rattle.trace_log.specs.Names.{Spooled}
use Rattle.message_end.specs.Core.{Command as CoreCommand, EndView, Step, Went, at_first, step_in, with_line}
use Rattle.message_end.specs.Core.Command.{Draw, DrawnPrimary, Offer, Primary}
use Rattle.message_end.specs.Core.Went.{Spent}
use Rattle.message_end.specs.Duties.{all_done}
use Rattle.message_end.specs.Ends.Input.{Char, Command, Time}
use Rattle.message_end.specs.Parts.{core_after}
use Rattle.spool_ledger.specs.Activity.{rsda_of}
use Rattle.spool_ledger.specs.Ledger.{new_ledger}
use Rattle.spool_ledger.specs.Unloading.{fresh, with_unload}
use Rattle.equipment_tables.specs.declared.plan.EquipmentPlan.{EquipmentPlan}
use Rattle.equipment_tables.specs.Plan.{function_of}
use Rattle.equipment_tables.specs.Tables.{TablesState, tables_after}
use Rattle.tool_step.specs.declared.kind.Kind.{Kind}
use Rattle.tool_step.specs.Disk.{works_of}
use Rattle.spool_works.specs.DiskWorks.DiskWork.{Change}
use Rattle.tool_step.specs.Equipment.{EquipmentView, act, parts_done, settled_file, settled_went, started_on, with_core}
use Rattle.tool_step.specs.Own.{OwnView, ToolCommands, ToolDuty, ToolTurn, with_comms, with_ledger, with_tables}
use Rattle.tool_step.specs.Sent.{establish_commands, establish_request, grant_request, live_report, online_request}
use Rattle.tool_step.specs.Spooling.{lines_commands, stored_turn, unloaded}
use Rattle.tool_step.specs.States.{event_name, end_of_talk}

-- one variable, 7 at first; one event; no retry; a spool that is used, with these two constants
abbrev pub plan_with : (overwrites most : ℕ) → EquipmentPlan
plan_with overwrites most = record {
  line = record {
    device = 0;
    times = record { t1 = 500; t2 = 10000; rty = 0 };
    t3 = 45000;
    t4 = 45000;
    max_body = 4096;
  };
  mdln = codes "M";
  softrev = codes "1";
  enable = true;
  control = Remote;
  spooled = function_of 5 1 ∷ function_of 6 11 ∷ function_of 10 1 ∷ [];
  vars = record {
    variables = record { vid = 1; name = []; units = []; value = item.U4 (7 ∷ []) } ∷ [];
    constants = [];
    built_in = 10 ∷ 1 ∷ overwrites ∷ most ∷ [];
  };
  events = 1 ∷ [];
  alarms = record { alid = 7; category = 3; text = []; enabled = true } ∷ [];
  remote = record { commands = []; terminals = 1 };
}

-- the event is linked to a report of the variable, and enabled
abbrev pub reporting : TablesState → TablesState
reporting t =
    tables_after (tables_request.EnableEvents true [])
    (tables_after (tables_request.Link 0 (record { ceid = 1; rptids = 10 ∷ [] } ∷ []))
    (tables_after (tables_request.Define 0 (record { rptid = 10; vids = 1 ∷ [] } ∷ [])) t))

abbrev pub with_own : (OwnView → OwnView) → EquipmentView → EquipmentView
with_own change s = record s { node = record s.node { own = change s.node.own } }

-- a new file of so many slots, with these messages put into it
abbrev pub holding : ℕ → List slot.Message → SpoolFile
holding slots list = fold (λ file message. with_message message file) (empty_file slots) list

-- a start on a spool of three slots, with its first step behind it
abbrev pub on_spool : EquipmentPlan → List slot.Message → EquipmentView
on_spool plan list =
    with_own (λ own. record (with_tables (reporting own.tables) own) { has_begun = true })
    (started_on plan (holding 3 list)).next

-- the host is there
abbrev pub with_host : EquipmentView → EquipmentView
with_host = with_own (with_comms (record { state = Communicating; deadline = None }))

-- it has asked for the spool
abbrev pub unloading : EquipmentView → EquipmentView
unloading = with_own (λ own. with_ledger (with_unload (Some fresh) own.ledger) own)

-- ---- what it meets, one after the other

pub data Play : Type 0 where
  -- the tool commands; the line sends this character; time alone; a whole block of the host is taken
  Tells : (command : ToolCommand) → Play
  Takes : (byte : ℕ) → Play
  Waits : Play
  Hears : (message : Message) → Play

abbrev pub frame_of : Message → List ℕ
frame_of message = frame_bytes (record { header = header_of Host 0 message 1; body = message.body })

-- all characters of a frame but its last one have come
abbrev pub gathering : List ℕ → EquipmentView → EquipmentView
gathering frame s =
    let e = s.node.core in
    let front = take (length frame - 1) frame in
    record s { node = with_core (with_line (record e.line { phase = Gathering; gathered = front }) e) s.node }

abbrev pub plays : Play → ℕ → EquipmentView → Went EquipmentView Happening
plays (Tells command) now s = act s (Command command) now
plays (Takes byte) now s = act s (Char byte) now
plays Waits now s = act s Time now
plays (Hears message) now s =
    let frame = frame_of message in
    act (gathering frame s) (Char (slice_index frame (length frame - 1))) now

-- what has come of all, at one moment, and what was noted
abbrev pub played : ℕ → List Play → Step EquipmentView Happening → Step EquipmentView Happening
played now [] step = step
played now (play ∷ plays_left) step =
    let next = step_in (plays play now step.next) in
    played now plays_left (record next { notes = step.notes ++ next.notes })

abbrev pub after : ℕ → List Play → EquipmentView → Step EquipmentView Happening
after now all s = played now all (record { next = s; notes = []; written = [] })

-- ---- messages

-- the report of the event with this DATAID, the variable being so
abbrev pub report_text : (dataid value : ℕ) → List ℕ
report_text dataid value =
    1 ∷ 3 ∷ 177 ∷ 4 ∷ 0 ∷ 0 ∷ 0 ∷ dataid ∷ 177 ∷ 4 ∷ 0 ∷ 0 ∷ 0 ∷ 1 ∷ 1 ∷ 1 ∷ 1 ∷ 2
    ∷ 177 ∷ 4 ∷ 0 ∷ 0 ∷ 0 ∷ 10 ∷ 1 ∷ 1 ∷ 177 ∷ 4 ∷ 0 ∷ 0 ∷ 0 ∷ value ∷ []

abbrev pub report : (dataid value : ℕ) → Spooled
report dataid value = record { stream = 6; function = 11; body = report_text dataid value }

-- of a message of the spool, with its number
abbrev pub kept : ℕ → Spooled → slot.Message
kept number message =
    record { number = number; stream = message.stream; function = message.function; body = message.body }

abbrev pub sent : ℕ → Spooled → Message
sent system message =
    record { stream = message.stream; function = message.function; wait = true; system = system; body = message.body }

-- S6F12 with ACKC6 0
abbrev pub accepted : ℕ → Message
accepted system = record { stream = 6; function = 12; wait = false; system = system; body = 33 ∷ 1 ∷ 0 ∷ [] }

-- ---- the line fails: spooling begins

-- S1F13 with MDLN and SOFTREV has gone to the line
abbrev pub request_text : List ℕ
request_text = 1 ∷ 2 ∷ 65 ∷ 1 ∷ 77 ∷ 65 ∷ 1 ∷ 49 ∷ []

abbrev pub asks : EndView Kind → EndView Kind
asks e = core_after (Offer 0) (core_after (Primary (establish_request request_text)) e)

abbrev pub establishing : EquipmentView
establishing =
    let s = with_own (with_comms (record { state = WaitCra; deadline = None })) (on_spool (plan_with 1 0) []) in
    record s { node = with_core (asks s.node.core) s.node }

abbrev pub establish_title : Title
establish_title = record { name = record { stream = 1; function = 13; wait = true }; system = 0 }

-- nobody is there
abbrev pub SpoolingBegins : Type 0
SpoolingBegins =
    (after 10000 (Waits ∷ []) establishing).notes
    ≡ Happening.Failed establish_title ∷ Happening.Comms comms.WaitDelay ∷ Happening.Spool true ∷ Happening.StepEnded
    ∷ []

-- ---- a spool that is full

-- three messages stand in three slots
abbrev pub three : List slot.Message
three = kept 0 (report 0 7) ∷ kept 1 (report 1 7) ∷ kept 2 (report 2 7) ∷ []

-- a fourth is put
abbrev pub puts : Spooled → EquipmentView → Step EquipmentView Happening
puts message s = step_in (settled_went (parts_done ((λ own e. stored_turn message own) ∷ []) (at_first s)))

abbrev pub full_over : Step EquipmentView Happening
full_over = puts (report 3 7) (on_spool (plan_with 1 0) three)

abbrev pub full_kept : Step EquipmentView Happening
full_kept = puts (report 3 7) (on_spool (plan_with 0 0) three)

-- with OverWriteSpool it takes the place of the oldest; without, it is discarded
pub record FullSpools : Type 0 where
  pub over :
      full_over.notes
      ≡ Happening.Leaving 0 Overwritten (Some (report 3 7))
      ∷ Happening.Gone 0
      ∷ Happening.Storing 3 (report 3 7)
      ∷ Happening.Stored 3
      ∷ []
  pub later : full_over.next.file.list ≡ kept 1 (report 1 7) ∷ kept 2 (report 2 7) ∷ kept 3 (report 3 7) ∷ []
  pub discarded : full_kept.notes ≡ Happening.Discarded event_name ∷ []
  pub same : full_kept.next.file.list ≡ three

-- ---- an unload

-- the host has asked for a spool of three messages, of which it gets at most two. The variable was 5 at their events,
-- and is 7
abbrev pub standing : List slot.Message
standing = kept 1 (report 1 5) ∷ kept 2 (report 2 5) ∷ kept 3 (report 3 5) ∷ []

abbrev pub transmits : EquipmentView → EquipmentView
transmits s = unloading (with_host s)

-- a block of one message goes out and is acknowledged, and this comes
abbrev pub answered_by : Message → List Play
answered_by reply = Takes 4 ∷ Takes 6 ∷ Hears reply ∷ []

-- S6F0
abbrev pub aborted : ℕ → Message
aborted system = record { stream = 6; function = 0; wait = false; system = system; body = [] }

-- the first is confirmed, and the second is not
abbrev pub first_unload : Step EquipmentView Happening
first_unload =
    after 0 (Waits ∷ (answered_by (accepted 0) ++ answered_by (aborted 1)))
    (transmits (on_spool (plan_with 1 2) standing))

-- the second comes again with the third
abbrev pub second_unload : Step EquipmentView Happening
second_unload =
    after 0 (Waits ∷ (answered_by (accepted 2) ++ answered_by (accepted 3))) (transmits first_unload.next)

-- each goes out as it was put, with system bytes of its own, when the one before is confirmed and has left, in the step
-- of its reply; what isn't confirmed stays, and goes again; and when none is left spooling ends
pub record UnloadsInOrder : Type 0 where
  pub first :
      first_unload.notes
      ≡ Happening.Try 1 0
      ∷ Happening.Sent (sent 0 (report 1 5))
      ∷ Happening.StepEnded
      ∷ Happening.StepEnded
      ∷ Happening.StepEnded
      ∷ Happening.Received (accepted 0)
      ∷ Happening.Leaving 1 Confirmed None
      ∷ Happening.Gone 1
      ∷ Happening.Try 2 1
      ∷ Happening.Sent (sent 1 (report 2 5))
      ∷ Happening.StepEnded
      ∷ Happening.StepEnded
      ∷ Happening.StepEnded
      ∷ Happening.Received (aborted 1)
      ∷ Happening.StepEnded
      ∷ []
  pub left : first_unload.next.file.list ≡ kept 2 (report 2 5) ∷ kept 3 (report 3 5) ∷ []
  pub second :
      second_unload.notes
      ≡ Happening.Try 2 2
      ∷ Happening.Sent (sent 2 (report 2 5))
      ∷ Happening.StepEnded
      ∷ Happening.StepEnded
      ∷ Happening.StepEnded
      ∷ Happening.Received (accepted 2)
      ∷ Happening.Leaving 2 Confirmed None
      ∷ Happening.Gone 2
      ∷ Happening.Try 3 3
      ∷ Happening.Sent (sent 3 (report 3 5))
      ∷ Happening.StepEnded
      ∷ Happening.StepEnded
      ∷ Happening.StepEnded
      ∷ Happening.Received (accepted 3)
      ∷ Happening.Leaving 3 Confirmed None
      ∷ Happening.Gone 3
      ∷ Happening.Spool false
      ∷ Happening.StepEnded
      ∷ []
  pub none : second_unload.next.file.list ≡ []
  pub inactive : rsda_of second_unload.next.node.own.ledger ≡ 2

-- ---- the communication is lost

abbrev pub alarm : Spooled
alarm = record { stream = 5; function = 1; body = 1 ∷ 0 ∷ [] }

-- an S6F11 of more than one block
abbrev pub long_text : List ℕ
long_text = replicate 245 0

abbrev pub long_report : Spooled
long_report = record { stream = 6; function = 11; body = long_text }

-- an alarm was sent, an S6F11 waits for a grant, on-line was asked for, and a message of the spool is under way
abbrev pub does_all : List (CoreCommand Kind) → EndView Kind → EndView Kind
does_all [] e = e
does_all (command ∷ commands) e = does_all commands (core_after command e)

abbrev pub open_core : EndView Kind → EndView Kind
open_core =
    does_all
    (Primary (live_report alarm) ∷ Primary (grant_request (1 ∷ 0 ∷ [])) ∷ Primary online_request ∷ Draw
    ∷ DrawnPrimary (unloaded (report 4 7)) ∷ [])

abbrev pub lost_own : OwnView
lost_own =
    record (with_host (on_spool (plan_with 1 0) [])).node.own {
      control = record { state = Attempt; is_local = false };
      for_grant = record { system = 1; body = long_text } ∷ [];
      reports = record { system = 0; message = alarm } ∷ [];
      ledger = with_unload (Some (record { tried = Some (record { number = 4; waiting = None }); confirmed = 0 }))
          (new_ledger 1 4 (1 ∷ []));
    }

abbrev pub lost_core : EndView Kind
lost_core = open_core (on_spool (plan_with 1 0) []).node.core

-- the block of the alarm fails
abbrev pub loss : ToolTurn
loss = end_of_talk SendFailed (Some (header_of Equipment 0 (sent 0 alarm) 1)) 0 lost_own lost_core

abbrev pub title : (stream function system : ℕ) → Title
title stream function system =
    record { name = record { stream = stream; function = function; wait = true }; system = system }

abbrev pub later_commands : List ToolDuty → List ToolCommands
later_commands = map (λ duty. duty lost_core)

-- what isn't put has its line, in the order of beginning; the states; then what is put, the one in place of the other,
-- in a spool of one slot; S1F13 goes last. The message of the spool isn't put again, and was overwritten
pub record LosesInOrder : Type 0 where
  pub ended :
      (step_in (all_done Some (take 3 loss.duties) (at_first lost_core))).notes
      ≡ Happening.Failed (title 6 5 1)
      ∷ Happening.Failed (title 1 1 2)
      ∷ Happening.Control EquipmentOffLine
      ∷ Happening.Failed (title 6 11 3)
      ∷ []
  pub then :
      later_commands (drop 3 loss.duties)
      ≡ (lines_commands
      (Happening.Comms comms.WaitCra
      ∷ Happening.Leaving 4 Overwritten (Some alarm)
      ∷ Happening.Gone 4
      ∷ Happening.Storing 5 alarm
      ∷ Happening.Stored 5
      ∷ Happening.Leaving 5 Overwritten (Some long_report)
      ∷ Happening.Gone 5
      ∷ Happening.Storing 6 long_report
      ∷ Happening.Stored 6
      ∷ [])
      ++ establish_commands lost_own)
      ∷ []
  pub stands : settled_file loss.own.ledger (holding 1 (kept 4 (report 4 7) ∷ [])) ≡ holding 1 (kept 6 long_report ∷ [])

-- ---- the last number

-- three reports are open as the line fails, and one number is left for the spool
abbrev pub last_view : EquipmentView
last_view =
    let s = with_host (on_spool (plan_with 1 0) []) in
    record {
      node = record {
        own = record s.node.own {
          ledger = new_ledger 3 (2 ^ 63 - 1) [];
          reports = record { system = 0; message = report 0 7 } ∷ record { system = 1; message = report 1 7 }
              ∷ record { system = 2; message = report 2 7 } ∷ [];
        };
        core = does_all
            (Primary (live_report (report 0 7)) ∷ Primary (live_report (report 1 7))
            ∷ Primary (live_report (report 2 7))
            ∷ Offer 0 ∷ []) s.node.core;
      };
      file = s.file;
      recipes = s.recipes;
    }

abbrev pub last_step : Step EquipmentView Happening
last_step = step_in (act last_view Time 10000)

-- the first is put, and stands in the spool where the run ends
pub record PutsTheLast : Type 0 where
  pub spent : act last_view Time 10000 ≡ Spent last_step
  pub notes :
      last_step.notes
      ≡ Happening.Comms comms.WaitCra
      ∷ Happening.Spool true
      ∷ Happening.Storing (2 ^ 63 - 1) (report 0 7)
      ∷ Happening.Stored (2 ^ 63 - 1)
      ∷ []
  pub stands : last_step.next.file.list ≡ kept (2 ^ 63 - 1) (report 0 7) ∷ []
  pub works : works_of last_view Time 10000 ≡ Change (Put 6 11 (report_text 0 7)) ∷ []
