-- What is said of the reports among all that the equipment has noted: each holds what its variables held as its event
-- happened, or as it was asked for (SEMI E30, event data collection); and each event, like each setting, is of its
-- command. A report goes out at once, or it is put into the spool, or both; what goes out of the spool is what was put
-- there, as the law of the spool says. The newest comes first: what was noted before is the rest of the list.
use Rattle.std.specs.Prelude.{◌≡◌, ◌<◌, ◌^◌, ◌%◌, ◌+◌, ◌==◌, ◌&&◌, ◌||◌, ℕ, Bool, true, false, not, nat_eq, List, [], ◌∷◌, drop, length, filter, bytes_eq, Option, Some, None, is_some, if◌then◌else◌}
use Rattle.std.specs.List.{list_any}
use Rattle.gem_alarms.specs.Alarms.{alarm_in}
use Rattle.gem_reports.specs.Reporting.{is_enabled_in, is_planned}
use Rattle.gem_shapes.specs.Answers.{code_item}
use Rattle.gem_shapes.specs.declared.request.Request.TheVariants as request
use Rattle.gem_shapes.specs.declared.request.TablesRequest.{TablesRequest}
use Rattle.gem_shapes.specs.declared.request.TablesRequest.TheVariants as tables_request
use Rattle.gem_vars.specs.Settings.{refusal_of}
use Rattle.message_flow.specs.declared.message.Message.{Message}
use Rattle.secs_items.specs.declared.item.Item.{Item}
use Rattle.secs_items.specs.Encoding.{encode_fault}
use Rattle.secs_items.specs.Spelling.{shortest_spelling}
pub use Rattle.setup_law.specs.Setup.{past_in, tables_in}
use Rattle.trace_log.specs.declared.commands.ToolCommand.{ToolCommand}
use Rattle.trace_log.specs.declared.commands.ToolCommand.TheVariants as tool
use Rattle.trace_log.specs.Log.{Happening, Past}
use Rattle.trace_log.specs.Names.{KeptPrimary, Spooled}
use Rattle.message_end.specs.Core.{reply_function}
use Rattle.message_end.specs.Own.{Has}
use Rattle.equipment_tables.specs.declared.plan.EquipmentPlan.{EquipmentPlan}
use Rattle.equipment_tables.specs.Answers.{event_item, report_item_of}
use Rattle.equipment_tables.specs.Past.{tables_at}
use Rattle.equipment_tables.specs.Requests.{request_of}
use Rattle.equipment_tables.specs.Tables.{TablesState}
use Rattle.tool_step.specs.Setup.{carried_line, found_list}

-- ---- what is read off the notes since the newest start

-- the commands of the tool among these
abbrev pub commands_in : List Past → List ToolCommand
commands_in [] = []
commands_in (Past.Commanded command ∷ past) = command ∷ commands_in past
commands_in (Past.Asked primary ∷ past) = commands_in past

-- what is left to be carried out of the setup that a start has found, right behind that start: each entry is noted as
-- one that counts, or as refused
abbrev pub to_carry : List Happening → List KeptPrimary
to_carry [] = []
to_carry (Happening.Setup found ∷ before) = found_list found
to_carry (Happening.Recorded entry ∷ before) = drop 1 (to_carry before)
to_carry (Happening.Refused ∷ before) = drop 1 (to_carry before)
to_carry (_ ∷ before) = []

-- an event, with what counted before it
pub record Happened : Type 0 where
  pub ceid : ℕ
  pub dataid : ℕ
  pub past : List Past

abbrev pub events_in : List Happening → List Happened
events_in [] = []
events_in (Happening.EquipmentStarted found base ∷ before) = []
events_in (Happening.Event ceid dataid ∷ before) =
    record { ceid = ceid; dataid = dataid; past = past_in before } ∷ events_in before
events_in (_ ∷ before) = events_in before

-- S6F11, S6F16 and S6F20 (SEMI E5)
abbrev pub is_of : ℕ → ℕ → Message → Bool
is_of stream function message = (message.stream == stream) && (message.function == function)

-- the system bytes with which messages of the spool go out
abbrev pub tries_in : List Happening → List ℕ
tries_in [] = []
tries_in (Happening.EquipmentStarted found base ∷ before) = []
tries_in (Happening.Try number system ∷ before) = system ∷ tries_in before
tries_in (_ ∷ before) = tries_in before

-- an S6F11 that was sent, and not out of the spool
abbrev pub is_live : Message → List Happening → Bool
is_live message before = is_of 6 11 message && not (list_any (nat_eq message.system) (tries_in before))

-- the texts of these
abbrev pub reports_in : List Happening → List (List ℕ)
reports_in [] = []
reports_in (Happening.EquipmentStarted found base ∷ before) = []
reports_in (Happening.Sent message ∷ before) =
    if is_live message before then message.body ∷ reports_in before else reports_in before
reports_in (_ ∷ before) = reports_in before

-- an S6F11 that is put into the spool
abbrev pub is_event_report : Spooled → Bool
is_event_report message = (message.stream == 6) && (message.function == 11)

-- the DATAID of the next event: from 0 on, one after the other, and 0 again behind the last that four bytes hold (this
-- profile)
abbrev pub next_dataid : List Happening → ℕ
next_dataid [] = 0
next_dataid (Happening.EquipmentStarted found base ∷ before) = 0
next_dataid (Happening.Event ceid dataid ∷ before) = (dataid + 1) % 2 ^ 32
next_dataid (_ ∷ before) = next_dataid before

-- ---- texts

-- the text is the shortest spelling of the item, which has one
pub record IsTextOf (item : Item) (body : List ℕ) : Type 0 where
  pub spelled : encode_fault item ≡ None
  pub shortest : body ≡ shortest_spelling item

-- DATAID, CEID and the linked reports, each with the values of its variables at the event (SEMI E5, S6F11)
abbrev pub item_of : EquipmentPlan → Happened → Item
item_of plan event = event_item (tables_at plan event.past) event.ceid event.dataid

-- the event was enabled as it happened (SEMI E30, event data collection)
abbrev pub was_enabled : EquipmentPlan → Happened → Bool
was_enabled plan event = is_enabled_in (tables_at plan event.past).reports event.ceid

-- it was, and this is its text
abbrev pub is_reported_by : EquipmentPlan → List ℕ → Happened → Bool
is_reported_by plan body event =
    was_enabled plan event
    && (not (is_some (encode_fault (item_of plan event))) && bytes_eq body (shortest_spelling (item_of plan event)))

-- how many events have this text; and how often it is among some
abbrev pub count_of_events : EquipmentPlan → List ℕ → List Happening → ℕ
count_of_events plan body before = length (filter (is_reported_by plan body) (events_in before))

abbrev pub count_of : List ℕ → List (List ℕ) → ℕ
count_of body bodies = length (filter (bytes_eq body) bodies)

-- ---- reports

-- the text of an S6F11 tells of an event before it in the same start, one that was enabled, with that event's DATAID
-- and with what the variables held as it happened
pub record IsOfEvent (plan : EquipmentPlan) (body : List ℕ) (before : List Happening) : Type 0 where
  pub event : Happened
  pub happened : Has (events_in before) event
  pub enabled : was_enabled plan event ≡ true
  pub text : IsTextOf (item_of plan event) body

-- one that goes out has W; and no more go out with one text than there are events that have it
pub record IsReport (plan : EquipmentPlan) (message : Message) (before : List Happening) : Type 0 where
  pub wait : message.wait ≡ true
  pub of_event : IsOfEvent plan message.body before
  pub once : count_of message.body (reports_in before) < count_of_events plan message.body before

-- so does one that is put into the spool, and goes out later, in this start or another one
abbrev pub IsKeptReport : EquipmentPlan → Spooled → List Happening → Type 0
IsKeptReport plan message before = is_event_report message ≡ true → IsOfEvent plan message.body before

-- it answers the newest request that counts, a primary of stream 6 with this function that asks for this; and its text
-- is that of the item
pub record IsAnswer
    (function : ℕ) (asked : TablesRequest) (item : Item) (message : Message) (past : List Past) : Type 0 where
  pub primary : Message
  pub earlier : List Past
  pub newest : past ≡ Past.Asked primary ∷ earlier
  pub stream : primary.stream ≡ 6
  pub function_is : primary.function ≡ function
  pub system : message.system ≡ primary.system
  pub asks : request_of 6 function primary.body ≡ Some (request.OfTables asked)
  pub body : IsTextOf item message.body

-- S6F16 and S6F20 hold what the variables hold at the answer (SEMI E5, S6F15 and S6F19)
abbrev pub AnswersForEvent : EquipmentPlan → Message → List Happening → Type 0
AnswersForEvent plan message before =
    (ceid : ℕ)
    × IsAnswer 15 (tables_request.EventReport ceid) (event_item (tables_in plan before) ceid 0) message (past_in before)

abbrev pub AnswersForReport : EquipmentPlan → Message → List Happening → Type 0
AnswersForReport plan message before =
    (rptid : ℕ)
    × IsAnswer 19 (tables_request.Report rptid) (report_item_of (tables_in plan before) rptid) message (past_in before)

-- DRACK 1 and LRACK 1: there is no space (SEMI E5, S2F34, S2F36)
abbrev pub is_no_space : Message → Bool
is_no_space message =
    (is_of 2 34 message || is_of 2 36 message) && bytes_eq message.body (shortest_spelling (code_item 1))

-- a reply that answers a request which counts: any but S1F14, function 0, and one that says that there is no space,
-- whose requests change no table (SEMI E5, function)
abbrev pub is_answer : Message → Bool
is_answer message =
    ((not (message.function % 2 == 1) && not (message.function == 0)) && not (is_of 1 14 message))
    && not (is_no_space message)

-- it answers the newest request that counts, which has W, and has none itself; S6F16 and S6F20 are such replies, too.
-- So each request to which the host has such an answer counts
pub record IsReply (message : Message) (past : List Past) : Type 0 where
  pub primary : Message
  pub earlier : List Past
  pub newest : past ≡ Past.Asked primary ∷ earlier
  pub awaited : primary.wait ≡ true
  pub stream : message.stream ≡ primary.stream
  pub function : message.function ≡ reply_function primary.function
  pub wait : message.wait ≡ false
  pub system : message.system ≡ primary.system

pub record HoldsItsValues (plan : EquipmentPlan) (message : Message) (before : List Happening) : Type 0 where
  pub s6f11 : is_live message before ≡ true → IsReport plan message before
  pub s6f16 : is_of 6 16 message ≡ true → AnswersForEvent plan message before
  pub s6f20 : is_of 6 20 message ≡ true → AnswersForReport plan message before
  pub reply : is_answer message ≡ true → IsReply message (past_in before)

-- ---- commands of the tool

-- the note that a command brings, by the tables before it and the DATAID of the next event: that it is carried out, or
-- that it is refused, where its setting is, or where there is no such event or alarm. Other commands bring none of
-- these (this profile)
abbrev pub brought_by : TablesState → ℕ → ToolCommand → Option Happening
brought_by tables dataid (tool.Set vid value) =
    Some (if is_some (refusal_of tables.vars vid value) then Happening.Refused else Happening.Set vid)
brought_by tables dataid (tool.Event ceid) =
    Some (if is_planned tables.reports ceid then Happening.Event ceid dataid else Happening.Refused)
brought_by tables dataid (tool.Alarm alid is_set) =
    Some (if is_some (alarm_in tables.alarms alid) then Happening.Alarm alid is_set else Happening.Refused)
brought_by tables dataid _ = None

-- the note that is due right behind these: the one that the newest of them brings, if that is a command
abbrev pub due_behind : EquipmentPlan → List Happening → Option Happening
due_behind plan [] = None
due_behind plan (Happening.Recorded (Past.Commanded command) ∷ before) =
    brought_by (tables_in plan before) (next_dataid before) command
due_behind plan (_ ∷ before) = None

-- a note of a kind that commands bring
abbrev pub is_brought : Happening → Bool
is_brought (Happening.Set vid) = true
is_brought (Happening.Event ceid dataid) = true
is_brought (Happening.Alarm alid is_set) = true
is_brought Happening.Refused = true
is_brought _ = false

-- such a note stands right behind the command that brings it and nowhere else, and no other note stands there. So there
-- is one event for each command that brings one
abbrev pub IsBrought : EquipmentPlan → Happening → List Happening → Type 0
IsBrought plan what before = (if is_brought what then Some what else None) ≡ due_behind plan before

-- ---- all notes

-- a request counts right behind its delivery; a command of the tool counts as it comes
abbrev pub IsRecorded : Past → List Happening → Type 0
IsRecorded (Past.Asked primary) before = (earlier : List Happening) × (before ≡ Happening.Received primary ∷ earlier)
IsRecorded (Past.Commanded command) before = Unit {0}

-- a setup is found by a start, and told right behind it
abbrev pub IsFound : List Happening → Type 0
IsFound before =
    (found : List (ℕ × Spooled)) × (base : ℕ) × (earlier : List Happening)
    × (before ≡ Happening.EquipmentStarted found base ∷ earlier)

-- what is said of a note by its kind
abbrev pub IsReported : EquipmentPlan → Happening → List Happening → Type 0
IsReported plan (Happening.Setup found) before = IsFound before
IsReported plan (Happening.Sent message) before = HoldsItsValues plan message before
IsReported plan (Happening.Storing number message) before = IsKeptReport plan message before
IsReported plan (Happening.Recorded entry) before = IsRecorded entry before
IsReported plan _ before = Unit {0}

-- while a setup is carried out each note is that of its next entry, by the tables so far; else it is as its kind says,
-- and one that a command brings is that of its command
abbrev pub IsInPlace : EquipmentPlan → List KeptPrimary → Happening → List Happening → Type 0
IsInPlace plan [] what before = IsBrought plan what before × IsReported plan what before
IsInPlace plan (entry ∷ rest) what before = what ≡ carried_line (tables_in plan before) entry

-- every note agrees with all notes before it (this profile)
abbrev pub Reported : EquipmentPlan → List Happening → Type 0
Reported plan [] = Unit {0}
Reported plan (what ∷ before) = IsInPlace plan (to_carry before) what before × Reported plan before
