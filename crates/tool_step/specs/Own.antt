-- What the equipment keeps beside the core of its end, and how a turn of it is put together.
use Rattle.std.specs.Prelude.{ℕ, Bool, true, false, ◌==◌, List, [], ◌∷◌, ◌++◌, Option, Some, None}
use Rattle.std.specs.List.{find, position_or_len, remove}
use Rattle.std.specs.Option.{option_map}
use Rattle.gem_states.specs.Comms.{CommsView}
use Rattle.gem_states.specs.Control.{ControlView}
use Rattle.gem_states.specs.declared.comms.CommsState.{CommsState}
use Rattle.gem_states.specs.declared.comms.CommsState.TheVariants.{Communicating, Disabled}
use Rattle.gem_states.specs.declared.control.ControlState.{ControlState}
use Rattle.gem_states.specs.declared.control.ControlState.TheVariants.{Local, Remote}
use Rattle.gem_trace.specs.Traces.{Running}
use Rattle.message_flow.specs.declared.message.Message.{Message}
use Rattle.secs_items.specs.declared.item.Item.{Item}
use Rattle.setup_store.specs.Entries.{Entry}
use Rattle.message_end.specs.Core.{Command}
use Rattle.message_end.specs.Duties.{Duty}
use Rattle.message_end.specs.Parts.{Part, Turn}
use Rattle.tool_step.specs.Grants.{GrantView}
use Rattle.tool_step.specs.Live.{ReportView}
use Rattle.spool_ledger.specs.Ledger.{LedgerView}
use Rattle.trace_log.specs.Names.{Spooled}
use Rattle.tool_step.specs.declared.kind.Kind.{Kind}
use Rattle.tool_step.specs.declared.owed.Owed.{Owed}
use Rattle.equipment_tables.specs.declared.plan.EquipmentPlan.{EquipmentPlan}
use Rattle.equipment_tables.specs.Tables.{TablesState}

-- the traces that run; the S6F1 that are due in this step and haven't had their turn yet; and those that wait for S6F6,
-- in the order in which they were made
pub record TracingView : Type 0 where
  pub running : List Running
  pub made : List Item
  pub for_grant : List GrantView

-- the plan; the tables; the setup that is kept, the oldest first, None where the file has no room for any; the two
-- state models; the S6F11 that wait for S6F6, in the order in which they were made; the reports that were sent and
-- aren't answered yet; what becomes of the spool; the system bytes with which a message of it was tried last, in this
-- start; what this step asks of an object outside; whether a host is offered recipes; the traces; the DATAID of the next
-- event; and whether its first step is over
pub record OwnView : Type 0 where
  pub plan : EquipmentPlan
  pub tables : TablesState
  pub setup : Option (List Entry)
  pub comms : CommsView
  pub control : ControlView
  pub for_grant : List GrantView
  pub reports : List ReportView
  pub ledger : LedgerView
  pub tried : Option ℕ
  pub owed : Option Owed
  pub offers : Bool
  pub tracing : TracingView
  pub events : ℕ
  pub has_begun : Bool

abbrev pub ToolPart : Type 0
ToolPart = Part OwnView Kind

abbrev pub ToolTurn : Type 0
ToolTurn = Turn OwnView Kind

abbrev pub ToolDuty : Type 0
ToolDuty = Duty Kind

abbrev pub ToolCommands : Type 0
ToolCommands = List (Command Kind)

-- ---- its states

abbrev pub is_enabled_in : CommsState → Bool
is_enabled_in Disabled = false
is_enabled_in _ = true

abbrev pub is_communicating_in : CommsState → Bool
is_communicating_in Communicating = true
is_communicating_in _ = false

abbrev pub is_communicating : OwnView → Bool
is_communicating own = is_communicating_in own.comms.state

-- LOCAL or REMOTE (SEMI E30, ON-LINE)
abbrev pub is_online_in : ControlState → Bool
is_online_in Local = true
is_online_in Remote = true
is_online_in _ = false

abbrev pub is_local_in : ControlState → Bool
is_local_in Local = true
is_local_in _ = false

abbrev pub is_online : OwnView → Bool
is_online own = is_online_in own.control.state

abbrev pub is_local : OwnView → Bool
is_local own = is_local_in own.control.state

-- ---- its parts

abbrev pub with_tables : TablesState → OwnView → OwnView
with_tables tables own = record own { tables = tables }

abbrev pub with_setup : List Entry → OwnView → OwnView
with_setup list own = record own { setup = Some list }

-- this is asked of an object outside; and nothing is
abbrev pub owing : Owed → OwnView → OwnView
owing what own = record own { owed = Some what }

abbrev pub unowed : OwnView → OwnView
unowed own = record own { owed = None }

-- a primary without its text, which still tells who is to be answered
abbrev pub untold : Message → Message
untold primary = record primary { body = [] }

abbrev pub with_comms : CommsView → OwnView → OwnView
with_comms comms own = record own { comms = comms }

abbrev pub with_control : ControlView → OwnView → OwnView
with_control control own = record own { control = control }

abbrev pub with_for_grant : List GrantView → OwnView → OwnView
with_for_grant for_grant own = record own { for_grant = for_grant }

abbrev pub with_reports : List ReportView → OwnView → OwnView
with_reports reports own = record own { reports = reports }

abbrev pub with_ledger : LedgerView → OwnView → OwnView
with_ledger ledger own = record own { ledger = ledger }

abbrev pub with_tried : ℕ → OwnView → OwnView
with_tried system own = record own { tried = Some system }

abbrev pub with_tracing : TracingView → OwnView → OwnView
with_tracing tracing own = record own { tracing = tracing }

-- the one whose S6F5 has these system bytes
abbrev pub is_granted_by : ℕ → GrantView → Bool
is_granted_by system waiting = waiting.system == system

-- the first one waits for its S6F6 no more
abbrev pub without_grant : ℕ → OwnView → OwnView
without_grant system own =
    with_for_grant (remove own.for_grant (position_or_len (is_granted_by system) own.for_grant)) own

-- so for an S6F1
abbrev pub with_waiting_data : List GrantView → OwnView → OwnView
with_waiting_data for_grant own = with_tracing (record own.tracing { for_grant = for_grant }) own

abbrev pub without_waiting_data : ℕ → OwnView → OwnView
without_waiting_data system own =
    with_waiting_data (remove own.tracing.for_grant (position_or_len (is_granted_by system) own.tracing.for_grant)) own

-- the text of the one that waits so
abbrev pub waiting_data : ℕ → OwnView → Option (List ℕ)
waiting_data system own =
    option_map (λ waiting. waiting.body) (find (is_granted_by system) own.tracing.for_grant)

-- a report was sent; and its transaction has ended
abbrev pub with_report : ℕ → Spooled → OwnView → OwnView
with_report system message own =
    with_reports (own.reports ++ record { system = system; message = message } ∷ []) own

abbrev pub is_report_of : ℕ → ReportView → Bool
is_report_of system live = live.system == system

abbrev pub without_report : ℕ → OwnView → OwnView
without_report system own =
    with_reports (remove own.reports (position_or_len (is_report_of system) own.reports)) own

-- the report of an open transaction: one that was sent, and an S6F11 that waits for a grant (SEMI E5, S6F5)
abbrev pub event_report : List ℕ → Spooled
event_report body = record { stream = 6; function = 11; body = body }

abbrev pub sent_report : ℕ → OwnView → Option Spooled
sent_report system own = option_map (λ live. live.message) (find (is_report_of system) own.reports)

abbrev pub waiting_report : ℕ → OwnView → Option Spooled
waiting_report system own =
    option_map (λ waiting. event_report waiting.body) (find (is_granted_by system) own.for_grant)

-- ---- turns

abbrev pub turn_of : OwnView → List ToolDuty → ToolTurn
turn_of own duties = record { own = own; duties = duties }

-- nothing is done
abbrev pub quiet_turn : OwnView → ToolTurn
quiet_turn own = turn_of own []

-- this is done first
abbrev pub turn_behind : ToolCommands → ToolTurn → ToolTurn
turn_behind commands turn = record turn { duties = (λ e. commands) ∷ turn.duties }

-- these duties are done last
abbrev pub turn_before : List ToolDuty → ToolTurn → ToolTurn
turn_before duties turn = record turn { duties = turn.duties ++ duties }
