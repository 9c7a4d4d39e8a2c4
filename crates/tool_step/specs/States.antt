-- The two state models in a step: what they meet, and what is noted and sent then.
use Rattle.std.specs.Prelude.{ℕ, Bool, true, false, ◌&&◌, [], ◌∷◌, ◌++◌, Option, Some, None, if◌then◌else◌}
use Rattle.std.specs.List.{filter_map, list_any}
use Rattle.block_codec.specs.declared.header.Header.{Header}
use Rattle.gem_states.specs.declared.comms.CommsIn.{CommsIn}
use Rattle.gem_states.specs.declared.comms.CommsOut.{CommsOut}
use Rattle.gem_states.specs.declared.comms.CommsOut.TheVariants as comms_out
use Rattle.gem_states.specs.declared.comms.CommsState.{CommsState}
use Rattle.gem_states.specs.declared.comms.CommsState.TheVariants as comms
use Rattle.gem_states.specs.declared.control.ControlIn.{ControlIn}
use Rattle.gem_states.specs.declared.control.ControlIn.TheVariants.{AttemptFailed}
use Rattle.gem_states.specs.declared.control.ControlState.{ControlState}
use Rattle.gem_states.specs.declared.control.ControlState.TheVariants as control
use Rattle.gem_states.specs.Comms.{CommsOutcome, comms_step}
use Rattle.gem_states.specs.Control.{ControlView, control_next}
use Rattle.trace_log.specs.declared.names.CommsName.{CommsName}
use Rattle.trace_log.specs.declared.names.CommsName.TheVariants as comms_name
use Rattle.trace_log.specs.declared.names.ControlName.{ControlName}
use Rattle.trace_log.specs.declared.names.ControlName.TheVariants as control_name
use Rattle.trace_log.specs.declared.names.Name.{Name}
use Rattle.trace_log.specs.Log.{Happening}
use Rattle.trace_log.specs.Names.{Spooled}
use Rattle.transact.specs.declared.begun.Begun.{Begun}
use Rattle.transact.specs.Transactions.{system_of}
use Rattle.message_end.specs.Core.{EndView}
use Rattle.message_end.specs.Core.Command.{Note}
use Rattle.message_end.specs.Endings.{ends_open, notes_failed}
use Rattle.message_end.specs.Parts.{fixed_turn}
use Rattle.tool_step.specs.declared.kind.Kind.{Kind}
use Rattle.tool_step.specs.declared.kind.Kind.TheVariants as kind
use Rattle.tool_step.specs.Own.{OwnView, ToolCommands, ToolTurn, quiet_turn, sent_report, turn_of, waiting_report, with_comms, with_control, with_ledger}
use Rattle.tool_step.specs.Sampling.{notes_data_unsent}
use Rattle.tool_step.specs.Sent.{establish_commands}
use Rattle.tool_step.specs.Spooling.{Stores, is_spooled, lines_commands, stores_all, stores_commands}
use Rattle.spool_ledger.specs.Activity.{activated}
use Rattle.spool_ledger.specs.Ledger.{Booked}
use Rattle.spool_ledger.specs.Unloading.{with_unload}
use Rattle.equipment_tables.specs.Tables.{delay_of, may_spool, overwrites}

-- ---- communication

abbrev pub comms_named : CommsState → CommsName
comms_named comms.Disabled = comms_name.Disabled
comms_named comms.WaitCra = comms_name.WaitCra
comms_named comms.WaitDelay = comms_name.WaitDelay
comms_named comms.Communicating = comms_name.Communicating

abbrev pub is_same_comms : CommsState → CommsState → Bool
is_same_comms comms.Disabled comms.Disabled = true
is_same_comms comms.WaitCra comms.WaitCra = true
is_same_comms comms.WaitDelay comms.WaitDelay = true
is_same_comms comms.Communicating comms.Communicating = true
is_same_comms _ _ = false

-- a change of the state is noted
abbrev pub comms_lines : CommsState → CommsState → ToolCommands
comms_lines old new = if is_same_comms old new then [] else Note (Happening.Comms (comms_named new)) ∷ []

-- what the communication comes to at a moment
abbrev pub comms_outcome : CommsIn → ℕ → OwnView → CommsOutcome
comms_outcome input now own =
    comms_step own.comms (record { input = input; delay = delay_of own.tables; now = now })

-- S1F13, where it is to be sent
abbrev pub request_commands : CommsOut → OwnView → ToolCommands
request_commands comms_out.SendRequest own = establish_commands own
request_commands _ own = []

-- the change is noted, and S1F13 sent behind it where the model says so
abbrev pub comms_commands : CommsOutcome → OwnView → ToolCommands
comms_commands outcome own =
    comms_lines own.comms.state outcome.next.state ++ request_commands outcome.output own

abbrev pub comms_turn : CommsIn → ℕ → OwnView → ToolTurn
comms_turn input now own =
    let outcome = comms_outcome input now own in
    fixed_turn (with_comms outcome.next own) (comms_commands outcome own)

-- ---- control

abbrev pub control_named : ControlState → ControlName
control_named control.EquipmentOffline = control_name.EquipmentOffLine
control_named control.Attempt = control_name.AttemptOnLine
control_named control.HostOffline = control_name.HostOffLine
control_named control.Local = control_name.Local
control_named control.Remote = control_name.Remote

abbrev pub is_same_control : ControlState → ControlState → Bool
is_same_control control.EquipmentOffline control.EquipmentOffline = true
is_same_control control.Attempt control.Attempt = true
is_same_control control.HostOffline control.HostOffline = true
is_same_control control.Local control.Local = true
is_same_control control.Remote control.Remote = true
is_same_control _ _ = false

abbrev pub control_lines : ControlState → ControlState → ToolCommands
control_lines old new = if is_same_control old new then [] else Note (Happening.Control (control_named new)) ∷ []

-- the change alone, which is noted
abbrev pub control_commands : ControlIn → ControlView → ToolCommands
control_commands input control = control_lines control.state (control_next control input).state

abbrev pub control_turn : ControlIn → OwnView → ToolTurn
control_turn input own =
    fixed_turn (with_control (control_next own.control input) own) (control_commands input own.control)

-- ---- all open messages end

abbrev pub event_name : Name
event_name = record { stream = 6; function = 11; wait = true }

-- where the communication is lost, and where it can't be established, spooling begins (SEMI E30, spooling)
abbrev pub begins_spooling : CommsState → CommsState → Bool
begins_spooling comms.Communicating comms.WaitCra = true
begins_spooling comms.WaitCra comms.WaitDelay = true
begins_spooling _ _ = false

-- the report of an open transaction is put then, where the spool is active and the rule covers it, also one that waits
-- for a grant; not a message that the spool has already (this profile)
abbrev pub stored_one : OwnView → Option Spooled → Option Spooled
stored_one own None = None
stored_one own (Some message) = if is_spooled message own then Some message else None

abbrev pub stored_by : OwnView → Kind → ℕ → Option Spooled
stored_by own kind.Report system = stored_one own (sent_report system own)
stored_by own kind.Grant system = stored_one own (waiting_report system own)
stored_by own kind.Unload system = None
stored_by own kind.UnloadGrant system = None
stored_by own kind.Establish system = None
stored_by own kind.Attempt system = None
stored_by own kind.Trace system = None
stored_by own kind.TraceGrant system = None

abbrev pub stored_of : Bool → OwnView → Begun Kind → Option Spooled
stored_of spools own begun = if spools then stored_by own begun.kind (system_of begun) else None

-- what ends otherwise is noted: a message, and an S6F11 or an S6F1 that waits for a grant behind its S6F5
abbrev pub unless_stored : Option Spooled → ToolCommands → ToolCommands
unless_stored None commands = commands
unless_stored (Some message) commands = []

abbrev pub notes_unsent : ToolCommands
notes_unsent = Note (Happening.Dropped event_name) ∷ []

-- with its transaction an attempt to be on-line has failed (this profile)
abbrev pub ending_commands : ControlView → Option Spooled → Kind → Header → ToolCommands
ending_commands control stored kind.Establish header = notes_failed header
ending_commands control stored kind.Attempt header = notes_failed header ++ control_commands AttemptFailed control
ending_commands control stored kind.Report header = unless_stored stored (notes_failed header)
ending_commands control stored kind.Grant header = notes_failed header ++ unless_stored stored notes_unsent
ending_commands control stored kind.Unload header = notes_failed header
ending_commands control stored kind.UnloadGrant header = notes_failed header ++ notes_unsent
ending_commands control stored kind.Trace header = notes_failed header
ending_commands control stored kind.TraceGrant header = notes_failed header ++ notes_data_unsent

abbrev pub ends_report : Bool → OwnView → Begun Kind → ToolCommands
ends_report spools own begun = ending_commands own.control (stored_of spools own begun) begun.kind begun.header

abbrev pub is_attempt_kind : Kind → Bool
is_attempt_kind kind.Attempt = true
is_attempt_kind _ = false

abbrev pub is_attempt : Begun Kind → Bool
is_attempt begun = is_attempt_kind begun.kind

abbrev pub control_after_loss : ControlView → EndView Kind → ControlView
control_after_loss control e =
    if list_any is_attempt e.transactions.begun then control_next control AttemptFailed else control

abbrev pub without_open : OwnView → EndView Kind → OwnView
without_open own e = record own {
  control = control_after_loss own.control e;
  for_grant = [];
  reports = [];
  tracing = record own.tracing { for_grant = [] };
}

-- the change is noted, the spool's, what is put; and S1F13 goes behind it where the model says so
abbrev pub left_commands : CommsOutcome → Booked → Stores → OwnView → ToolCommands
left_commands outcome activity stores own =
    comms_lines own.comms.state outcome.next.state ++ lines_commands activity.lines
    ++ stores_commands stores (request_commands outcome.output own)

-- the communication is left so: an unload ends, the spool may become active, the open messages end, and of the reports
-- among them those that the rule covers are put, in the order in which their transactions began
abbrev pub parted_turn : CommsOutcome → Bool → Booked → Option Header → OwnView → EndView Kind → ToolTurn
parted_turn outcome spools activity failed own e =
    let left = with_ledger activity.next (with_comms outcome.next own) in
    let stores =
    stores_all (overwrites own.tables) (filter_map (stored_of spools left) e.transactions.begun) activity.next in
    turn_of (with_ledger stores.next (without_open left e))
    (ends_open (ends_report spools left) e failed ++ (λ later. left_commands outcome activity stores own) ∷ [])

abbrev pub activity_of : CommsOutcome → OwnView → Booked
activity_of outcome own =
    activated (begins_spooling own.comms.state outcome.next.state && may_spool own.tables) (with_unload None own.ledger)

-- the communication meets an input that ends all open messages where it changes the state by it (SEMI E30,
-- communications state model)
abbrev pub left_turn : CommsOutcome → Option Header → OwnView → EndView Kind → ToolTurn
left_turn outcome failed own e =
    if is_same_comms own.comms.state outcome.next.state then quiet_turn own
    else parted_turn outcome (begins_spooling own.comms.state outcome.next.state) (activity_of outcome own) failed own e

abbrev pub end_of_talk : CommsIn → Option Header → ℕ → OwnView → EndView Kind → ToolTurn
end_of_talk input failed now own e = left_turn (comms_outcome input now own) failed own e
