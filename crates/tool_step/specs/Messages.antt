-- How the equipment treats a whole message of the host.
use Rattle.std.specs.Prelude.{ℕ, Bool, true, false, not, ◌==◌, ◌&&◌, List, [], ◌∷◌, ◌++◌, flat_map, map, Option, Some, None, if◌then◌else◌}
use Rattle.block_codec.specs.declared.header.Header.{Header}
use Rattle.gem_shapes.specs.declared.request.Request.{Request}
use Rattle.gem_shapes.specs.declared.request.Request.TheVariants as request
use Rattle.gem_shapes.specs.declared.request.TablesRequest.{TablesRequest}
use Rattle.gem_shapes.specs.Answers.{code_item}
use Rattle.gem_shapes.specs.Primaries.{is_known}
use Rattle.gem_states.specs.declared.comms.CommsIn.TheVariants.{HostRequest, OtherMessage}
use Rattle.gem_states.specs.declared.control.ControlIn.{ControlIn}
use Rattle.gem_states.specs.declared.control.ControlIn.TheVariants.{RequestOffline, RequestOnline}
use Rattle.gem_states.specs.declared.control.ControlOut.{ControlOut}
use Rattle.gem_states.specs.declared.control.ControlOut.TheVariants.{Abort, Ack}
use Rattle.gem_states.specs.Control.{control_step}
use Rattle.message_flow.specs.declared.message.Message.{Message}
use Rattle.message_flow.specs.Message.{is_primary}
use Rattle.setup_store.specs.Entries.{Entry, bytes_of, has_room}
use Rattle.trace_log.specs.Log.{Happening, Past}
use Rattle.trace_log.specs.Names.{message_name}
use Rattle.transact.specs.declared.begun.Begun.{Begun}
use Rattle.transact.specs.Transactions.{system_of}
use Rattle.message_end.specs.Core.{EndView}
use Rattle.message_end.specs.Core.Command.{End, Note, Remove}
use Rattle.message_end.specs.Parts.{fixed_turn, led_turn}
use Rattle.tool_step.specs.declared.kind.Kind.{Kind}
use Rattle.tool_step.specs.declared.kind.Kind.TheVariants as kind
use Rattle.equipment_tables.specs.Answers.{answer_of, established_of, lines_of}
use Rattle.tool_step.specs.declared.owed.Owed.TheVariants.{Keep}
use Rattle.tool_step.specs.Own.{OwnView, ToolCommands, ToolDuty, ToolTurn, is_communicating, is_enabled_in, is_local, is_online, owing, turn_of, untold, with_control, with_setup, with_tables}
use Rattle.tool_step.specs.Recipes.{asked_of, recipes_turn, takes_stream}
use Rattle.tool_step.specs.Replies.{secondary_turn}
use Rattle.equipment_tables.specs.Requests.{request_of}
use Rattle.tool_step.specs.Sampling.{trace_turn}
use Rattle.tool_step.specs.Sent.{abort_duty, answer_duties, error_duty, text_of}
use Rattle.tool_step.specs.Setup.{has_space_code, next_setup, no_space}
use Rattle.tool_step.specs.Spooling.{purge_turn, transmit_turn}
use Rattle.tool_step.specs.States.{comms_turn, control_commands}
use Rattle.equipment_tables.specs.Tables.{asked_after, tables_after}

-- ---- S1F13

-- the equipment's own S1F13, sent and not answered yet, ends without a note (this profile)
abbrev pub own_s1f13_commands : Kind → ℕ → ToolCommands
own_s1f13_commands kind.Establish system = End system ∷ Remove true system ∷ []
own_s1f13_commands _ system = []

abbrev pub own_s1f13_of : Begun Kind → ToolCommands
own_s1f13_of begun = own_s1f13_commands begun.kind (system_of begun)

-- each that is open, in the order in which they began (SEMI E30, communications state model)
abbrev pub own_s1f13_duty : ToolDuty
own_s1f13_duty e = flat_map own_s1f13_of e.transactions.begun

abbrev pub established_duties : Message → OwnView → List ToolDuty
established_duties message own =
    answer_duties (text_of own (established_of own.tables)) message

abbrev pub established_turn : ℕ → Message → OwnView → ToolTurn
established_turn now message own =
    let turn = comms_turn HostRequest now own in
    turn_of turn.own (own_s1f13_duty ∷ turn.duties ++ established_duties message own)

-- ---- requests that aren't carried out

abbrev pub dropped_turn : Message → OwnView → ToolTurn
dropped_turn message own = fixed_turn own (Note (Happening.Dropped (message_name message)) ∷ [])

-- where the communication isn't established a message is dropped, and ends WAIT DELAY (SEMI E30, communications state
-- model)
abbrev pub stray_turn : ℕ → Message → OwnView → ToolTurn
stray_turn now message own =
    led_turn (Note (Happening.Dropped (message_name message))) (comms_turn OtherMessage now own)

-- off-line a request is aborted (SEMI E30, OFF-LINE)
abbrev pub offline_turn : Message → OwnView → ToolTurn
offline_turn message own =
    if message.wait then turn_of own (abort_duty message ∷ []) else dropped_turn message own

abbrev pub error_turn : ℕ → Header → OwnView → ToolTurn
error_turn function header own = turn_of own (error_duty function header own ∷ [])

-- ---- requests that are carried out

abbrev pub control_answer_duties : ControlOut → Message → OwnView → List ToolDuty
control_answer_duties (Ack code) message own = answer_duties (text_of own (code_item code)) message
control_answer_duties Abort message own = abort_duty message ∷ []
control_answer_duties _ message own = []

-- S1F15 and S1F17 (SEMI E5, OFLACK, ONLACK)
abbrev pub control_request_turn : ControlIn → Message → OwnView → ToolTurn
control_request_turn input message own =
    let outcome = control_step own.control input in
    turn_of (with_control outcome.next own)
    ((λ e. control_commands input own.control) ∷ control_answer_duties outcome.output message own)

-- the lines of the action come before the answer (this profile)
abbrev pub answer_turn : TablesRequest → Message → OwnView → ToolTurn
answer_turn request message own =
    turn_of (with_tables (tables_after request own.tables) own)
    ((λ e. map Note (lines_of own.tables (is_local own) request))
    ∷ answer_duties (answer_of own.tables (is_local own) own.plan.line.max_body request) message)

-- S1F13 doesn't come here: before any request is read it establishes the communication
abbrev pub request_turn : Request → ℕ → Message → OwnView → ToolTurn
request_turn (request.OfTables asked) now message own = answer_turn asked message own
request_turn (request.OfRecipes asked) now message own = recipes_turn (asked_of asked) message own
request_turn request.Establish now message own = turn_of own (abort_duty message ∷ [])
request_turn request.GoOffline now message own = control_request_turn RequestOffline message own
request_turn request.GoOnline now message own = control_request_turn RequestOnline message own
request_turn request.TransmitSpool now message own = transmit_turn message own
request_turn request.PurgeSpool now message own = purge_turn message own
request_turn (request.Trace trid dsper total group svids) now message own =
    trace_turn (record { trid = trid; dsper = dsper; total = total; group = group; svids = svids }) now message own

-- ---- changes of the setup that are kept

-- the action, and that the primary is kept with this list behind it. That is done behind the other works of the step,
-- and the answer waits for it (this profile)
abbrev pub keep_turn : List Entry → Request → Message → OwnView → ToolTurn
keep_turn list request message own =
    fixed_turn
    (owing (Keep (untold message)) (with_setup list (with_tables (asked_after (Some request) own.tables) own)))
    (Note (Happening.Keeping message) ∷ Note (Happening.Kept message) ∷ [])

-- one for which there is no room is refused: S2F33 and S2F35 by their code for that, and any other by function 0
abbrev pub unkept_duties : Bool → Message → OwnView → List ToolDuty
unkept_duties true message own = answer_duties (text_of own (code_item no_space)) message
unkept_duties false message own = abort_duty message ∷ []

abbrev pub unkept_turn : Message → OwnView → ToolTurn
unkept_turn message own = turn_of own (unkept_duties (has_space_code message) message own)

-- a request that has come as far as its action counts when the equipment looks back (this profile)
abbrev pub recorded_turn : Message → ToolTurn → ToolTurn
recorded_turn message turn = led_turn (Note (Happening.Recorded (Past.Asked message))) turn

-- so one that is refused for want of room doesn't count (this profile)
abbrev pub kept_turn : Bool → List Entry → Request → Message → OwnView → ToolTurn
kept_turn true list request message own = recorded_turn message (keep_turn list request message own)
kept_turn false list request message own = unkept_turn message own

-- by the list that is to be kept behind it, if one is
abbrev pub heard_turn : Option (List Entry) → ℕ → Request → Message → OwnView → ToolTurn
heard_turn None now request message own = recorded_turn message (request_turn request now message own)
heard_turn (Some list) now request message own = kept_turn (has_room (bytes_of list)) list request message own

abbrev pub requested_turn : ℕ → Request → Message → OwnView → ToolTurn
requested_turn now request message own = heard_turn (next_setup request message own) now request message own

abbrev pub read_turn : ℕ → Option Request → Header → Message → OwnView → ToolTurn
read_turn now None header message own = error_turn 7 header own
read_turn now (Some request) header message own = requested_turn now request message own

-- ---- the steps in their order

-- S1F17 alone is looked at off-line (SEMI E30, OFF-LINE)
abbrev pub is_online_request : Message → Bool
is_online_request message = (message.stream == 1) && (message.function == 17)

abbrev pub is_establish_request : Message → Bool
is_establish_request message = (message.stream == 1) && (message.function == 13)

-- a stream and a function that aren't known get S9F3 and S9F5, a text of another shape S9F7 (SEMI E5, stream 9)
abbrev pub known_turn : ℕ → Header → Message → OwnView → ToolTurn
known_turn now header message own =
    if not (takes_stream own message.stream) then error_turn 3 header own
    else if not (is_known message.stream message.function) then error_turn 5 header own
    else read_turn now (request_of message.stream message.function message.body) header message own

abbrev pub primary_turn : ℕ → Header → Message → OwnView → ToolTurn
primary_turn now header message own =
    if is_establish_request message then established_turn now message own
    else if not (is_communicating own) then stray_turn now message own
    else if not (is_online own) && not (is_online_request message) then offline_turn message own
    else known_turn now header message own

-- a whole message, the last block of which has this header. DISABLED it is dropped, whatever it is (SEMI E30, DISABLED)
abbrev pub message_turn : ℕ → Header → Message → OwnView → EndView Kind → ToolTurn
message_turn now header message own e =
    if not (is_enabled_in own.comms.state) then dropped_turn message own
    else if is_primary message then primary_turn now header message own
    else secondary_turn now header message own e
