-- That turns on replies, messages, characters and commands of the tool draw few.
use Rattle.std.proofs.Common.{refl, arith, ◌+◌, ◌==◌, ◌&&◌, ◌||◌, not, Bool, true, false, ℕ, List, [], ◌∷◌, ◌++◌, length, Option, Some, None, if◌then◌else◌}
use Rattle.std.specs.Option.{option_map}
use Rattle.block_codec.specs.declared.header.Header.{Header}
use Rattle.gem_alarms.specs.Alarms.{step_of}
use Rattle.gem_alarms.specs.declared.alarms.AlarmStep.{AlarmStep}
use Rattle.gem_alarms.specs.declared.alarms.AlarmStep.TheVariants as alarm_step
use Rattle.gem_reports.specs.Reporting.{is_enabled_in as is_enabled_event, is_planned}
use Rattle.gem_shapes.specs.Answers.{code_item}
use Rattle.gem_shapes.specs.Primaries.{is_known}
use Rattle.gem_shapes.specs.declared.request.Request.{Request}
use Rattle.gem_shapes.specs.declared.request.Request.TheVariants as request
use Rattle.gem_shapes.specs.declared.request.TablesRequest.{TablesRequest}
use Rattle.gem_states.specs.Comms.{CommsView, comms_row}
use Rattle.gem_states.specs.Control.{control_next, control_step}
use Rattle.gem_states.specs.declared.comms.CommsIn.TheVariants as comms_in
use Rattle.gem_states.specs.declared.comms.CommsState.{CommsState}
use Rattle.gem_states.specs.declared.comms.CommsState.TheVariants as comms
use Rattle.gem_states.specs.declared.control.ControlIn.{ControlIn}
use Rattle.gem_states.specs.declared.control.ControlIn.TheVariants as control_in
use Rattle.gem_states.specs.declared.control.ControlOut.{ControlOut}
use Rattle.gem_states.specs.declared.control.ControlOut.TheVariants as control_out
use Rattle.gem_trace.specs.declared.request.TraceRequest.{TraceRequest}
use Rattle.gem_vars.specs.Settings as settings
use Rattle.gem_vars.specs.declared.settings.Setting.{Setting}
use Rattle.message_flow.specs.declared.flow.Flow.{Flow}
use Rattle.message_flow.specs.declared.flow.Flow.TheVariants as flow
use Rattle.message_flow.specs.declared.message.Message.{Message}
use Rattle.message_flow.specs.Message.{is_primary}
use Rattle.secs_items.specs.declared.item.Item.{Item}
use Rattle.trace_log.specs.declared.commands.ToolCommand.{ToolCommand}
use Rattle.trace_log.specs.declared.commands.ToolCommand.TheVariants as tool
use Rattle.trace_log.specs.Log.{Happening, Past}
use Rattle.trace_log.specs.Names.{Spooled, message_name}
use Rattle.transact.specs.declared.transactions.Match.{Match}
use Rattle.transact.specs.declared.transactions.Match.TheVariants.{Reply as Replied, Abort as Aborted, Stranger}
use Rattle.transact.specs.Numbers.{next_number}
use Rattle.transact.specs.Transactions.{match_of, primary_of as primary_with_kind}
use Rattle.message_end.specs.declared.end.Took.{Took}
use Rattle.message_end.specs.declared.end.Took.TheVariants as took
use Rattle.message_end.specs.Calls.{answered_by, dropped_now, due_now, failed_at, took_at}
use Rattle.message_end.specs.Core.{Command, EndView, is_crowded_out}
use Rattle.message_end.specs.Core.Command.{Answer, Draw, DropDue, Expire, GiveUp, Halt, Note, Primary, Remove, Take, Tick}
use Rattle.message_end.specs.Parts.{closes, core_after, fixed_turn, leads, led_turn}
use Rattle.equipment_tables.specs.declared.answers.Answer.{Answer as Text}
use Rattle.equipment_tables.specs.declared.answers.Answer.TheVariants as answer
use Rattle.equipment_tables.specs.Answers.{alarm_item_of, answer_of, established_of, event_item, lines_of}
use Rattle.equipment_tables.specs.Requests.{request_of}
use Rattle.equipment_tables.specs.Tables.{alarm_after, most_transmitted}
use Rattle.spool_ledger.specs.Activity.{rested, rsda_of}
use Rattle.spool_ledger.specs.Storing.{all_out}
use Rattle.spool_ledger.specs.Unloading.{after_next, confirmed, fresh, next_number as spool_next, taken_up, waiting_in, with_unload}
use Rattle.tool_step.specs.declared.kind.Kind.{Kind}
use Rattle.tool_step.specs.declared.kind.Kind.TheVariants as kind
use Rattle.tool_step.specs.Codes.{is_accepted_in, is_granted_in}
use Rattle.tool_step.specs.Messages.{answer_turn, control_answer_duties, control_request_turn, dropped_turn, error_turn, established_duties, established_turn, is_establish_request, heard_turn, is_online_request, keep_turn, kept_turn, known_turn, message_turn, offline_turn, own_s1f13_duty, primary_turn, read_turn, request_turn, stray_turn, unkept_duties, unkept_turn}
use Rattle.setup_store.specs.Entries.{Entry, bytes_of, has_room}
use Rattle.tool_step.specs.declared.owed.Owed.{Owed}
use Rattle.tool_step.specs.declared.owed.Owed.TheVariants.{Answered, Keep, Recipes as OfRecipes}
use Rattle.tool_step.specs.Setup.{accepted_item, has_space_code, next_setup, no_space}
use Rattle.tool_step.specs.Recipes.{asked_of, recipes_text, takes_stream}
use Rattle.tool_step.specs.Own.{OwnView, ToolDuty, event_report, is_communicating, is_enabled_in, is_local, is_online, quiet_turn, turn_before, turn_of, unowed, waiting_report, waiting_data, with_control, with_ledger, with_tables, with_tried, without_grant, without_waiting_data}
use Rattle.tool_law.specs.Putting.{alarm_puts, block_timer_puts, changed_puts, character_puts, command_puts, dropped_puts, enabled_puts, event_puts, flow_puts, given_up_puts, lacks_number, line_timer_puts, loss_puts, matched_puts, message_puts, puts_none, reply_puts, reply_timer_puts, timeout_puts, took_puts}
use Rattle.tool_step.specs.Replies.{block_timer, denied_turn, given_up_by_t4, given_up_turn, granted_turn, loss_turn, matched_turn, reply_timer, reply_turn, secondary_turn, timeout_turn}
use Rattle.tool_step.specs.Sampling.{granted_trace_turn, tiaack_code, tiaack_in, trace_turn, denied_data_turn}
use Rattle.tool_step.specs.Sent as sent
use Rattle.tool_step.specs.Spooling.{booked_turn, dataid_in, end_of_spooling, grant_given_turn, inquiry_turn, let_go_turn, lines_commands, needs_grant, purge_turn, rsda_duties, sent_turn, stopped_turn, taking_turn, transmit_turn, tried_turn, unload_part, unload_request, unloaded_own, unloading_turn, waiting_text}
use Rattle.tool_step.specs.States as states
use Rattle.tool_step.specs.Step.{answering, beginning, begun, character, flow_turn, is_spent, line_timer, long_turn, offer, owed_turn, took_turn}
use Rattle.tool_step.specs.Tool.{alarm_line, alarm_report_turn, alarm_turn, attempted_turn, command_turn, enabled_turn, known_event_turn, online_turn, set_turn, told_turn, with_event}
use Rattle.tool_law.proofs.CommandWalks.{Does, abort-are, answers-are, are-both, control-noted, own-requests-are}
use Rattle.tool_law.proofs.Drawing.{AreFree, AreFreeDuties, IsFree, Needs, Spends, free-need, free-spend, halt-spend, needs-as, needs-behind, needs-both, needs-more, needs-none, needs-one, or-false, primary-spend, draw-spend}
use Rattle.tool_law.proofs.DrawnSamples.{granted-trace-need}
use Rattle.tool_law.proofs.DrawnTurns.{one-needs, free-one, common-free, noted-free, booked-free, control-free, error-spends, errors-need, comms-need, primary-need, going-need, event-need, NeedsFor, note-need, judged-need, report-need, left-need, leaving-need, failed-need, recipes-need}

-- ---- a transaction ends without a reply

-- nothing is asked where the communication is denied
denied-asks : (state : CommsState) (view : CommsView) (delay now : ℕ) (own : OwnView)
    → Spends 0 false (states.request_commands (comms_row state comms_in.Denied view delay now).output own)
denied-asks comms.Disabled view delay now own = free-spend [] tt
denied-asks comms.WaitCra view delay now own = free-spend [] tt
denied-asks comms.WaitDelay view delay now own = free-spend [] tt
denied-asks comms.Communicating view delay now own = free-spend [] tt

denied-need : (own : OwnView) → Needs 0 false (denied_turn own).duties
denied-need own = free-need (denied_turn own).duties ((λ e. (tt, tt)), tt)

untraced-need : (own : OwnView) → Needs 0 false (denied_data_turn own).duties
untraced-need own = free-need (denied_data_turn own).duties ((λ e. (tt, tt)), tt)

loss-need : (now : ℕ) (lost : Kind) (system : ℕ) (own : OwnView) (e : EndView Kind)
    → NeedsFor 0 (loss_puts now lost own e) (loss_turn now lost system own e)
loss-need now kind.Establish system own e =
    left-need 0 (states.comms_outcome comms_in.Denied now own) None own e
    (denied-asks own.comms.state own.comms _ now own)
loss-need now kind.Attempt system own e =
    free-need (states.control_turn control_in.AttemptFailed own).duties (control-free control_in.AttemptFailed own)
loss-need now kind.Grant system own e = denied-need (without_grant system own)
loss-need now kind.Report system own e = needs-none 0
loss-need now kind.Unload system own e = needs-none 0
loss-need now kind.UnloadGrant system own e = denied-need (unloaded_own own)
loss-need now kind.Trace system own e = needs-none 0
loss-need now kind.TraceGrant system own e = untraced-need (without_waiting_data system own)

timeout-need : (now : ℕ) (primary : Option (Header × Kind)) (own : OwnView) (e : EndView Kind)
    → NeedsFor 1 (timeout_puts now primary own e) (timeout_turn now primary own e)
timeout-need now None own e = needs-none 1
timeout-need now (Some primary) own e =
    let turn = loss_turn now primary.1 primary.0.system own e in
    let halts = lacks_number (loss_puts now primary.1 own e) in
    needs-as (0 + 1) 1 (halts || false) halts _ (omega arith) (or-false halts)
    (needs-both 0 1 halts false turn.duties (sent.error_duty 9 primary.0 turn.own ∷ [])
    (loss-need now primary.1 primary.0.system own e) (errors-need 9 primary.0 turn.own))

-- behind a command that draws none
led-need : (most : ℕ) (h : Bool) (lead : Command Kind) (duties : List ToolDuty) → AreFree (lead ∷ [])
    → Needs most h duties → Needs most h ((λ e. lead ∷ []) ∷ duties)
led-need most h lead duties free is = needs-behind most h (λ e. lead ∷ []) duties (λ e. free) is

pub reply-timer-need : (now : ℕ) (own : OwnView) (e : EndView Kind)
    → NeedsFor 1 (reply_timer_puts now own e) (reply_timer now own e)
reply-timer-need now own e =
    led-need 1 _ (Expire now) _ (tt, tt) (timeout-need now (due_now e now) own (core_after (Expire now) e))

given-up-need : (now : ℕ) (header : Header) (own : OwnView) (e : EndView Kind)
    → NeedsFor 1 (given_up_puts now header own e) (given_up_turn now header own e)
given-up-need now header own e =
    led-need 1 _ (GiveUp header) _ (tt, tt)
    (timeout-need now (option_map primary_with_kind (answered_by e header)) own (core_after (GiveUp header) e))

dropped-need : (now : ℕ) (dropped : Option Header) (own : OwnView) (e : EndView Kind)
    → NeedsFor 1 (dropped_puts now dropped own e) (given_up_by_t4 now dropped own e)
dropped-need now None own e = needs-none 1
dropped-need now (Some header) own e = given-up-need now header own e

pub block-timer-need : (now : ℕ) (own : OwnView) (e : EndView Kind)
    → NeedsFor 1 (block_timer_puts now own e) (block_timer now own e)
block-timer-need now own e =
    led-need 1 _ (DropDue now) _ (tt, tt) (dropped-need now (dropped_now e now) own (core_after (DropDue now) e))

-- ---- a reply

granted-need : (waiting : Option Spooled) (own : OwnView) (e : EndView Kind)
    → Needs 1 false (granted_turn waiting own e).duties
granted-need None own e = needs-none 1
granted-need (Some message) own e = going-need message own e

let-go-need : (waiting : Option (List ℕ)) (own : OwnView) (e : EndView Kind)
    → Needs 1 false (let_go_turn waiting own e).duties
let-go-need None own e = needs-none 1
let-go-need (Some body) own e = free-one (let_go_turn (Some body) own e).duties ((λ f. (tt, tt)), tt)

reply-need : (now : ℕ) (asked : Kind) (system : ℕ) (body : List ℕ) (own : OwnView) (e : EndView Kind)
    → NeedsFor 1 (reply_puts now asked body own e) (reply_turn now asked system body own e)
reply-need now kind.Establish system body own e = go (is_accepted_in body)
  where
    go : (accepted : Bool)
        → NeedsFor 1 (if accepted then puts_none own else loss_puts now kind.Establish own e)
        (if accepted then states.comms_turn comms_in.Accepted now own else loss_turn now kind.Establish system own e)
    go true = comms-need comms_in.Accepted now own
    go false = one-needs _ _ (loss-need now kind.Establish system own e)
reply-need now kind.Attempt system body own e =
    free-one (states.control_turn control_in.AttemptDone own).duties (control-free control_in.AttemptDone own)
reply-need now kind.Grant system body own e = go (is_granted_in body)
  where
    go : (granted : Bool)
        → Needs 1 false
        (if granted then granted_turn (waiting_report system own) (without_grant system own) e
        else loss_turn now kind.Grant system own e).duties
    go true = granted-need (waiting_report system own) (without_grant system own) e
    go false = one-needs false _ (loss-need now kind.Grant system own e)
reply-need now kind.Report system body own e = needs-none 1
reply-need now kind.Unload system body own e =
    free-one (booked_turn (confirmed own.ledger) own).duties (booked-free (confirmed own.ledger) own)
reply-need now kind.UnloadGrant system body own e = go (is_granted_in body)
  where
    go : (granted : Bool)
        → Needs 1 false
        (if granted then grant_given_turn own e else loss_turn now kind.UnloadGrant system own e).duties
    go true = let-go-need (waiting_in own.ledger.unload) own e
    go false = one-needs false _ (loss-need now kind.UnloadGrant system own e)
reply-need now kind.Trace system body own e = needs-none 1
reply-need now kind.TraceGrant system body own e = go (is_granted_in body)
  where
    go : (granted : Bool)
        → Needs 1 false
        (if granted then granted_trace_turn (waiting_data system own) (without_waiting_data system own)
        else loss_turn now kind.TraceGrant system own e).duties
    go true = granted-trace-need (waiting_data system own) (without_waiting_data system own)
    go false = one-needs false _ (loss-need now kind.TraceGrant system own e)

matched-need : (now : ℕ) (match : Match Kind) (message : Message) (own : OwnView) (e : EndView Kind)
    → NeedsFor 1 (matched_puts now match message own e) (matched_turn now match message own e)
matched-need now (Replied asked) message own e = reply-need now asked message.system message.body own e
matched-need now (Aborted asked) message own e = one-needs _ _ (loss-need now asked message.system own e)
matched-need now Stranger message own e = needs-none 1

-- ---- messages

established-need : (now : ℕ) (message : Message) (own : OwnView)
    → Needs 1 false (established_turn now message own).duties
established-need now message own =
    let turn = states.comms_turn comms_in.HostRequest now own in
    let answers = established_duties message own in
    needs-behind 1 false own_s1f13_duty (turn.duties ++ answers)
    (λ e. own-requests-are common-free e.transactions.begun)
    (needs-as (1 + 0) 1 false false (turn.duties ++ answers) (omega arith) refl
    (needs-both 1 0 false false turn.duties answers (comms-need comms_in.HostRequest now own)
    (free-need answers
    (answers-are common-free (sent.text_of own (established_of own.tables)) message (λ body. tt)))))

offline-need : (message : Message) (own : OwnView) → Needs 1 false (offline_turn message own).duties
offline-need message own = go message.wait
  where
    go : (wait : Bool)
        → Needs 1 false
        (if wait then turn_of own (sent.abort_duty message ∷ []) else dropped_turn message own).duties
    go true = free-one (sent.abort_duty message ∷ []) (abort-are common-free message)
    go false = note-need own (Happening.Dropped (message_name message))

control-request-need : (input : ControlIn) (message : Message) (own : OwnView)
    → Needs 1 false (control_request_turn input message own).duties
control-request-need input message own =
    free-one (control_request_turn input message own).duties (
      (λ e. control-noted common-free own.control.state (control_next own.control input).state),
      go (control_step own.control input).output,
    )
  where
    go : (out : ControlOut) → AreFreeDuties (control_answer_duties out message own)
    go (control_out.Ack code) = answers-are common-free (sent.text_of own (code_item code)) message (λ body. tt)
    go control_out.Abort = abort-are common-free message
    go control_out.Nothing = tt
    go control_out.SendAttempt = tt

rsda-free : (message : Message) (own : OwnView) → AreFreeDuties (rsda_duties message own)
rsda-free message own =
    answers-are common-free (sent.text_of own (code_item (rsda_of own.ledger))) message (λ body. tt)

transmit-need : (message : Message) (own : OwnView) → Needs 1 false (transmit_turn message own).duties
transmit-need message own = go (rsda_of own.ledger == 0)
  where
    go : (may : Bool)
        → Needs 1 false
        (if may then turn_of (with_ledger (with_unload (Some fresh) own.ledger) own) (rsda_duties message own)
        else turn_of own (rsda_duties message own)).duties
    go true = free-one (rsda_duties message own) (rsda-free message own)
    go false = free-one (rsda_duties message own) (rsda-free message own)

purge-need : (message : Message) (own : OwnView) → Needs 1 false (purge_turn message own).duties
purge-need message own = go (rsda_of own.ledger == 0)
  where
    go : (may : Bool)
        → Needs 1 false
        (if may then turn_before (rsda_duties message own) (booked_turn (all_out own.ledger) own)
        else turn_of own (rsda_duties message own)).duties
    go true =
        free-one ((booked_turn (all_out own.ledger) own).duties ++ rsda_duties message own)
        (are-both (Does IsFree) (booked_turn (all_out own.ledger) own).duties (rsda_duties message own)
        (booked-free (all_out own.ledger) own) (rsda-free message own))
    go false = free-one (rsda_duties message own) (rsda-free message own)

answer-need : (asks : TablesRequest) (message : Message) (own : OwnView)
    → Needs 1 false (answer_turn asks message own).duties
answer-need asks message own =
    free-one (answer_turn asks message own).duties (
      (λ e. noted-free (lines_of own.tables (is_local own) asks)),
      answers-are common-free (answer_of own.tables (is_local own) own.plan.line.max_body asks) message
          (λ body. tt),
    )

trace-request-need : (asked : TraceRequest) (now : ℕ) (message : Message) (own : OwnView)
    → Needs 1 false (trace_turn asked now message own).duties
trace-request-need asked now message own =
    free-one (trace_turn asked now message own).duties
    (answers-are common-free (sent.text_of own (code_item (tiaack_code (tiaack_in asked own)))) message (λ body. tt))

request-need : (asks : Request) (now : ℕ) (message : Message) (own : OwnView)
    → Needs 1 false (request_turn asks now message own).duties
request-need (request.OfTables asked) now message own = answer-need asked message own
request-need (request.OfRecipes asked) now message own = recipes-need (asked_of asked) message own
request-need request.GoOffline now message own = control-request-need control_in.RequestOffline message own
request-need request.GoOnline now message own = control-request-need control_in.RequestOnline message own
request-need request.TransmitSpool now message own = transmit-need message own
request-need request.PurgeSpool now message own = purge-need message own
request-need request.Establish now message own = free-one (sent.abort_duty message ∷ []) (abort-are common-free message)
request-need (request.Trace trid dsper total group svids) now message own =
    trace-request-need (record { trid = trid; dsper = dsper; total = total; group = group; svids = svids }) now message
    own

read-need : (now : ℕ) (asks : Option Request) (header : Header) (message : Message) (own : OwnView)
    → Needs 1 false (read_turn now asks header message own).duties
read-need now None header message own = errors-need 7 header own
read-need now (Some asks) header message own = heard (next_setup asks message own)
  where
    unkept : (coded : Bool) → AreFreeDuties (unkept_duties coded message own)
    unkept true = answers-are common-free (sent.text_of own (code_item no_space)) message (λ body. tt)
    unkept false = abort-are common-free message

    by_room : (list : List Entry) (room : Bool) → Needs 1 false (kept_turn room list asks message own).duties
    by_room list true =
        led-need 1 false _ _ (tt, tt)
        (free-one (keep_turn list asks message own).duties ((λ e. (tt, (tt, tt))), tt))
    by_room list false = free-one (unkept_turn message own).duties (unkept (has_space_code message))

    heard : (list : Option (List Entry)) → Needs 1 false (heard_turn list now asks message own).duties
    heard None = led-need 1 false _ _ (tt, tt) (request-need asks now message own)
    heard (Some list) = by_room list (has_room (bytes_of list))

-- what waits for the works is answered
pub answering-need : (own : OwnView) (e : EndView Kind) → Needs 0 false (answering own e).duties
answering-need own e = go own.owed
  where
    go : (owed : Option Owed) → Needs 0 false (owed_turn owed (unowed own)).duties
    go None = needs-none 0
    go (Some (OfRecipes asked primary)) = needs-none 0
    go (Some (Answered given primary)) =
        free-need (owed_turn (Some (Answered given primary)) (unowed own)).duties
        (answers-are common-free (recipes_text (unowed own) given) primary (λ body. tt))
    go (Some (Keep primary)) =
        free-need (owed_turn (Some (Keep primary)) (unowed own)).duties
        (answers-are common-free (sent.text_of (unowed own) (accepted_item primary)) primary (λ body. tt))

known-need : (now : ℕ) (header : Header) (message : Message) (own : OwnView)
    → Needs 1 false (known_turn now header message own).duties
known-need now header message own =
    go (takes_stream own message.stream) (is_known message.stream message.function)
    (request_of message.stream message.function message.body)
  where
    go : (stream function : Bool) (asks : Option Request)
        → Needs 1 false
        (if not stream then error_turn 3 header own
        else if not function then error_turn 5 header own
        else read_turn now asks header message own).duties
    go true true asks = read-need now asks header message own
    go true false asks = errors-need 5 header own
    go false function asks = errors-need 3 header own

primary-turn-need : (now : ℕ) (header : Header) (message : Message) (own : OwnView)
    → Needs 1 false (primary_turn now header message own).duties
primary-turn-need now header message own =
    go (is_establish_request message) (is_communicating own) (not (is_online own) && not (is_online_request message))
  where
    go : (establishes communicating offline : Bool)
        → Needs 1 false
        (if establishes then established_turn now message own
        else if not communicating then stray_turn now message own
        else if offline then offline_turn message own
        else known_turn now header message own).duties
    go true communicating offline = established-need now message own
    go false false offline = led-need 1 false _ _ (tt, tt) (comms-need comms_in.OtherMessage now own)
    go false true true = offline-need message own
    go false true false = known-need now header message own

message-need : (now : ℕ) (header : Header) (message : Message) (own : OwnView) (e : EndView Kind)
    → NeedsFor 1 (message_puts now header message own e) (message_turn now header message own e)
message-need now header message own e = go (is_enabled_in own.comms.state) (is_primary message)
  where
    go : (enabled primary : Bool)
        → NeedsFor 1
        (if enabled && not primary
        then matched_puts now (match_of header (answered_by e header)) message own (core_after (Answer header) e)
        else puts_none own)
        (if not enabled then dropped_turn message own
        else if primary then primary_turn now header message own
        else secondary_turn now header message own e)
    go false primary = note-need own (Happening.Dropped (message_name message))
    go true true = primary-turn-need now header message own
    go true false =
        led-need 1 _ (Answer header) _ (tt, tt)
        (matched-need now (match_of header (answered_by e header)) message own (core_after (Answer header) e))

-- ---- a character

two-need : (h : Bool) (duties : List ToolDuty) → Needs 1 h duties → Needs 2 h duties
two-need h duties is = needs-as 1 2 h h duties (omega arith) refl is

-- it makes a message too long
abbrev pub is_long_flow : Flow → Bool
is_long_flow flow.TooLong = true
is_long_flow _ = false

abbrev pub is_long : Took → Bool
is_long (took.Came header came) = is_long_flow came
is_long _ = false

-- nothing is told of that without a number
long-need : (now : ℕ) (header : Header) (own : OwnView) (e : EndView Kind) (spent : Bool)
    → Needs 2 (spent || lacks_number (given_up_puts now header own e))
    (long_turn spent header own (given_up_turn now header own e)).duties
long-need now header own e true =
    needs-as 0 2 true true _ (omega arith) refl (needs-one 0 true (λ f. Halt ∷ []) (λ f. halt-spend))
long-need now header own e false =
    needs-more 1 1 false _ (sent.error_duty 11 header own) _ (λ f. error-spends 11 header own f)
    (given-up-need now header own e)

flow-need : (now : ℕ) (header : Header) (came : Flow) (own : OwnView) (e : EndView Kind)
    → Needs 2 ((is_long_flow came && is_spent e) || lacks_number (flow_puts now header came own e))
    (flow_turn now header came own e).duties
flow-need now header flow.Part own e = needs-none 2
flow-need now header (flow.Whole message check) own e = two-need _ _ (message-need now header message own e)
flow-need now header flow.Duplicate own e = needs-none 2
flow-need now header (flow.Foreign address) own e = two-need false _ (errors-need 1 header own)
flow-need now header flow.Unexpected own e = two-need _ _ (given-up-need now header own e)
flow-need now header flow.TooLong own e = long-need now header own e (is_spent e)
flow-need now header flow.Crowded own e = two-need _ _ (given-up-need now header own e)

took-need : (now : ℕ) (brought : Took) (own : OwnView) (e : EndView Kind)
    → Needs 2 ((is_long brought && is_spent e) || lacks_number (took_puts now brought own e))
    (took_turn now brought own e).duties
took-need now took.Nothing own e = needs-none 2
took-need now (took.Failed header) own e = two-need _ _ (failed-need now (Some header) own e)
took-need now (took.Came header came) own e = flow-need now header came own e

pub character-need : (byte now : ℕ) (own : OwnView) (e : EndView Kind)
    → Needs 2
    ((is_long (took_at e byte now) && is_spent (core_after (Take byte now) e))
    || lacks_number (character_puts byte now own e))
    (character byte now own e).duties
character-need byte now own e =
    led-need 2 _ (Take byte now) _ (tt, tt) (took-need now (took_at e byte now) own (core_after (Take byte now) e))

-- ---- commands of the tool

set-need : (refusal : Option Setting) (vid : ℕ) (value : Item) (own : OwnView)
    → Needs 1 false (set_turn refusal vid value own).duties
set-need (Some refusal) vid value own = note-need own Happening.Refused
set-need None vid value own = free-one (set_turn None vid value own).duties ((λ e. (tt, tt)), tt)

event-command-need : (ceid : ℕ) (own : OwnView) (e : EndView Kind)
    → NeedsFor 1 (event_puts ceid own) (known_event_turn (is_planned own.tables.reports ceid) ceid own e)
event-command-need ceid own e = go (is_planned own.tables.reports ceid)
  where
    happened : (enabled : Bool)
        → NeedsFor 1 (if enabled then enabled_puts ceid own.events (with_event own) else puts_none own)
        (led_turn (Note (Happening.Event ceid own.events)) (enabled_turn enabled ceid own.events (with_event own) e))
    happened false = free-one ((λ f. Note (Happening.Event ceid own.events) ∷ []) ∷ []) ((λ f. (tt, tt)), tt)
    happened true =
        led-need 1 _ (Note (Happening.Event ceid own.events)) _ (tt, tt)
        (judged-need event_report (λ message. sent.event_turn own.events message.body (with_event own) e)
        (sent.text_of (with_event own) (event_item own.tables ceid own.events)) (with_event own)
        (λ body. event-need own.events body (with_event own) e))

    go : (known : Bool)
        → NeedsFor 1
        (if known && is_enabled_event own.tables.reports ceid then enabled_puts ceid own.events (with_event own)
        else puts_none own)
        (known_event_turn known ceid own e)
    go false = note-need own Happening.Refused
    go true = happened (is_enabled_event own.tables.reports ceid)

alarm-report-need : (enabled : Bool) (alid : ℕ) (own : OwnView) (e : EndView Kind)
    → NeedsFor 1 (alarm_puts enabled alid own) (alarm_report_turn enabled alid own e)
alarm-report-need true alid own e =
    report-need sent.alarm_report (sent.text_of own (alarm_item_of own.tables alid)) own e
alarm-report-need false alid own e = needs-none 1

alarm-need : (found : AlarmStep) (alid : ℕ) (is_set : Bool) (own : OwnView) (e : EndView Kind)
    → NeedsFor 1 (changed_puts found alid is_set own) (alarm_turn found alid is_set own e)
alarm-need alarm_step.Unknown alid is_set own e = note-need own Happening.Refused
alarm-need alarm_step.Same alid is_set own e =
    free-one (fixed_turn own (alarm_line alid is_set ∷ [])).duties ((λ f. (tt, tt)), tt)
alarm-need (alarm_step.Changed enabled) alid is_set own e =
    led-need 1 _ (alarm_line alid is_set) _ (tt, tt)
    (alarm-report-need enabled alid (with_tables (alarm_after alid is_set own.tables) own) e)

attempted-need : (out : ControlOut) (own : OwnView) (e : EndView Kind)
    → Needs 1 false (attempted_turn out own e).duties
attempted-need control_out.SendAttempt own e = go (is_crowded_out true e)
  where
    go : (crowded : Bool)
        → Needs 1 false
        (if crowded then
        fixed_turn (with_control (control_next own.control control_in.AttemptFailed) own)
        (Primary sent.online_request ∷ states.control_commands control_in.AttemptFailed own.control)
        else fixed_turn own (Primary sent.online_request ∷ [])).duties
    go true =
        needs-one 1 false
        (λ f. Primary sent.online_request ∷ states.control_commands control_in.AttemptFailed own.control)
        (λ f.
        primary-spend sent.online_request (states.control_commands control_in.AttemptFailed own.control)
        (control-noted common-free own.control.state (control_next own.control control_in.AttemptFailed).state))
    go false = primary-need own sent.online_request
attempted-need control_out.Nothing own e = needs-none 1
attempted-need (control_out.Ack code) own e = needs-none 1
attempted-need control_out.Abort own e = needs-none 1

online-need : (own : OwnView) (e : EndView Kind) → Needs 1 false (online_turn own e).duties
online-need own e =
    let outcome = control_step own.control (control_in.Online (is_communicating own)) in
    needs-behind 1 false (λ f. states.control_lines own.control.state outcome.next.state)
    (attempted_turn outcome.output (with_control outcome.next own) e).duties
    (λ f. control-noted common-free own.control.state outcome.next.state)
    (attempted-need outcome.output (with_control outcome.next own) e)

command-need : (command : ToolCommand) (now : ℕ) (own : OwnView) (e : EndView Kind)
    → NeedsFor 1 (command_puts command now own e) (command_turn command now own e)
command-need (tool.Set vid value) now own e = set-need (settings.refusal_of own.tables.vars vid value) vid value own
command-need (tool.Event ceid) now own e = event-command-need ceid own e
command-need (tool.Alarm alid is_set) now own e = alarm-need (step_of own.tables.alarms alid is_set) alid is_set own e
command-need tool.Enable now own e = comms-need comms_in.Enable now own
command-need tool.Disable now own e = leaving-need comms_in.Disable None now own e
command-need tool.Online now own e = online-need own e
command-need tool.Offline now own e =
    free-one (states.control_turn control_in.Offline own).duties (control-free control_in.Offline own)
command-need tool.Local now own e =
    free-one (states.control_turn control_in.ToLocal own).duties (control-free control_in.ToLocal own)
command-need tool.Remote now own e =
    free-one (states.control_turn control_in.ToRemote own).duties (control-free control_in.ToRemote own)
command-need (tool.Terminal tid text) now own e =
    report-need sent.terminal_report (sent.text_of own (sent.terminal_item tid text)) own e

pub told-need : (command : ToolCommand) (now : ℕ) (own : OwnView) (e : EndView Kind)
    → Needs 2 (lacks_number (command_puts command now own e)) (told_turn command now own e).duties
told-need command now own e =
    two-need _ _
    (led-need 1 _ (Note (Happening.Recorded (Past.Commanded command))) _ (tt, tt) (command-need command now own e))

-- ---- the timers, and the beginning of a step

pub beginning-need : (now : ℕ) (own : OwnView) (e : EndView Kind) → Needs 1 false (beginning now own e).duties
beginning-need now own e = go (own.has_begun || not own.plan.enable)
  where
    go : (over : Bool)
        → Needs 1 false
        (if over then quiet_turn (begun own) else states.comms_turn comms_in.Enable now (begun own)).duties
    go true = needs-none 1
    go false = comms-need comms_in.Enable now (begun own)

pub line-timer-need : (now : ℕ) (own : OwnView) (e : EndView Kind)
    → NeedsFor 1 (line_timer_puts now own e) (line_timer now own e)
line-timer-need now own e =
    led-need 1 _ (Tick now) _ (tt, tt) (failed-need now (failed_at e now) own (core_after (Tick now) e))

pub delay-need : (now : ℕ) (own : OwnView) → Needs 1 false (states.comms_turn comms_in.Time now own).duties
delay-need now own = comms-need comms_in.Time now own

-- ---- what comes behind the works

sent-need : (message : Spooled) (own : OwnView) (e : EndView Kind) → Needs 1 false (sent_turn message own e).duties
sent-need message own e = go (needs_grant message)
  where
    leave : (text : Text) → Needs 1 false (inquiry_turn text own e).duties
    leave (answer.Body text) =
        needs-one 1 false (λ f. Primary (unload_request text) ∷ []) (λ f. primary-spend (unload_request text) [] tt)
    leave answer.TooLong = needs-none 1

    go : (needs : Bool)
        → Needs 1 false
        (if needs
        then inquiry_turn (sent.text_of own (sent.grant_item (dataid_in message.body) (length message.body))) own e
        else unloading_turn message own e).duties
    go true = leave (sent.text_of own (sent.grant_item (dataid_in message.body) (length message.body)))
    go false = free-one (unloading_turn message own e).duties ((λ f. (tt, tt)), tt)

tried-need : (system : Option ℕ) (number : ℕ) (message : Spooled) (own : OwnView) (e : EndView Kind)
    → Needs 1 false (tried_turn system number message own e).duties
tried-need None number message own e = needs-none 1
tried-need (Some system) number message own e =
    let booked = taken_up number system (waiting_text message) own.ledger in
    let later = with_tried system (with_ledger booked.next own) in
    needs-behind 1 false (λ f. lines_commands booked.lines) (sent_turn message later e).duties
    (λ f. noted-free booked.lines)
    (sent-need message later e)

taking-need : (number : Option ℕ) (oldest : Option Spooled) (own : OwnView) (e : EndView Kind)
    → Needs 2 false (taking_turn number oldest own e).duties
taking-need None oldest own e = needs-none 2
taking-need (Some number) None own e = needs-none 2
taking-need (Some number) (Some message) own e = go own.tried
  where
    draws : (later : EndView Kind)
        → Needs 2 false (leads Draw (tried_turn (next_number later.numbers) number message own) later).duties
    draws later =
        needs-more 1 1 false false (λ f. Draw ∷ []) _ (λ f. draw-spend)
        (tried-need (next_number later.numbers) number message own (core_after Draw later))

    go : (last : Option ℕ)
        → Needs 2 false
        (stopped_turn last (λ later. leads Draw (tried_turn (next_number later.numbers) number message own) later)
        e).duties
    go None = draws e
    go (Some last) = led-need 2 false (Remove true last) _ (tt, tt) (draws (core_after (Remove true last) e))

pub unload-need : (oldest : Option Spooled) (own : OwnView) (e : EndView Kind)
    → Needs 2 false (unload_part oldest own e).duties
unload-need oldest own e =
    let most = most_transmitted own.tables in
    taking-need (spool_next most own.ledger) oldest (with_ledger (after_next most own.ledger) own) e

pub ending-need : (own : OwnView) (e : EndView Kind) → Needs 0 false (end_of_spooling own e).duties
ending-need own e =
    free-need (end_of_spooling own e).duties (booked-free (rested (is_communicating own) own.ledger) own)

pub offer-need : (now : ℕ) (own : OwnView) (e : EndView Kind) → Needs 0 false (offer now own e).duties
offer-need now own e = free-need (offer now own e).duties ((λ f. (tt, tt)), ((λ f. tt), tt))

pub closing-need : (own : OwnView) (e : EndView Kind) → Needs 0 false (closes {K = Kind} own e).duties
closing-need own e = free-need (closes {K = Kind} own e).duties ((λ f. (tt, tt)), tt)
