-- Turns that leave as it is what is kept of a setup, and what is asked of an object outside: all but those of a message.
use Rattle.std.proofs.Common.{◌≡◌, refl, nat_le, ◌==◌, Bool, true, false, ℕ, List, [], ◌∷◌, length, Option, Some, None, if◌then◌else◌}
use Rattle.std.specs.Option.{option_map, option_map_or}
use Rattle.block_codec.specs.declared.header.Header.{Header}
use Rattle.gem_alarms.specs.Alarms.{step_of}
use Rattle.gem_alarms.specs.declared.alarms.AlarmStep.{AlarmStep}
use Rattle.gem_alarms.specs.declared.alarms.AlarmStep.TheVariants as alarm_step
use Rattle.gem_reports.specs.Reporting.{is_enabled_in as is_enabled_event, is_planned}
use Rattle.gem_shapes.specs.declared.request.Request.{Request}
use Rattle.gem_shapes.specs.declared.request.Request.TheVariants as request
use Rattle.gem_states.specs.Control.{control_step}
use Rattle.gem_states.specs.declared.comms.CommsIn.{CommsIn}
use Rattle.gem_states.specs.declared.comms.CommsIn.TheVariants as comms_in
use Rattle.gem_states.specs.declared.control.ControlIn.TheVariants as control_in
use Rattle.gem_states.specs.declared.control.ControlOut.{ControlOut}
use Rattle.gem_states.specs.declared.control.ControlOut.TheVariants as control_out
use Rattle.gem_vars.specs.declared.settings.Setting.{Setting}
use Rattle.gem_vars.specs.Settings.{refusal_of}
use Rattle.message_flow.specs.declared.message.Message.{Message}
use Rattle.secs_items.specs.declared.item.Item.{Item}
use Rattle.setup_store.specs.Entries.{Entry}
use Rattle.trace_log.specs.declared.commands.ToolCommand.{ToolCommand}
use Rattle.trace_log.specs.declared.commands.ToolCommand.TheVariants as tool
use Rattle.trace_log.specs.Names.{Spooled}
use Rattle.transact.specs.declared.transactions.Match.{Match}
use Rattle.transact.specs.declared.transactions.Match.TheVariants.{Reply, Abort, Stranger}
use Rattle.transact.specs.Numbers.{next_number}
use Rattle.transact.specs.Transactions.{primary_of}
use Rattle.message_end.specs.Calls.{answered_by}
use Rattle.message_end.specs.Core.{EndView, is_crowded_out}
use Rattle.message_end.specs.Core.Command.{Draw, GiveUp, Halt, Remove}
use Rattle.message_end.specs.Parts.{core_after, fixed_turn, leads}
use Rattle.equipment_tables.specs.declared.answers.Answer.{Answer as Text}
use Rattle.equipment_tables.specs.declared.answers.Answer.TheVariants as text
use Rattle.equipment_tables.specs.Answers.{alarm_item_of, event_item}
use Rattle.equipment_tables.specs.Tables.{alarm_after, overwrites}
use Rattle.spool_ledger.specs.Activity.{rsda_of}
use Rattle.spool_ledger.specs.Ledger.{Booked}
use Rattle.spool_ledger.specs.Storing.{stored}
use Rattle.spool_ledger.specs.Unloading.{let_go, taken_up, waiting_in, with_each}
use Rattle.tool_step.specs.declared.kind.Kind.{Kind}
use Rattle.tool_step.specs.declared.kind.Kind.TheVariants as kind
use Rattle.tool_step.specs.declared.owed.Owed.{Owed}
use Rattle.tool_step.specs.Codes.{is_accepted_in, is_granted_in}
use Rattle.tool_step.specs.Messages.{request_turn}
use Rattle.tool_step.specs.Own.{OwnView, ToolTurn, event_report, is_communicating, is_online, waiting_data, waiting_report, with_control, with_ledger, with_tables, with_tried, without_grant, without_waiting_data}
use Rattle.tool_step.specs.Replies as replies
use Rattle.tool_step.specs.Reports.{judged_turn, report_turn, text_turn}
use Rattle.tool_step.specs.Sampling as sampling
use Rattle.tool_step.specs.Sent as sent
use Rattle.tool_step.specs.Spooling as spooling
use Rattle.tool_step.specs.States as states
use Rattle.tool_step.specs.Step as step
use Rattle.tool_step.specs.Tool as told
use Rattle.gem_shapes.proofs.RecipeRequests.{asks_recipes}

-- what is kept of a setup, whether a host is offered recipes, and what is asked of an object outside
abbrev pub Aside : Type 0
Aside = Option (List Entry) × (Bool × Option Owed)

abbrev pub aside : OwnView → Aside
aside own = (own.setup, (own.offers, own.owed))

abbrev pub Stays : OwnView → ToolTurn → Type 0
Stays own turn = aside turn.own ≡ aside own

pub either : (own : OwnView) (b : Bool) (one two : ToolTurn) → Stays own one → Stays own two
    → Stays own (if b then one else two)
either own true one two first second = first
either own false one two first second = second

end-of-talk : (input : CommsIn) (failed : Option Header) (now : ℕ) (own : OwnView) (e : EndView Kind)
    → Stays own (states.end_of_talk input failed now own e)
end-of-talk input failed now own e =
    either own (states.is_same_comms own.comms.state (states.comms_outcome input now own).next.state) _ _ refl refl

pub failed-stays : (now : ℕ) (failed : Option Header) (own : OwnView) (e : EndView Kind)
    → Stays own (step.failed_turn now failed own e)
failed-stays now None own e = refl
failed-stays now (Some header) own e = end-of-talk comms_in.SendFailed (Some header) now own e

-- ---- reports

going-stays : (message : Spooled) (own : OwnView) (e : EndView Kind) → Stays own (sent.going_turn message own e)
going-stays message own e = go (is_crowded_out true e) (next_number e.numbers)
  where
    go : (crowded : Bool) (next : Option ℕ)
        → aside (if crowded then own else sent.kept_report next message own) ≡ aside own
    go true next = refl
    go false None = refl
    go false (Some system) = refl

asking-stays : (asked : Text) (body : List ℕ) (own : OwnView) (e : EndView Kind)
    → Stays own (sent.asking_turn asked body own e)
asking-stays text.TooLong body own e = refl
asking-stays (text.Body bytes) body own e = go (is_crowded_out true e) (next_number e.numbers)
  where
    go : (crowded : Bool) (next : Option ℕ)
        → aside (if crowded then own else sent.with_asked next body own) ≡ aside own
    go true next = refl
    go false None = refl
    go false (Some system) = refl

event-stays : (dataid : ℕ) (body : List ℕ) (own : OwnView) (e : EndView Kind)
    → Stays own (sent.event_turn dataid body own e)
event-stays dataid body own e =
    either own (nat_le (length body) 244) _ _ (going-stays (event_report body) own e)
    (asking-stays (sent.text_of own (sent.grant_item dataid (length body))) body own e)

stored-stays : (message : Spooled) (own : OwnView) → Stays own (spooling.stored_turn message own)
stored-stays message own = go (stored (overwrites own.tables) message own.ledger)
  where
    go : (booked : Option Booked)
        → Stays own (option_map_or (λ b. spooling.booked_turn b own) booked (fixed_turn own (Halt ∷ [])))
    go None = refl
    go (Some booked) = refl

judged-stays : (report : List ℕ → Spooled) (going : Spooled → ToolTurn) (asked : Text) (own : OwnView)
    → ((message : Spooled) → Stays own (going message)) → Stays own (judged_turn report going asked own)
judged-stays report going asked own goes = either own (is_online own) _ _ (by_text asked) refl
  where
    by_text : (asked : Text) → Stays own (text_turn report going asked own)
    by_text text.TooLong = refl
    by_text (text.Body body) =
        either own (spooling.is_spooled (report body) own) _ _ (stored-stays (report body) own)
        (either own (is_communicating own) _ _ (goes (report body)) refl)

-- ---- samples

data-stays : (asked : Text) (body : List ℕ) (own : OwnView) (e : EndView Kind)
    → Stays own (sampling.data_inquiry_turn asked body own e)
data-stays text.TooLong body own e = refl
data-stays (text.Body bytes) body own e = go (is_crowded_out true e) (next_number e.numbers)
  where
    go : (crowded : Bool) (next : Option ℕ)
        → aside (if crowded then own else sampling.with_data_inquiry next body own) ≡ aside own
    go true next = refl
    go false None = refl
    go false (Some system) = refl

sampled-stays : (sample : Item) (own : OwnView) (e : EndView Kind) → Stays own (sampling.sampled_turn sample own e)
sampled-stays sample own e = either own (is_online own) _ _ (by_text (sent.text_of own sample)) refl
  where
    by_text : (asked : Text) → Stays own (sampling.sampled_text_turn asked own e)
    by_text text.TooLong = refl
    by_text (text.Body body) =
        either own (is_communicating own) _ _
        (either own (nat_le (length body) 244) _ _ refl
        (data-stays (sent.text_of own (sent.grant_item (spooling.dataid_in body) (length body))) body own e)) refl

pub made-stays : (own : OwnView) (e : EndView Kind) → Stays own (sampling.made_part own e)
made-stays own e = go own.tracing.made
  where
    go : (made : List Item) → Stays own (sampling.first_turn made own e)
    go [] = refl
    go (sample ∷ made) = sampled-stays sample (sampling.with_made made own) e

-- ---- what comes of transactions

loss-stays : (now : ℕ) (lost : Kind) (system : ℕ) (own : OwnView) (e : EndView Kind)
    → Stays own (replies.loss_turn now lost system own e)
loss-stays now kind.Establish system own e = end-of-talk comms_in.Denied None now own e
loss-stays now kind.Attempt system own e = refl
loss-stays now kind.Grant system own e = refl
loss-stays now kind.Report system own e = refl
loss-stays now kind.Unload system own e = refl
loss-stays now kind.UnloadGrant system own e = refl
loss-stays now kind.Trace system own e = refl
loss-stays now kind.TraceGrant system own e = refl

pub timeout-stays : (now : ℕ) (primary : Option (Header × Kind)) (own : OwnView) (e : EndView Kind)
    → Stays own (replies.timeout_turn now primary own e)
timeout-stays now None own e = refl
timeout-stays now (Some primary) own e = loss-stays now primary.1 primary.0.system own e

pub given-up-stays : (now : ℕ) (header : Header) (own : OwnView) (e : EndView Kind)
    → Stays own (replies.given_up_turn now header own e)
given-up-stays now header own e =
    timeout-stays now (option_map primary_of (answered_by e header)) own (core_after (GiveUp header) e)

pub t4-stays : (now : ℕ) (dropped : Option Header) (own : OwnView) (e : EndView Kind)
    → Stays own (replies.given_up_by_t4 now dropped own e)
t4-stays now None own e = refl
t4-stays now (Some header) own e = given-up-stays now header own e

granted-stays : (message : Option Spooled) (own : OwnView) (e : EndView Kind)
    → Stays own (replies.granted_turn message own e)
granted-stays None own e = refl
granted-stays (Some message) own e = going-stays message own e

let-go-stays : (body : Option (List ℕ)) (own : OwnView) (e : EndView Kind)
    → Stays own (spooling.let_go_turn body own e)
let-go-stays None own e = refl
let-go-stays (Some body) own e = go (is_crowded_out true e)
  where
    other : OwnView
    other = with_ledger (with_each let_go own.ledger) own

    go : (crowded : Bool) → aside (if crowded then spooling.unloaded_own other else other) ≡ aside own
    go true = refl
    go false = refl

granted-data-stays : (body : Option (List ℕ)) (own : OwnView) → Stays own (sampling.granted_trace_turn body own)
granted-data-stays None own = refl
granted-data-stays (Some body) own = refl

reply-stays : (now : ℕ) (asked : Kind) (system : ℕ) (body : List ℕ) (own : OwnView) (e : EndView Kind)
    → Stays own (replies.reply_turn now asked system body own e)
reply-stays now kind.Establish system body own e =
    either own (is_accepted_in body) _ _ refl (loss-stays now kind.Establish system own e)
reply-stays now kind.Attempt system body own e = refl
reply-stays now kind.Grant system body own e =
    either own (is_granted_in body) _ _ (granted-stays (waiting_report system own) (without_grant system own) e) refl
reply-stays now kind.Report system body own e = refl
reply-stays now kind.Unload system body own e = refl
reply-stays now kind.UnloadGrant system body own e =
    either own (is_granted_in body) _ _ (let-go-stays (waiting_in own.ledger.unload) own e) refl
reply-stays now kind.Trace system body own e = refl
reply-stays now kind.TraceGrant system body own e =
    either own (is_granted_in body) _ _
    (granted-data-stays (waiting_data system own) (without_waiting_data system own)) refl

pub matched-stays : (now : ℕ) (found : Match Kind) (message : Message) (own : OwnView) (e : EndView Kind)
    → Stays own (replies.matched_turn now found message own e)
matched-stays now (Reply asked) message own e = reply-stays now asked message.system message.body own e
matched-stays now (Abort asked) message own e = loss-stays now asked message.system own e
matched-stays now Stranger message own e = refl

-- ---- commands

attempted-stays : (out : ControlOut) (own : OwnView) (e : EndView Kind) → Stays own (told.attempted_turn out own e)
attempted-stays control_out.SendAttempt own e = either own (is_crowded_out true e) _ _ refl refl
attempted-stays control_out.Nothing own e = refl
attempted-stays (control_out.Ack code) own e = refl
attempted-stays control_out.Abort own e = refl

report-stays : (report : List ℕ → Spooled) (asked : Text) (own : OwnView) (e : EndView Kind)
    → Stays own (report_turn report asked own e)
report-stays report asked own e =
    judged-stays report (λ message. sent.going_turn message own e) asked own (λ message. going-stays message own e)

set-stays : (refusal : Option Setting) (vid : ℕ) (value : Item) (own : OwnView)
    → Stays own (told.set_turn refusal vid value own)
set-stays None vid value own = refl
set-stays (Some refusal) vid value own = refl

enabled-stays : (enabled : Bool) (ceid dataid : ℕ) (own : OwnView) (e : EndView Kind)
    → Stays own (told.enabled_turn enabled ceid dataid own e)
enabled-stays true ceid dataid own e =
    judged-stays event_report (λ message. sent.event_turn dataid message.body own e)
    (sent.text_of own (event_item own.tables ceid dataid)) own
    (λ message. event-stays dataid message.body own e)
enabled-stays false ceid dataid own e = refl

happened-stays : (planned : Bool) (ceid : ℕ) (own : OwnView) (e : EndView Kind)
    → Stays own (told.known_event_turn planned ceid own e)
happened-stays true ceid own e =
    enabled-stays (is_enabled_event own.tables.reports ceid) ceid own.events (told.with_event own) e
happened-stays false ceid own e = refl

alarm-stays : (change : AlarmStep) (alid : ℕ) (is_set : Bool) (own : OwnView) (e : EndView Kind)
    → Stays own (told.alarm_turn change alid is_set own e)
alarm-stays alarm_step.Unknown alid is_set own e = refl
alarm-stays alarm_step.Same alid is_set own e = refl
alarm-stays (alarm_step.Changed enabled) alid is_set own e = go enabled
  where
    other : OwnView
    other = with_tables (alarm_after alid is_set own.tables) own

    go : (enabled : Bool) → Stays own (told.alarm_report_turn enabled alid other e)
    go true = report-stays sent.alarm_report (sent.text_of other (alarm_item_of other.tables alid)) other e
    go false = refl

pub command-stays : (command : ToolCommand) (now : ℕ) (own : OwnView) (e : EndView Kind)
    → Stays own (told.told_turn command now own e)
command-stays (tool.Set vid value) now own e = set-stays (refusal_of own.tables.vars vid value) vid value own
command-stays (tool.Event ceid) now own e = happened-stays (is_planned own.tables.reports ceid) ceid own e
command-stays (tool.Alarm alid is_set) now own e =
    alarm-stays (step_of own.tables.alarms alid is_set) alid is_set own e
command-stays tool.Enable now own e = refl
command-stays tool.Disable now own e = end-of-talk comms_in.Disable None now own e
command-stays tool.Online now own e =
    let outcome = control_step own.control (control_in.Online (is_communicating own)) in
    attempted-stays outcome.output (with_control outcome.next own) e
command-stays tool.Offline now own e = refl
command-stays tool.Local now own e = refl
command-stays tool.Remote now own e = refl
command-stays (tool.Terminal tid bytes) now own e =
    report-stays sent.terminal_report (sent.text_of own (sent.terminal_item tid bytes)) own e

-- ---- an unload

unloading-stays : (message : Spooled) (own : OwnView) (e : EndView Kind) → Stays own (spooling.sent_turn message own e)
unloading-stays message own e =
    either own (spooling.needs_grant message) _ _
    (inquiry (sent.text_of own (sent.grant_item (spooling.dataid_in message.body) (length message.body))))
    (crowds (is_crowded_out true e))
  where
    crowds : (crowded : Bool) → aside (if crowded then spooling.unloaded_own own else own) ≡ aside own
    crowds true = refl
    crowds false = refl

    inquiry : (asked : Text) → Stays own (spooling.inquiry_turn asked own e)
    inquiry text.TooLong = refl
    inquiry (text.Body body) = crowds (is_crowded_out true e)

tried-stays : (system : Option ℕ) (number : ℕ) (message : Spooled) (own : OwnView) (e : EndView Kind)
    → Stays own (spooling.tried_turn system number message own e)
tried-stays None number message own e = refl
tried-stays (Some system) number message own e =
    unloading-stays message
    (with_tried system (with_ledger (taken_up number system (spooling.waiting_text message) own.ledger).next own)) e

pub taking-stays : (number : Option ℕ) (oldest : Option Spooled) (own : OwnView) (e : EndView Kind)
    → Stays own (spooling.taking_turn number oldest own e)
taking-stays None oldest own e = refl
taking-stays (Some number) None own e = refl
taking-stays (Some number) (Some message) own e = go own.tried
  where
    draws : (later : EndView Kind)
        → Stays own (leads Draw (spooling.tried_turn (next_number later.numbers) number message own) later)
    draws later = tried-stays (next_number later.numbers) number message own (core_after Draw later)

    go : (tried : Option ℕ)
        → Stays own
        (spooling.stopped_turn tried
        (λ later. leads Draw (spooling.tried_turn (next_number later.numbers) number message own) later) e)
    go None = draws e
    go (Some system) = draws (core_after (Remove true system) e)

-- ---- requests

pub request-stays : (asked : Request) (now : ℕ) (message : Message) (own : OwnView) → asks_recipes asked ≡ false
    → Stays own (request_turn asked now message own)
request-stays (request.OfTables asked) now message own apart = refl
request-stays (request.OfRecipes asked) now message own apart = absurd (cc)
request-stays request.Establish now message own apart = refl
request-stays request.GoOffline now message own apart = refl
request-stays request.GoOnline now message own apart = refl
request-stays request.TransmitSpool now message own apart = either own (rsda_of own.ledger == 0) _ _ refl refl
request-stays request.PurgeSpool now message own apart = either own (rsda_of own.ledger == 0) _ _ refl refl
request-stays (request.Trace trid dsper total group svids) now message own apart = refl
