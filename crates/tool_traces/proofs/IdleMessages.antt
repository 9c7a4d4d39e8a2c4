-- Turns of replies, requests and the tool's commands that send no S6F1 and leave the traces as they are.
use Rattle.std.proofs.Common.{refl, ◌∙◌, arith, ◌==◌, ◌||◌, Bool, true, false, ℕ, List, [], ◌∷◌, Option, Some, None, if◌then◌else◌}
use Rattle.std.specs.List.{find}
use Rattle.std.specs.Option.{option_map}
use Rattle.block_codec.specs.declared.header.Header.{Header}
use Rattle.gem_alarms.specs.Alarms.{step_of}
use Rattle.gem_alarms.specs.declared.alarms.AlarmStep.{AlarmStep}
use Rattle.gem_alarms.specs.declared.alarms.AlarmStep.TheVariants as alarm_step
use Rattle.gem_reports.specs.Reporting.{is_enabled_in, is_planned}
use Rattle.gem_shapes.specs.Answers.{code_item}
use Rattle.gem_shapes.specs.declared.request.Request.{Request}
use Rattle.gem_shapes.specs.declared.request.TablesRequest.{TablesRequest}
use Rattle.gem_states.specs.declared.comms.CommsIn.TheVariants as comms_in
use Rattle.gem_states.specs.declared.control.ControlIn.{ControlIn}
use Rattle.gem_states.specs.declared.control.ControlIn.TheVariants as control_in
use Rattle.gem_vars.specs.declared.settings.Setting.{Setting}
use Rattle.gem_vars.specs.Settings as settings
use Rattle.gem_recipes.specs.declared.asking.RecipesAsked.{RecipesAsked}
use Rattle.gem_recipes.specs.Asking.{is_change}
use Rattle.message_flow.specs.declared.message.Message.{Message}
use Rattle.secs_items.specs.declared.item.Item.{Item}
use Rattle.setup_store.specs.Entries.{Entry}
use Rattle.trace_log.specs.declared.commands.ToolCommand.{ToolCommand}
use Rattle.trace_log.specs.declared.commands.ToolCommand.TheVariants as tool
use Rattle.trace_log.specs.Log.{Happening}
use Rattle.trace_log.specs.Names.{Spooled}
use Rattle.transact.specs.Transactions.{primary_of}
use Rattle.message_end.specs.Calls.{answered_by, dropped_now, due_now}
use Rattle.message_end.specs.Core.{EndView, is_crowded_out}
use Rattle.message_end.specs.Core.Command.{DropDue, Expire, GiveUp, Note}
use Rattle.message_end.specs.Parts.{core_after, fixed_turn}
use Rattle.equipment_tables.specs.Answers.{alarm_item_of, answer_of, event_item, lines_of}
use Rattle.equipment_tables.specs.Tables.{alarm_after}
use Rattle.equipment_tables.proofs.Lines.{lines_hold}
use Rattle.spool_ledger.specs.Activity.{rsda_of}
use Rattle.spool_ledger.specs.Storing.{all_out}
use Rattle.spool_ledger.specs.Unloading.{confirmed, fresh, let_go, waiting_in, with_each, with_unload}
use Rattle.tool_step.specs.declared.kind.Kind.{Kind}
use Rattle.tool_step.specs.declared.kind.Kind.TheVariants as kind
use Rattle.tool_step.specs.Grants.{GrantView}
use Rattle.tool_step.specs.declared.owed.Owed.{Owed}
use Rattle.tool_step.specs.declared.owed.Owed.TheVariants.{Answered, Keep, Recipes as OfRecipes}
use Rattle.tool_step.specs.Messages.{answer_turn, control_request_turn, dropped_turn, error_turn, established_turn, keep_turn, offline_turn, stray_turn, unkept_duties, unkept_turn}
use Rattle.tool_step.specs.Own.{OwnView, ToolTurn, event_report, is_granted_by, is_local, owing, quiet_turn, turn_before, turn_of, unowed, untold, waiting_report, with_ledger, with_tables, without_grant, without_report, without_waiting_data}
use Rattle.tool_step.specs.Replies.{block_timer, given_up_by_t4, given_up_turn, granted_turn, loss_turn, reply_timer, timeout_turn}
use Rattle.tool_step.specs.Sampling.{trace_name}
use Rattle.tool_step.specs.Sent as sent
use Rattle.tool_step.specs.Setup.{accepted_item, has_space_code, no_space}
use Rattle.tool_step.specs.Spooling.{booked_turn, confirmed_turn, grant_given_turn, let_go_turn, purge_turn, rsda_duties, transmit_turn, unloaded_own, unloading_turn}
use Rattle.tool_step.specs.States as states
use Rattle.tool_step.specs.Recipes.{recipes_text, recipes_turn}
use Rattle.tool_step.specs.Step.{answering, owed_turn}
use Rattle.tool_step.specs.Tool.{alarm_line, alarm_report_turn, alarm_turn, command_turn, enabled_turn, known_event_turn, set_turn, with_event}
use Rattle.tool_law.proofs.CommandWalks.{abort-are}
use Rattle.tool_law.proofs.LedgerLines.{all-out-lines, confirmed-lines}
use Rattle.tool_law.proofs.TurnWalks.{before-of, control-request-of, dropped-of, error-of, established-of, fixed-of, led-of, note-of, nothing-of, offline-of, online-of, stray-of}
use Rattle.tool_traces.proofs.IdleCommands.{AreIdleDuties, common-idle}
use Rattle.tool_traces.proofs.IdleTurns.{AreIdleLines, IsIdleTurn, IsOtherReport, KeepsTraces, answers-idle, booked-idle, comms-idle, control-idle, errors-idle, event-idle, going-idle, itself, judged-idle, kept, leaving-idle, lines-idle, report-idle, spool-idle, traces-stay, untraced-kept}

both-keep : (one two three : OwnView) → KeepsTraces one two → KeepsTraces two three → KeepsTraces one three
both-keep one two three first second = record {
  running = second.running ∙ first.running;
  made = second.made ∙ first.made;
  fewer = λ body. let a = first.fewer body in let b = second.fewer body in omega (arith, a, b);
}

pub after-idle : (own other : OwnView) (turn : ToolTurn) → KeepsTraces own other → IsIdleTurn other turn
    → IsIdleTurn own turn
after-idle own other turn keeps is =
    record { duties = is.duties; keeps = both-keep own other turn.own keeps is.keeps }

-- ---- no reply

pub loss-idle : (now : ℕ) (lost : Kind) (system : ℕ) (own : OwnView) (e : EndView Kind)
    → IsIdleTurn own (loss_turn now lost system own e)
loss-idle now kind.Establish system own e = leaving-idle comms_in.Denied None now own e
loss-idle now kind.Attempt system own e = control-idle control_in.AttemptFailed own
loss-idle now kind.Grant system own e =
    note-of own (without_grant system own) (Happening.Denied states.event_name)
    (kept own (without_grant system own) refl) tt
loss-idle now kind.Report system own e =
    nothing-of own (without_report system own) (kept own (without_report system own) refl)
loss-idle now kind.Unload system own e = nothing-of own (unloaded_own own) (kept own (unloaded_own own) refl)
loss-idle now kind.UnloadGrant system own e =
    note-of own (unloaded_own own) (Happening.Denied states.event_name) (kept own (unloaded_own own) refl) tt
loss-idle now kind.Trace system own e = nothing-of own own (itself own)
loss-idle now kind.TraceGrant system own e =
    note-of own (without_waiting_data system own) (Happening.Denied trace_name) (untraced-kept own system) tt

timeout-idle : (now : ℕ) (found : Option (Header × Kind)) (own : OwnView) (e : EndView Kind)
    → IsIdleTurn own (timeout_turn now found own e)
timeout-idle now None own e = nothing-of own own (itself own)
timeout-idle now (Some primary) own e =
    let lost = loss_turn now primary.1 primary.0.system own e in
    before-of own (sent.error_duty 9 primary.0 lost.own ∷ []) lost (errors-idle 9 primary.0 lost.own)
    (loss-idle now primary.1 primary.0.system own e)

pub reply-timer-idle : (now : ℕ) (own : OwnView) (e : EndView Kind) → IsIdleTurn own (reply_timer now own e)
reply-timer-idle now own e =
    led-of own (Expire now) (timeout_turn now (due_now e now) own (core_after (Expire now) e)) tt
    (timeout-idle now (due_now e now) own (core_after (Expire now) e))

pub given-up-idle : (now : ℕ) (header : Header) (own : OwnView) (e : EndView Kind)
    → IsIdleTurn own (given_up_turn now header own e)
given-up-idle now header own e =
    led-of own (GiveUp header)
    (timeout_turn now (option_map primary_of (answered_by e header)) own (core_after (GiveUp header) e)) tt
    (timeout-idle now (option_map primary_of (answered_by e header)) own (core_after (GiveUp header) e))

by-t4-idle : (now : ℕ) (found : Option Header) (own : OwnView) (e : EndView Kind)
    → IsIdleTurn own (given_up_by_t4 now found own e)
by-t4-idle now None own e = nothing-of own own (itself own)
by-t4-idle now (Some header) own e = given-up-idle now header own e

pub block-timer-idle : (now : ℕ) (own : OwnView) (e : EndView Kind) → IsIdleTurn own (block_timer now own e)
block-timer-idle now own e =
    led-of own (DropDue now) (given_up_by_t4 now (dropped_now e now) own (core_after (DropDue now) e)) tt
    (by-t4-idle now (dropped_now e now) own (core_after (DropDue now) e))

-- ---- replies

granted-idle : (found : Option GrantView) (own : OwnView) (e : EndView Kind)
    → IsIdleTurn own (granted_turn (option_map (λ (one : GrantView). event_report one.body) found) own e)
granted-idle None own e = nothing-of own own (itself own)
granted-idle (Some waiting) own e = going-idle (event_report waiting.body) refl own e

pub grant-idle : (system : ℕ) (own : OwnView) (e : EndView Kind)
    → IsIdleTurn own (granted_turn (waiting_report system own) (without_grant system own) e)
grant-idle system own e =
    after-idle own (without_grant system own) (granted_turn (waiting_report system own) (without_grant system own) e)
    (kept own (without_grant system own) refl)
    (granted-idle (find (is_granted_by system) own.for_grant) (without_grant system own) e)

unloading-idle : (message : Spooled) → IsOtherReport message → (own : OwnView) (e : EndView Kind)
    → IsIdleTurn own (unloading_turn message own e)
unloading-idle message other own e = record { duties = ((λ f. (other, tt)), tt); keeps = go (is_crowded_out true e) }
  where
    go : (crowded : Bool) → KeepsTraces own (if crowded then unloaded_own own else own)
    go true = kept own (unloaded_own own) refl
    go false = itself own

pub given-idle : (own : OwnView) (e : EndView Kind) → IsIdleTurn own (grant_given_turn own e)
given-idle own e = go (waiting_in own.ledger.unload)
  where
    go : (waiting : Option (List ℕ)) → IsIdleTurn own (let_go_turn waiting own e)
    go None = nothing-of own own (itself own)
    go (Some body) =
        after-idle own (with_ledger (with_each let_go own.ledger) own)
        (unloading_turn (event_report body) (with_ledger (with_each let_go own.ledger) own) e)
        (kept own (with_ledger (with_each let_go own.ledger) own) refl)
        (unloading-idle (event_report body) refl (with_ledger (with_each let_go own.ledger) own) e)

pub confirmed-idle : (own : OwnView) → IsIdleTurn own (confirmed_turn own)
confirmed-idle own = booked-idle own (confirmed own.ledger) (confirmed-lines spool-idle own.ledger)

-- ---- requests that aren't carried out

pub established-idle : (now : ℕ) (message : Message) (own : OwnView)
    → IsIdleTurn own (established_turn now message own)
established-idle now message own =
    established-of common-idle traces-stay (λ body. refl) message (λ body. tt) now own

pub dropped-idle : (message : Message) (own : OwnView) → IsIdleTurn own (dropped_turn message own)
dropped-idle message own = dropped-of common-idle traces-stay message own

pub stray-idle : (now : ℕ) (message : Message) (own : OwnView) → IsIdleTurn own (stray_turn now message own)
stray-idle now message own = stray-of common-idle traces-stay (λ body. refl) now message own

pub offline-idle : (message : Message) (own : OwnView) → IsIdleTurn own (offline_turn message own)
offline-idle message own = offline-of common-idle traces-stay message own

pub error-idle : (function : ℕ) (header : Header) (own : OwnView) → IsIdleTurn own (error_turn function header own)
error-idle function header own = error-of common-idle traces-stay function (λ body. refl) header own

-- ---- requests that are carried out

pub control-request-idle : (input : ControlIn) (message : Message) (own : OwnView)
    → IsIdleTurn own (control_request_turn input message own)
control-request-idle input message own =
    control-request-of common-idle traces-stay input message (λ body. tt) own

rsda-idle : (message : Message) (own : OwnView) → AreIdleDuties (rsda_duties message own)
rsda-idle message own = answers-idle (sent.text_of own (code_item (rsda_of own.ledger))) message

pub transmit-idle : (message : Message) (own : OwnView) → IsIdleTurn own (transmit_turn message own)
transmit-idle message own = go (rsda_of own.ledger == 0)
  where
    go : (may : Bool)
        → IsIdleTurn own
        (if may then turn_of (with_ledger (with_unload (Some fresh) own.ledger) own) (rsda_duties message own)
        else turn_of own (rsda_duties message own))
    go true = record {
      duties = rsda-idle message own;
      keeps = kept own (with_ledger (with_unload (Some fresh) own.ledger) own) refl;
    }
    go false = record { duties = rsda-idle message own; keeps = itself own }

pub purge-idle : (message : Message) (own : OwnView) → IsIdleTurn own (purge_turn message own)
purge-idle message own = go (rsda_of own.ledger == 0)
  where
    go : (may : Bool)
        → IsIdleTurn own
        (if may then turn_before (rsda_duties message own) (booked_turn (all_out own.ledger) own)
        else turn_of own (rsda_duties message own))
    go true =
        before-of own (rsda_duties message own) (booked_turn (all_out own.ledger) own) (rsda-idle message own)
        (booked-idle own (all_out own.ledger) (all-out-lines spool-idle own.ledger))
    go false = record { duties = rsda-idle message own; keeps = itself own }

pub answer-idle : (asked : TablesRequest) (message : Message) (own : OwnView)
    → IsIdleTurn own (answer_turn asked message own)
answer-idle asked message own = record {
  duties = (
    (λ e.
        lines-idle (lines_of own.tables (is_local own) asked)
        (lines_hold AreIdleLines tt (λ name. (tt, tt)) (λ tid text lines rest. (tt, rest)) own.tables (is_local own)
        asked)),
    answers-idle (answer_of own.tables (is_local own) own.plan.line.max_body asked) message,
  );
  keeps = kept own (answer_turn asked message own).own refl;
}

pub abort-turn-idle : (message : Message) (own : OwnView) → IsIdleTurn own (turn_of own (sent.abort_duty message ∷ []))
abort-turn-idle message own = record { duties = abort-are common-idle message; keeps = itself own }

-- ---- changes of the setup that are kept

pub keep-idle : (list : List Entry) (asked : Request) (message : Message) (own : OwnView)
    → IsIdleTurn own (keep_turn list asked message own)
keep-idle list asked message own =
    fixed-of own (keep_turn list asked message own).own
    (Note (Happening.Keeping message) ∷ Note (Happening.Kept message) ∷ [])
    (kept own (keep_turn list asked message own).own refl) (tt, (tt, tt))

pub unkept-idle : (message : Message) (own : OwnView) → IsIdleTurn own (unkept_turn message own)
unkept-idle message own = go (has_space_code message)
  where
    go : (coded : Bool) → IsIdleTurn own (turn_of own (unkept_duties coded message own))
    go true = record {
      duties = answers-idle (sent.text_of own (code_item no_space)) message;
      keeps = itself own;
    }
    go false = abort-turn-idle message own

-- ---- what is asked of the recipes

pub recipes-idle : (asked : RecipesAsked) (message : Message) (own : OwnView)
    → IsIdleTurn own (recipes_turn asked message own)
recipes-idle asked message own = go (message.wait || is_change asked)
  where
    owes : OwnView
    owes = owing (OfRecipes asked (untold message)) own

    go : (asks : Bool) → IsIdleTurn own (if asks then quiet_turn owes else quiet_turn own)
    go true = nothing-of own owes (kept own owes refl)
    go false = nothing-of own own (itself own)

-- ---- the answer that has waited

pub answering-idle : (own : OwnView) (e : EndView Kind) → IsIdleTurn own (answering own e)
answering-idle own e = go own.owed
  where
    go : (owed : Option Owed) → IsIdleTurn own (owed_turn owed (unowed own))
    go None = nothing-of own (unowed own) (kept own (unowed own) refl)
    go (Some (OfRecipes asked primary)) = nothing-of own (unowed own) (kept own (unowed own) refl)
    go (Some (Answered given primary)) = record {
      duties = answers-idle (recipes_text (unowed own) given) primary;
      keeps = kept own (unowed own) refl;
    }
    go (Some (Keep primary)) = record {
      duties = answers-idle (sent.text_of (unowed own) (accepted_item primary)) primary;
      keeps = kept own (unowed own) refl;
    }

-- ---- the tool's commands

refused-idle : (own : OwnView) → IsIdleTurn own (fixed_turn own (Note Happening.Refused ∷ []))
refused-idle own = note-of own own Happening.Refused (itself own) tt

set-idle : (refusal : Option Setting) (vid : ℕ) (value : Item) (own : OwnView)
    → IsIdleTurn own (set_turn refusal vid value own)
set-idle (Some refusal) vid value own = refused-idle own
set-idle None vid value own =
    note-of own (set_turn None vid value own).own (Happening.Set vid)
    (kept own (set_turn None vid value own).own refl) tt

enabled-idle : (enabled : Bool) (ceid dataid : ℕ) (own : OwnView) (e : EndView Kind)
    → IsIdleTurn own (enabled_turn enabled ceid dataid own e)
enabled-idle true ceid dataid own e =
    judged-idle event_report (λ body. refl)
    (λ (message : Spooled). sent.event_turn dataid message.body own e)
    (sent.text_of own (event_item own.tables ceid dataid)) own (λ body. event-idle dataid body own e)
enabled-idle false ceid dataid own e = nothing-of own own (itself own)

event-command-idle : (known : Bool) (ceid : ℕ) (own : OwnView) (e : EndView Kind)
    → IsIdleTurn own (known_event_turn known ceid own e)
event-command-idle false ceid own e = refused-idle own
event-command-idle true ceid own e =
    led-of own (Note (Happening.Event ceid own.events))
    (enabled_turn (is_enabled_in own.tables.reports ceid) ceid own.events (with_event own) e) tt
    (after-idle own (with_event own)
    (enabled_turn (is_enabled_in own.tables.reports ceid) ceid own.events (with_event own) e)
    (kept own (with_event own) refl)
    (enabled-idle (is_enabled_in own.tables.reports ceid) ceid own.events (with_event own) e))

alarm-report-idle : (enabled : Bool) (alid : ℕ) (own : OwnView) (e : EndView Kind)
    → IsIdleTurn own (alarm_report_turn enabled alid own e)
alarm-report-idle true alid own e =
    report-idle sent.alarm_report (λ body. refl) (λ body. refl) (sent.text_of own (alarm_item_of own.tables alid)) own e
alarm-report-idle false alid own e = nothing-of own own (itself own)

alarm-idle : (found : AlarmStep) (alid : ℕ) (is_set : Bool) (own : OwnView) (e : EndView Kind)
    → IsIdleTurn own (alarm_turn found alid is_set own e)
alarm-idle alarm_step.Unknown alid is_set own e = refused-idle own
alarm-idle alarm_step.Same alid is_set own e =
    note-of own own (Happening.Alarm alid is_set) (itself own) tt
alarm-idle (alarm_step.Changed enabled) alid is_set own e =
    led-of own (alarm_line alid is_set)
    (alarm_report_turn enabled alid (with_tables (alarm_after alid is_set own.tables) own) e) tt
    (after-idle own (with_tables (alarm_after alid is_set own.tables) own)
    (alarm_report_turn enabled alid (with_tables (alarm_after alid is_set own.tables) own) e)
    (kept own (with_tables (alarm_after alid is_set own.tables) own) refl)
    (alarm-report-idle enabled alid (with_tables (alarm_after alid is_set own.tables) own) e))

pub command-idle : (command : ToolCommand) (now : ℕ) (own : OwnView) (e : EndView Kind)
    → IsIdleTurn own (command_turn command now own e)
command-idle (tool.Set vid value) now own e =
    set-idle (settings.refusal_of own.tables.vars vid value) vid value own
command-idle (tool.Event ceid) now own e = event-command-idle (is_planned own.tables.reports ceid) ceid own e
command-idle (tool.Alarm alid is_set) now own e =
    alarm-idle (step_of own.tables.alarms alid is_set) alid is_set own e
command-idle tool.Enable now own e = comms-idle comms_in.Enable now own
command-idle tool.Disable now own e = leaving-idle comms_in.Disable None now own e
command-idle tool.Online now own e = online-of common-idle traces-stay refl own e
command-idle tool.Offline now own e = control-idle control_in.Offline own
command-idle tool.Local now own e = control-idle control_in.ToLocal own
command-idle tool.Remote now own e = control-idle control_in.ToRemote own
command-idle (tool.Terminal tid text) now own e =
    report-idle sent.terminal_report (λ body. refl) (λ body. refl) (sent.text_of own (sent.terminal_item tid text)) own
    e
