-- Turns on characters, and on the tool's commands, keep what is kept sound.
use Rattle.std.proofs.Common.{refl, arith, Bool, true, false, not, ℕ, ◌||◌, List, [], ◌∷◌, length, Option, Some, None, if◌then◌else◌, nat_le}
use Rattle.std.specs.Option.{option_map_or}
use Rattle.std.specs.Prelude.{IfSome}
use Rattle.block_codec.specs.declared.header.Header.{Header}
use Rattle.gem_alarms.specs.declared.alarms.AlarmStep.{AlarmStep}
use Rattle.gem_alarms.specs.declared.alarms.AlarmStep.TheVariants as alarm_step
use Rattle.gem_alarms.specs.Alarms.{step_of}
use Rattle.gem_reports.specs.Reporting.{is_enabled_in, is_planned}
use Rattle.gem_states.specs.Control.{control_next, control_step}
use Rattle.gem_states.specs.declared.comms.CommsIn.TheVariants as comms_in
use Rattle.gem_states.specs.declared.control.ControlIn.{ControlIn}
use Rattle.gem_states.specs.declared.control.ControlIn.TheVariants as control_in
use Rattle.gem_states.specs.declared.control.ControlOut.{ControlOut}
use Rattle.gem_states.specs.declared.control.ControlOut.TheVariants as control_out
use Rattle.gem_vars.specs.Settings.{refusal_of}
use Rattle.gem_vars.specs.declared.settings.Setting.{Setting}
use Rattle.message_flow.specs.declared.flow.Flow.{Flow}
use Rattle.message_flow.specs.declared.flow.Flow.TheVariants as flow
use Rattle.secs_items.specs.declared.item.Item.{Item}
use Rattle.trace_log.specs.Log.{Happening, Past}
use Rattle.trace_log.specs.Names.{Spooled, spooled_name}
use Rattle.trace_log.specs.declared.commands.ToolCommand.{ToolCommand}
use Rattle.trace_log.specs.declared.commands.ToolCommand.TheVariants as tool
use Rattle.transact.specs.Numbers.{next_number}
use Rattle.message_end.specs.declared.end.Took.{Took}
use Rattle.message_end.specs.declared.end.Took.TheVariants as took
use Rattle.message_end.specs.Calls.{due_now}
use Rattle.message_end.specs.Core.{EndView, IsText, is_crowded_out}
use Rattle.message_end.specs.Core.Command.{Expire, Halt, Note, Primary}
use Rattle.message_end.specs.Parts.{core_after, fixed_turn}
use Rattle.equipment_tables.specs.declared.answers.Answer.{Answer as Text}
use Rattle.equipment_tables.specs.declared.answers.Answer.TheVariants as text
use Rattle.tool_step.specs.Grants.{GrantView}
use Rattle.tool_step.specs.declared.kind.Kind.{Kind}
use Rattle.equipment_tables.specs.declared.plan.EquipmentPlan.{EquipmentPlan}
use Rattle.equipment_tables.specs.Answers.{alarm_item_of, event_item}
use Rattle.tool_step.specs.Own.{OwnView, ToolTurn, event_report, is_communicating, is_online, quiet_turn, with_control, with_tables}
use Rattle.equipment_tables.specs.Plan.{EquipmentPlanFits}
use Rattle.tool_step.specs.Replies.{given_up_turn, reply_timer, timeout_turn}
use Rattle.tool_step.specs.Sent as sent
use Rattle.tool_step.specs.Reports.{judged_turn, made_turn, report_turn, text_turn, unreported_turn}
use Rattle.tool_law.specs.Sound.{CanBeSent}
use Rattle.tool_step.specs.Spooling.{booked_turn, is_spooled, stored_turn}
use Rattle.tool_law.proofs.SpoolSound.{All-snoc, IsGoodBooked, stored-good}
use Rattle.tool_step.specs.States as states
use Rattle.tool_step.specs.Step.{begun, beginning, failed_turn, flow_turn, is_spent, long_turn, took_turn}
use Rattle.equipment_tables.specs.Tables.{alarm_after, overwrites, set_after}
use Rattle.spool_ledger.specs.Ledger.{Numbered}
use Rattle.spool_ledger.specs.Ledger.{Booked}
use Rattle.spool_ledger.specs.Storing.{stored}
use Rattle.tool_step.specs.Tool.{alarm_line, alarm_report_turn, alarm_turn, attempt_turn, attempted_turn, command_turn, enabled_turn, known_event_turn, online_turn, set_turn, told_turn, with_event}
use Rattle.tool_law.proofs.CommandWalks.{control-noted}
use Rattle.tool_law.proofs.MildCommands.{IsSpelled, one-note, may-ask, can-event, can-alarm, can-text, common-mild, may-attempt}
use Rattle.tool_law.proofs.QuietTurns.{Sound, Quiet, text-is, kept, fixed-quiet, nothing-quiet, note-quiet, led-quiet, booked-quiet, comms-quiet, control-quiet, leaving-quiet}
use Rattle.tool_law.proofs.QuietMessages.{error-quiet, timeout-quiet, given-up-quiet, going-quiet, error-is-quiet, message-quiet}

module _ (plan : EquipmentPlan) (TriedIs : Option ℕ → Type 0) (fits : EquipmentPlanFits plan) (slots : ℕ)
    (stood : Numbered)
  where
    -- ---- the line

    pub failed-is-quiet :
        (now : ℕ) (failed : Option Header) (own : OwnView) (e : EndView Kind) → (Sound plan TriedIs fits slots stood) own
        → (Quiet plan TriedIs fits slots stood) (failed_turn now failed own e)
    failed-is-quiet now None own e sound = (nothing-quiet plan TriedIs fits slots stood) own sound
    failed-is-quiet now (Some header) own e sound = (leaving-quiet plan TriedIs fits slots stood) comms_in.SendFailed (Some header) now own e sound

    flow-quiet :
        (now : ℕ) (header : Header) (came : Flow) (own : OwnView) (e : EndView Kind) → (Sound plan TriedIs fits slots stood) own
        → (Quiet plan TriedIs fits slots stood) (flow_turn now header came own e)
    flow-quiet now header flow.Part own e sound = (nothing-quiet plan TriedIs fits slots stood) own sound
    flow-quiet now header (flow.Whole message check) own e sound =
        (message-quiet plan TriedIs fits slots stood) now header message own e sound
    flow-quiet now header flow.Duplicate own e sound = (nothing-quiet plan TriedIs fits slots stood) own sound
    flow-quiet now header (flow.Foreign address) own e sound =
        (error-is-quiet plan TriedIs fits slots stood) 1 (record { byte = omega arith; odd = refl }) header own sound
    flow-quiet now header flow.Unexpected own e sound = (given-up-quiet plan TriedIs fits slots stood) now header own e sound
    flow-quiet now header flow.TooLong own e sound = go (is_spent e)
      where
        go : (spent : Bool) → (Quiet plan TriedIs fits slots stood) (long_turn spent header own (given_up_turn now header own e))
        go true = (fixed-quiet plan TriedIs fits slots stood) own (Halt ∷ []) sound ((tt, tt), tt)
        go false = record {
          quiet = (
            (λ f. (error-quiet plan TriedIs fits slots stood) 11 (record { byte = omega arith; odd = refl }) header own sound f),
            ((given-up-quiet plan TriedIs fits slots stood) now header own e sound).quiet,
          );
          sound = ((given-up-quiet plan TriedIs fits slots stood) now header own e sound).sound;
        }
    flow-quiet now header flow.Crowded own e sound = (given-up-quiet plan TriedIs fits slots stood) now header own e sound

    pub took-quiet :
        (now : ℕ) (brought : Took) (own : OwnView) (e : EndView Kind) → (Sound plan TriedIs fits slots stood) own
        → (Quiet plan TriedIs fits slots stood) (took_turn now brought own e)
    took-quiet now took.Nothing own e sound = (nothing-quiet plan TriedIs fits slots stood) own sound
    took-quiet now (took.Failed header) own e sound = failed-is-quiet now (Some header) own e sound
    took-quiet now (took.Came header came) own e sound = flow-quiet now header came own e sound

    -- ---- the tool

    stored-quiet : (message : Spooled) → CanBeSent message → (own : OwnView) → (Sound plan TriedIs fits slots stood) own
        → (Quiet plan TriedIs fits slots stood) (stored_turn message own)
    stored-quiet message can own sound =
        go (stored (overwrites own.tables) message own.ledger)
        (stored-good (overwrites own.tables) message own.ledger can sound.ledger)
      where
        go : (found : Option Booked) → IfSome found (IsGoodBooked slots stood)
            → (Quiet plan TriedIs fits slots stood) (option_map_or (λ (booked : Booked). booked_turn booked own) found (fixed_turn own (Halt ∷ [])))
        go None good = (fixed-quiet plan TriedIs fits slots stood) own (Halt ∷ []) sound ((tt, tt), tt)
        go (Some booked) good = (booked-quiet plan TriedIs fits slots stood) booked own sound good

    made-quiet :
        (going : Spooled → ToolTurn) (message : Spooled) → CanBeSent message → (own : OwnView) → (Sound plan TriedIs fits slots stood) own
        → (Quiet plan TriedIs fits slots stood) (going message) → (Quiet plan TriedIs fits slots stood) (made_turn going message own)
    made-quiet going message can own sound goes = go (is_spooled message own) (is_communicating own)
      where
        go : (spooled communicating : Bool)
            → (Quiet plan TriedIs fits slots stood) (if spooled then stored_turn message own else if communicating then going message
            else unreported_turn (spooled_name message) own)
        go true communicating = stored-quiet message can own sound
        go false true = goes
        go false false = (note-quiet plan TriedIs fits slots stood) own (Happening.Dropped (spooled_name message)) sound tt

    text-quiet :
        (report : List ℕ → Spooled) (going : Spooled → ToolTurn)
        → ((body : List ℕ) → IsText body → CanBeSent (report body))
        → ((body : List ℕ) → IsText body → (Quiet plan TriedIs fits slots stood) (going (report body)))
        → (body : Text) → IsSpelled body → (own : OwnView) → (Sound plan TriedIs fits slots stood) own → (Quiet plan TriedIs fits slots stood) (text_turn report going body own)
    text-quiet report going can goes (text.Body body) is own sound =
        made-quiet going (report body) (can body is) own sound (goes body is)
    text-quiet report going can goes text.TooLong is own sound =
        (note-quiet plan TriedIs fits slots stood) own (Happening.TooLong (spooled_name (report []))) sound tt

    judged-quiet :
        (report : List ℕ → Spooled) (going : Spooled → ToolTurn)
        → ((body : List ℕ) → IsText body → CanBeSent (report body))
        → ((body : List ℕ) → IsText body → (Quiet plan TriedIs fits slots stood) (going (report body)))
        → (body : Text) → IsSpelled body → (own : OwnView) → (Sound plan TriedIs fits slots stood) own
        → (Quiet plan TriedIs fits slots stood) (judged_turn report going body own)
    judged-quiet report going can goes body is own sound = go (is_online own)
      where
        go : (online : Bool)
            → (Quiet plan TriedIs fits slots stood) (if online then text_turn report going body own
            else unreported_turn (spooled_name (report [])) own)
        go true = text-quiet report going can goes body is own sound
        go false = (note-quiet plan TriedIs fits slots stood) own (Happening.Dropped (spooled_name (report []))) sound tt

    report-quiet :
        (report : List ℕ → Spooled) → ((body : List ℕ) → IsText body → CanBeSent (report body)) → (item : Item)
        → (own : OwnView) (e : EndView Kind) → (Sound plan TriedIs fits slots stood) own
        → (Quiet plan TriedIs fits slots stood) (report_turn report (sent.text_of own item) own e)
    report-quiet report can item own e sound =
        judged-quiet report (λ message. sent.going_turn message own e) can
        (λ body is. (going-quiet plan TriedIs fits slots stood) (report body) (can body is) own e sound)
        (sent.text_of own item) ((text-is plan TriedIs fits slots stood) own sound item) own sound

    asked-sound : (body : List ℕ) → IsText body → (own : OwnView) (e : EndView Kind) → (Sound plan TriedIs fits slots stood) own
        → (Sound plan TriedIs fits slots stood) (sent.granted_own body own e)
    asked-sound body is own e sound = go (is_crowded_out true e) (next_number e.numbers)
      where
        go : (crowded : Bool) (next : Option ℕ) → (Sound plan TriedIs fits slots stood) (if crowded then own else sent.with_asked next body own)
        go true next = sound
        go false None = sound
        go false (Some system) = record {
          plan_is = sound.plan_is;
          texts =
              All-snoc (λ (one : GrantView). IsText one.body) own.for_grant (record { system = system; body = body })
              sound.texts is;
          traced = sound.traced;
          reports = sound.reports;
          ledger = sound.ledger;
          tried_is = sound.tried_is;
        }

    asking-quiet :
        (asked : Text) → IsSpelled asked → (body : List ℕ) → IsText body → (own : OwnView) (e : EndView Kind)
        → (Sound plan TriedIs fits slots stood) own
        → (Quiet plan TriedIs fits slots stood) (sent.asking_turn asked body own e)
    asking-quiet (text.Body asked) may body is own e sound =
        (fixed-quiet plan TriedIs fits slots stood) (sent.granted_own body own e) (Primary (sent.grant_request asked) ∷ [])
        (asked-sound body is own e sound)
        ((tt, may-ask asked may), tt)
    asking-quiet text.TooLong may body is own e sound = (nothing-quiet plan TriedIs fits slots stood) own sound

    event-quiet :
        (dataid : ℕ) (own : OwnView) (e : EndView Kind) → (Sound plan TriedIs fits slots stood) own → (body : List ℕ) → IsText body
        → (Quiet plan TriedIs fits slots stood) (sent.event_turn dataid body own e)
    event-quiet dataid own e sound body is = go (nat_le (length body) 244)
      where
        go : (alone : Bool) → (Quiet plan TriedIs fits slots stood) (if alone then sent.going_turn (event_report body) own e
            else sent.grant_turn dataid body own e)
        go true = (going-quiet plan TriedIs fits slots stood) (event_report body) (can-event body is) own e sound
        go false = asking-quiet (sent.text_of own (sent.grant_item dataid (length body)))
            ((text-is plan TriedIs fits slots stood) own sound (sent.grant_item dataid (length body))) body is own e sound

    happened-quiet :
        (enabled : Bool) (ceid dataid : ℕ) (own : OwnView) (e : EndView Kind) → (Sound plan TriedIs fits slots stood) own
        → (Quiet plan TriedIs fits slots stood) (enabled_turn enabled ceid dataid own e)
    happened-quiet true ceid dataid own e sound =
        judged-quiet event_report (λ message. sent.event_turn dataid message.body own e) can-event
        (λ body is. event-quiet dataid own e sound body is) (sent.text_of own (event_item own.tables ceid dataid))
        ((text-is plan TriedIs fits slots stood) own sound (event_item own.tables ceid dataid)) own sound
    happened-quiet false ceid dataid own e sound = (nothing-quiet plan TriedIs fits slots stood) own sound

    event-is-quiet : (known : Bool) (ceid : ℕ) (own : OwnView) (e : EndView Kind) → (Sound plan TriedIs fits slots stood) own
        → (Quiet plan TriedIs fits slots stood) (known_event_turn known ceid own e)
    event-is-quiet true ceid own e sound =
        (led-quiet plan TriedIs fits slots stood) (Note (Happening.Event ceid own.events))
        (enabled_turn (is_enabled_in own.tables.reports ceid) ceid own.events (with_event own) e)
        (one-note (Happening.Event ceid own.events) tt)
        (happened-quiet (is_enabled_in own.tables.reports ceid) ceid own.events (with_event own) e
        ((kept plan TriedIs fits slots stood) own (with_event own) sound refl refl refl refl refl refl))
    event-is-quiet false ceid own e sound = (note-quiet plan TriedIs fits slots stood) own Happening.Refused sound tt

    alarm-quiet : (step : AlarmStep) (alid : ℕ) (is_set : Bool) (own : OwnView) (e : EndView Kind) → (Sound plan TriedIs fits slots stood) own
        → (Quiet plan TriedIs fits slots stood) (alarm_turn step alid is_set own e)
    alarm-quiet alarm_step.Unknown alid is_set own e sound = (note-quiet plan TriedIs fits slots stood) own Happening.Refused sound tt
    alarm-quiet alarm_step.Same alid is_set own e sound = (note-quiet plan TriedIs fits slots stood) own (Happening.Alarm alid is_set) sound tt
    alarm-quiet (alarm_step.Changed enabled) alid is_set own e sound =
        (led-quiet plan TriedIs fits slots stood) (alarm_line alid is_set)
        (alarm_report_turn enabled alid (with_tables (alarm_after alid is_set own.tables) own) e)
        (one-note (Happening.Alarm alid is_set) tt) (go enabled)
      where
        changed : (Sound plan TriedIs fits slots stood) (with_tables (alarm_after alid is_set own.tables) own)
        changed = (kept plan TriedIs fits slots stood) own (with_tables (alarm_after alid is_set own.tables) own) sound refl refl refl refl refl refl

        go : (enabled : Bool) →
            (Quiet plan TriedIs fits slots stood) (alarm_report_turn enabled alid (with_tables (alarm_after alid is_set own.tables) own) e)
        go true =
            report-quiet sent.alarm_report can-alarm (alarm_item_of (alarm_after alid is_set own.tables) alid)
            (with_tables (alarm_after alid is_set own.tables) own) e changed
        go false = (nothing-quiet plan TriedIs fits slots stood) (with_tables (alarm_after alid is_set own.tables) own) changed

    attempt-quiet : (own : OwnView) (e : EndView Kind) → (Sound plan TriedIs fits slots stood) own → (Quiet plan TriedIs fits slots stood) (attempt_turn own e)
    attempt-quiet own e sound = go (is_crowded_out true e)
      where
        go : (crowded : Bool) → (Quiet plan TriedIs fits slots stood) (if crowded then
            fixed_turn (with_control (control_next own.control control_in.AttemptFailed) own)
            (Primary sent.online_request ∷ states.control_commands control_in.AttemptFailed own.control)
            else fixed_turn own (Primary sent.online_request ∷ []))
        go true =
            let lines =
            control-noted common-mild own.control.state (control_next own.control control_in.AttemptFailed).state in
            (fixed-quiet plan TriedIs fits slots stood) (with_control (control_next own.control control_in.AttemptFailed) own)
            (Primary sent.online_request ∷ states.control_commands control_in.AttemptFailed own.control)
            ((kept plan TriedIs fits slots stood) own (with_control (control_next own.control control_in.AttemptFailed) own) sound refl refl refl refl
            refl refl)
            ((tt, may-attempt), lines)
        go false = (fixed-quiet plan TriedIs fits slots stood) own (Primary sent.online_request ∷ []) sound
            ((tt, may-attempt), tt)

    attempted-quiet : (out : ControlOut) (own : OwnView) (e : EndView Kind) → (Sound plan TriedIs fits slots stood) own
        → (Quiet plan TriedIs fits slots stood) (attempted_turn out own e)
    attempted-quiet control_out.SendAttempt own e sound = attempt-quiet own e sound
    attempted-quiet control_out.Nothing own e sound = (nothing-quiet plan TriedIs fits slots stood) own sound
    attempted-quiet (control_out.Ack code) own e sound = (nothing-quiet plan TriedIs fits slots stood) own sound
    attempted-quiet control_out.Abort own e sound = (nothing-quiet plan TriedIs fits slots stood) own sound

    online-quiet : (own : OwnView) (e : EndView Kind) → (Sound plan TriedIs fits slots stood) own → (Quiet plan TriedIs fits slots stood) (online_turn own e)
    online-quiet own e sound =
        let rest = attempted-quiet (control_step own.control input).output
        (with_control (control_step own.control input).next own) e
        ((kept plan TriedIs fits slots stood) own (with_control (control_step own.control input).next own) sound refl refl refl refl refl refl) in
        record {
          quiet = (
            (λ f. control-noted common-mild own.control.state (control_step own.control input).next.state),
            rest.quiet,
          );
          sound = rest.sound;
        }
      where
        input : ControlIn
        input = control_in.Online (is_communicating own)

    set-quiet : (refusal : Option Setting) (vid : ℕ) (value : Item) (own : OwnView) → (Sound plan TriedIs fits slots stood) own
        → (Quiet plan TriedIs fits slots stood) (set_turn refusal vid value own)
    set-quiet (Some refusal) vid value own sound = (note-quiet plan TriedIs fits slots stood) own Happening.Refused sound tt
    set-quiet None vid value own sound =
        (note-quiet plan TriedIs fits slots stood) (with_tables (set_after vid value own.tables) own) (Happening.Set vid)
        ((kept plan TriedIs fits slots stood) own (with_tables (set_after vid value own.tables) own) sound refl refl refl refl refl refl) tt

    command-quiet : (command : ToolCommand) (now : ℕ) (own : OwnView) (e : EndView Kind) → (Sound plan TriedIs fits slots stood) own
        → (Quiet plan TriedIs fits slots stood) (command_turn command now own e)
    command-quiet (tool.Set vid value) now own e sound =
        set-quiet (refusal_of own.tables.vars vid value) vid value own sound
    command-quiet (tool.Event ceid) now own e sound =
        event-is-quiet (is_planned own.tables.reports ceid) ceid own e sound
    command-quiet (tool.Alarm alid is_set) now own e sound =
        alarm-quiet (step_of own.tables.alarms alid is_set) alid is_set own e sound
    command-quiet tool.Enable now own e sound = (comms-quiet plan TriedIs fits slots stood) comms_in.Enable now own sound
    command-quiet tool.Disable now own e sound = (leaving-quiet plan TriedIs fits slots stood) comms_in.Disable None now own e sound
    command-quiet tool.Online now own e sound = online-quiet own e sound
    command-quiet tool.Offline now own e sound = (control-quiet plan TriedIs fits slots stood) control_in.Offline own sound
    command-quiet tool.Local now own e sound = (control-quiet plan TriedIs fits slots stood) control_in.ToLocal own sound
    command-quiet tool.Remote now own e sound = (control-quiet plan TriedIs fits slots stood) control_in.ToRemote own sound
    command-quiet (tool.Terminal tid text) now own e sound =
        report-quiet sent.terminal_report can-text (sent.terminal_item tid text) own e sound

    pub told-quiet : (command : ToolCommand) (now : ℕ) (own : OwnView) (e : EndView Kind) → (Sound plan TriedIs fits slots stood) own
        → (Quiet plan TriedIs fits slots stood) (told_turn command now own e)
    told-quiet command now own e sound =
        (led-quiet plan TriedIs fits slots stood) (Note (Happening.Recorded (Past.Commanded command))) (command_turn command now own e)
        (one-note (Happening.Recorded (Past.Commanded command)) tt) (command-quiet command now own e sound)

    -- ---- a step

    pub beginning-quiet : (now : ℕ) (own : OwnView) (e : EndView Kind) → (Sound plan TriedIs fits slots stood) own → (Quiet plan TriedIs fits slots stood) (beginning now own e)
    beginning-quiet now own e sound = go (own.has_begun || not own.plan.enable)
      where
        started-sound : (Sound plan TriedIs fits slots stood) (begun own)
        started-sound = (kept plan TriedIs fits slots stood) own (begun own) sound refl refl refl refl refl refl

        go : (over : Bool) → (Quiet plan TriedIs fits slots stood) (if over then quiet_turn (begun own)
            else states.comms_turn comms_in.Enable now (begun own))
        go true = (nothing-quiet plan TriedIs fits slots stood) (begun own) started-sound
        go false = (comms-quiet plan TriedIs fits slots stood) comms_in.Enable now (begun own) started-sound

    pub t3-quiet : (now : ℕ) (own : OwnView) (e : EndView Kind) → (Sound plan TriedIs fits slots stood) own → (Quiet plan TriedIs fits slots stood) (reply_timer now own e)
    t3-quiet now own e sound =
        (led-quiet plan TriedIs fits slots stood) (Expire now) (timeout_turn now (due_now e now) own (core_after (Expire now) e))
        ((tt, tt), tt)
        ((timeout-quiet plan TriedIs fits slots stood) now (due_now e now) own (core_after (Expire now) e) sound)
