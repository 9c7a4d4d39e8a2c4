-- Turns on errors, replies and requests keep what is kept sound.
use Rattle.std.proofs.Common.{refl, arith, Bool, true, false, not, ℕ, ◌==◌, ◌&&◌, List, [], ◌∷◌, length, Option, Some, None, if◌then◌else◌}
use Rattle.std.specs.Option.{option_map}
use Rattle.std.specs.Prelude.{IfSome}
use Rattle.block_codec.specs.declared.header.Header.{Header}
use Rattle.gem_shapes.specs.Answers.{code_item}
use Rattle.gem_shapes.specs.Primaries.{is_known}
use Rattle.gem_shapes.specs.declared.request.Request.{Request}
use Rattle.gem_shapes.specs.declared.request.Request.TheVariants as request
use Rattle.gem_shapes.specs.declared.request.TablesRequest.{TablesRequest}
use Rattle.gem_states.specs.Control.{control_step}
use Rattle.gem_states.specs.declared.comms.CommsIn.TheVariants as comms_in
use Rattle.gem_states.specs.declared.control.ControlIn.{ControlIn}
use Rattle.gem_states.specs.declared.control.ControlIn.TheVariants as control_in
use Rattle.gem_states.specs.declared.control.ControlOut.{ControlOut}
use Rattle.gem_states.specs.declared.control.ControlOut.TheVariants as control_out
use Rattle.gem_trace.specs.declared.request.TraceRequest.{TraceRequest}
use Rattle.message_flow.specs.declared.message.Message.{Message}
use Rattle.message_flow.specs.Message.{is_primary}
use Rattle.trace_log.specs.Log.{Happening, Past}
use Rattle.trace_log.specs.Names.{Spooled, message_name}
use Rattle.transact.specs.declared.transactions.Match.{Match}
use Rattle.transact.specs.declared.transactions.Match.TheVariants as match
use Rattle.transact.specs.Numbers.{next_number}
use Rattle.transact.specs.Transactions.{match_of, primary_of as primary_with_kind}
use Rattle.message_end.specs.Calls.{answered_by}
use Rattle.message_end.specs.Core.{EndView, IsText, is_crowded_out}
use Rattle.message_end.specs.Core.Command.{Answer, Draw, DrawnPrimary, GiveUp, Note, Primary, Remove}
use Rattle.message_end.specs.Parts.{core_after, leads}
use Rattle.equipment_tables.specs.declared.answers.Answer.{Answer as Text}
use Rattle.equipment_tables.specs.declared.answers.Answer.TheVariants as text
use Rattle.tool_step.specs.declared.kind.Kind.{Kind}
use Rattle.tool_step.specs.declared.kind.Kind.TheVariants as kind
use Rattle.equipment_tables.specs.declared.plan.EquipmentPlan.{EquipmentPlan}
use Rattle.equipment_tables.specs.Answers.{answer_of, established_of, lines_of, reply_to}
use Rattle.tool_step.specs.Codes.{is_accepted_in, is_granted_in}
use Rattle.setup_store.specs.Entries.{Entry, bytes_of, has_room}
use Rattle.tool_step.specs.declared.owed.Owed.{Owed}
use Rattle.tool_step.specs.declared.owed.Owed.TheVariants.{Answered, Keep, Recipes as OfRecipes}
use Rattle.tool_step.specs.Setup.{accepted_item, has_space_code, next_setup, no_space}
use Rattle.tool_step.specs.Step.{answering, owed_turn}
use Rattle.tool_step.specs.Recipes.{asked_of, recipes_text, takes_stream}
use Rattle.tool_step.specs.Own.{OwnView, ToolTurn, event_report, is_communicating, is_enabled_in as is_comms_enabled, is_local, is_online, turn_before, turn_of, unowed, waiting_report, waiting_data, with_control, with_ledger, with_tables, with_tried, without_grant, without_report, without_waiting_data}
use Rattle.tool_step.specs.Messages.{answer_turn, control_answer_duties, control_request_turn, dropped_turn, error_turn, established_duties, established_turn, is_establish_request, heard_turn, is_online_request, keep_turn, kept_turn, known_turn, message_turn, offline_turn, primary_turn, read_turn, recorded_turn, request_turn, stray_turn, unkept_duties}
use Rattle.equipment_tables.specs.Plan.{EquipmentPlanFits}
use Rattle.tool_step.specs.Replies.{given_up_by_t4, given_up_turn, granted_turn, loss_turn, matched_turn, reply_turn, secondary_turn, timeout_turn}
use Rattle.equipment_tables.specs.Requests.{request_of}
use Rattle.tool_step.specs.Sampling.{granted_trace_turn, tiaack_code, tiaack_in, trace_name, trace_turn}
use Rattle.tool_step.specs.Sent as sent
use Rattle.tool_law.specs.Sound.{CanBeSent}
use Rattle.tool_step.specs.Spooling.{booked_turn, dataid_in, end_of_spooling, grant_given_turn, inquiry_turn, let_go_turn, needs_grant, purge_turn, rsda_duties, sent_turn, stopped_turn, taking_turn, transmit_turn, tried_turn, unload_part, unload_request, unloaded, unloaded_own, unloading_turn, waiting_text}
use Rattle.tool_law.proofs.SpoolSound.{All-snoc, all-out-good, confirmed-good, let-go-good, next-good, rested-good, taken-good, unload-good}
use Rattle.tool_step.specs.States as states
use Rattle.equipment_tables.specs.Tables.{most_transmitted, tables_after}
use Rattle.spool_ledger.specs.Activity.{rested, rsda_of}
use Rattle.spool_ledger.specs.Ledger.{Numbered}
use Rattle.spool_ledger.specs.Storing.{all_out}
use Rattle.spool_ledger.specs.Unloading.{after_next, confirmed, fresh, let_go, next_number as next_unloaded, taken_up, waiting_in, with_each, with_unload}
use Rattle.tool_step.specs.Live.{ReportView}
use Rattle.tool_law.proofs.CommandWalks.{Does, abort-are, are-both, control-noted, long-are, own-requests-are}
use Rattle.tool_law.proofs.TriedSteps.{IsMild, IsMildCommand}
use Rattle.tool_law.proofs.MildCommands.{IsSpelled, one-note, sent-quiet, may-report, may-unload, may-ask-unload, can-event, common-mild, IsOdd, may-tell, body-quiet, lines-plain, lines-quiet}
use Rattle.tool_law.proofs.QuietSamples.{granted-trace-quiet, waiting-trace-is}
use Rattle.tool_law.proofs.QuietTurns.{Sound, Quiet, AreQuiet, answer-is, recipes-quiet, text-is, kept, ungranted, unreported, untraced, booked-sound, unloaded-sound, waiting-can, kept-or-ended, fixed-quiet, nothing-quiet, note-quiet, led-quiet, before-quiet, booked-quiet, comms-quiet, control-quiet, leaving-quiet}

module _ (plan : EquipmentPlan) (TriedIs : Option ℕ → Type 0) (fits : EquipmentPlanFits plan) (slots : ℕ)
    (stood : Numbered)
  where
    -- ---- errors and answers

    pub error-quiet :
        (function : ℕ) → IsOdd function → (header : Header) (own : OwnView) → (Sound plan TriedIs fits slots stood) own → (e : EndView Kind)
        → IsMild (sent.error_duty function header own e)
    error-quiet function odd header own sound e = go (is_communicating own) (sent.has_room e)
      where
        body : Text
        body = sent.text_of own (sent.error_item header)

        go : (communicating room : Bool)
            → IsMild (if communicating then (if room then sent.primary_commands (sent.error_primary function) body
            else Note (Happening.Full (sent.error_name function)) ∷ []) else [])
        go true true = sent-quiet (sent.error_primary function) (may-tell function odd) body
            ((text-is plan TriedIs fits slots stood) own sound (sent.error_item header))
        go true false = one-note (Happening.Full (sent.error_name function)) tt
        go false room = tt

    errors-quiet :
        (function : ℕ) → IsOdd function → (header : Header) (own : OwnView) → (Sound plan TriedIs fits slots stood) own
        → (AreQuiet plan TriedIs fits slots stood) (sent.error_duty function header own ∷ [])
    errors-quiet function odd header own sound = ((λ e. error-quiet function odd header own sound e), tt)

    answers-quiet : (answer : Text) → IsSpelled answer → (message : Message)
        → (AreQuiet plan TriedIs fits slots stood) (sent.answer_duties answer message)
    answers-quiet (text.Body body) is message = ((λ e. body-quiet body message e is), tt)
    answers-quiet text.TooLong is message = long-are common-mild message

    -- ---- what comes of the equipment's own transactions

    odd-nine : IsOdd 9
    odd-nine = record { byte = omega arith; odd = refl }

    loss-is-quiet :
        (now : ℕ) (lost : Kind) (system : ℕ) (own : OwnView) (e : EndView Kind) → (Sound plan TriedIs fits slots stood) own
        → (Quiet plan TriedIs fits slots stood) (loss_turn now lost system own e)
    loss-is-quiet now kind.Establish system own e sound = (leaving-quiet plan TriedIs fits slots stood) comms_in.Denied None now own e sound
    loss-is-quiet now kind.Attempt system own e sound = (control-quiet plan TriedIs fits slots stood) control_in.AttemptFailed own sound
    loss-is-quiet now kind.Grant system own e sound =
        (note-quiet plan TriedIs fits slots stood) (without_grant system own) (Happening.Denied states.event_name) ((ungranted plan TriedIs fits slots stood) own system sound) tt
    loss-is-quiet now kind.Report system own e sound =
        (nothing-quiet plan TriedIs fits slots stood) (without_report system own) ((unreported plan TriedIs fits slots stood) own system sound)
    loss-is-quiet now kind.Unload system own e sound = (nothing-quiet plan TriedIs fits slots stood) (unloaded_own own) ((unloaded-sound plan TriedIs fits slots stood) own sound)
    loss-is-quiet now kind.UnloadGrant system own e sound =
        (note-quiet plan TriedIs fits slots stood) (unloaded_own own) (Happening.Denied states.event_name) ((unloaded-sound plan TriedIs fits slots stood) own sound) tt
    loss-is-quiet now kind.Trace system own e sound = (nothing-quiet plan TriedIs fits slots stood) own sound
    loss-is-quiet now kind.TraceGrant system own e sound =
        (note-quiet plan TriedIs fits slots stood) (without_waiting_data system own) (Happening.Denied trace_name)
        ((untraced plan TriedIs fits slots stood) own system sound) tt

    pub timeout-quiet :
        (now : ℕ) (primary : Option (Header × Kind)) (own : OwnView) (e : EndView Kind) → (Sound plan TriedIs fits slots stood) own
        → (Quiet plan TriedIs fits slots stood) (timeout_turn now primary own e)
    timeout-quiet now None own e sound = (nothing-quiet plan TriedIs fits slots stood) own sound
    timeout-quiet now (Some primary) own e sound =
        let lost = loss-is-quiet now primary.1 primary.0.system own e sound in
        (before-quiet plan TriedIs fits slots stood) (sent.error_duty 9 primary.0 (loss_turn now primary.1 primary.0.system own e).own ∷ [])
        (loss_turn now primary.1 primary.0.system own e)
        (errors-quiet 9 odd-nine primary.0 (loss_turn now primary.1 primary.0.system own e).own lost.sound) lost

    pub given-up-quiet :
        (now : ℕ) (header : Header) (own : OwnView) (e : EndView Kind) → (Sound plan TriedIs fits slots stood) own
        → (Quiet plan TriedIs fits slots stood) (given_up_turn now header own e)
    given-up-quiet now header own e sound =
        (led-quiet plan TriedIs fits slots stood) (GiveUp header) (timeout_turn now (option_map primary_with_kind (answered_by e header)) own
        (core_after (GiveUp header) e))
        ((tt, tt), tt)
        (timeout-quiet now (option_map primary_with_kind (answered_by e header)) own
        (core_after (GiveUp header) e) sound)

    pub by-t4-quiet :
        (now : ℕ) (dropped : Option Header) (own : OwnView) (e : EndView Kind) → (Sound plan TriedIs fits slots stood) own
        → (Quiet plan TriedIs fits slots stood) (given_up_by_t4 now dropped own e)
    by-t4-quiet now None own e sound = (nothing-quiet plan TriedIs fits slots stood) own sound
    by-t4-quiet now (Some header) own e sound = given-up-quiet now header own e sound

    -- ---- reports that go

    live-sound :
        (message : Spooled) → CanBeSent message → (own : OwnView) (e : EndView Kind) → (Sound plan TriedIs fits slots stood) own
        → (Sound plan TriedIs fits slots stood) (sent.live_own message own e)
    live-sound message can own e sound = go (is_crowded_out true e) (next_number e.numbers)
      where
        go : (crowded : Bool) (next : Option ℕ)
            → (Sound plan TriedIs fits slots stood) (if crowded then own else sent.kept_report next message own)
        go true next = sound
        go false None = sound
        go false (Some system) = record {
          plan_is = sound.plan_is;
          texts = sound.texts;
          traced = sound.traced;
          reports =
              All-snoc (λ (one : ReportView). CanBeSent one.message) own.reports
              (record { system = system; message = message }) sound.reports can;
          ledger = sound.ledger;
          tried_is = sound.tried_is;
        }

    pub going-quiet :
        (message : Spooled) → CanBeSent message → (own : OwnView) (e : EndView Kind) → (Sound plan TriedIs fits slots stood) own
        → (Quiet plan TriedIs fits slots stood) (sent.going_turn message own e)
    going-quiet message can own e sound =
        (fixed-quiet plan TriedIs fits slots stood) (sent.live_own message own e) (Primary (sent.live_report message) ∷ [])
        (live-sound message can own e sound)
        ((tt, may-report message can), tt)

    -- ---- messages of the spool

    unloading-quiet :
        (message : Spooled) → CanBeSent message → (own : OwnView) (e : EndView Kind) → (Sound plan TriedIs fits slots stood) own
        → (Quiet plan TriedIs fits slots stood) (unloading_turn message own e)
    unloading-quiet message can own e sound =
        (fixed-quiet plan TriedIs fits slots stood) (if is_crowded_out true e then unloaded_own own else own) (DrawnPrimary (unloaded message) ∷ [])
        ((kept-or-ended plan TriedIs fits slots stood) (is_crowded_out true e) own sound)
        ((tt, may-unload message can), tt)

    leave-quiet :
        (asked : Text) → IsSpelled asked → (own : OwnView) (e : EndView Kind) → (Sound plan TriedIs fits slots stood) own
        → (Quiet plan TriedIs fits slots stood) (inquiry_turn asked own e)
    leave-quiet (text.Body asked) is own e sound =
        (fixed-quiet plan TriedIs fits slots stood) (if is_crowded_out true e then unloaded_own own else own) (Primary (unload_request asked) ∷ [])
        ((kept-or-ended plan TriedIs fits slots stood) (is_crowded_out true e) own sound)
        ((tt, may-ask-unload asked is), tt)
    leave-quiet text.TooLong is own e sound = (nothing-quiet plan TriedIs fits slots stood) (unloaded_own own) ((unloaded-sound plan TriedIs fits slots stood) own sound)

    pub out-quiet :
        (message : Spooled) → CanBeSent message → (own : OwnView) (e : EndView Kind) → (Sound plan TriedIs fits slots stood) own
        → (Quiet plan TriedIs fits slots stood) (sent_turn message own e)
    out-quiet message can own e sound = go (needs_grant message)
      where
        asked : Text
        asked = sent.text_of own (sent.grant_item (dataid_in message.body) (length message.body))

        go : (needs : Bool) → (Quiet plan TriedIs fits slots stood) (if needs then inquiry_turn asked own e else unloading_turn message own e)
        go true =
            leave-quiet asked ((text-is plan TriedIs fits slots stood) own sound (sent.grant_item (dataid_in message.body) (length message.body))) own e
            sound
        go false = unloading-quiet message can own e sound

    pub waiting-is : (message : Spooled) → CanBeSent message → IfSome (waiting_text message) IsText
    waiting-is message can = go (needs_grant message)
      where
        go : (needs : Bool) → IfSome (if needs then Some message.body else None) IsText
        go true = can.body
        go false = tt

    -- ---- what is (kept plan TriedIs fits slots stood) of an unload that goes on

    taken-held :
        (number system : ℕ) (message : Spooled) → CanBeSent message → (own : OwnView) → (Sound plan TriedIs fits slots stood) own
        → TriedIs (Some system)
        → (Sound plan TriedIs fits slots stood)
        (with_tried system (with_ledger (taken_up number system (waiting_text message) own.ledger).next own))
    taken-held number system message can own sound is = record {
      plan_is = sound.plan_is;
      texts = sound.texts;
      traced = sound.traced;
      reports = sound.reports;
      ledger = taken-good number system (waiting_text message) own.ledger (waiting-is message can) sound.ledger;
      tried_is = is;
    }

    pub next-held : (own : OwnView) → (Sound plan TriedIs fits slots stood) own → (Sound plan TriedIs fits slots stood)
        (with_ledger (after_next (most_transmitted own.tables) own.ledger) own)
    next-held own sound =
        (booked-sound plan TriedIs fits slots stood) own (after_next (most_transmitted own.tables) own.ledger) sound
        (next-good (most_transmitted own.tables) own.ledger sound.ledger)

    module _ (any : (system : ℕ) → TriedIs (Some system)) where
      tried-held :
          (drawn : Option ℕ) (number : ℕ) (message : Spooled) → CanBeSent message → (own : OwnView) (e : EndView Kind)
          → (Sound plan TriedIs fits slots stood) own → (Sound plan TriedIs fits slots stood) (tried_turn drawn number message own e).own
      tried-held None number message can own e sound = sound
      tried-held (Some system) number message can own e sound =
          (out-quiet message can
          (with_tried system (with_ledger (taken_up number system (waiting_text message) own.ledger).next own)) e
          (taken-held number system message can own sound (any system))).sound

      pub taking-held :
          (number : Option ℕ) (oldest : Option Spooled) → IfSome oldest CanBeSent → (own : OwnView) (e : EndView Kind)
          → (Sound plan TriedIs fits slots stood) own → (Sound plan TriedIs fits slots stood) (taking_turn number oldest own e).own
      taking-held None oldest can own e sound = sound
      taking-held (Some number) None can own e sound = sound
      taking-held (Some number) (Some message) can own e sound = go own.tried
        where
          go : (last : Option ℕ)
              → (Sound plan TriedIs fits slots stood)
              (stopped_turn last
              (λ later. leads Draw (tried_turn (next_number later.numbers) number message own) later) e).own
          go None = tried-held (next_number e.numbers) number message can own (core_after Draw e) sound
          go (Some last) =
              tried-held (next_number (core_after (Remove true last) e).numbers) number message can own
              (core_after Draw (core_after (Remove true last) e)) sound

      pub unload-held :
          (oldest : Option Spooled) → IfSome oldest CanBeSent → (own : OwnView) (e : EndView Kind) → (Sound plan TriedIs fits slots stood) own
          → (Sound plan TriedIs fits slots stood) (unload_part oldest own e).own
      unload-held oldest can own e sound =
          taking-held (next_unloaded (most_transmitted own.tables) own.ledger) oldest can
          (with_ledger (after_next (most_transmitted own.tables) own.ledger) own) e (next-held own sound)

    pub ended-quiet : (own : OwnView) (e : EndView Kind) → (Sound plan TriedIs fits slots stood) own → (Quiet plan TriedIs fits slots stood) (end_of_spooling own e)
    ended-quiet own e sound =
        (booked-quiet plan TriedIs fits slots stood) (rested (is_communicating own) own.ledger) own sound
        (rested-good (is_communicating own) own.ledger sound.ledger)

    let-go-quiet :
        (waiting : Option (List ℕ)) → IfSome waiting IsText → (own : OwnView) (e : EndView Kind) → (Sound plan TriedIs fits slots stood) own
        → (Quiet plan TriedIs fits slots stood) (let_go_turn waiting own e)
    let-go-quiet None is own e sound = (nothing-quiet plan TriedIs fits slots stood) own sound
    let-go-quiet (Some body) is own e sound =
        unloading-quiet (event_report body) (can-event body is) (with_ledger (with_each let_go own.ledger) own) e
        ((booked-sound plan TriedIs fits slots stood) own (with_each let_go own.ledger) sound (let-go-good own.ledger sound.ledger))

    -- ---- replies

    granted-quiet :
        (message : Option Spooled) → IfSome message CanBeSent → (own : OwnView) (e : EndView Kind) → (Sound plan TriedIs fits slots stood) own
        → (Quiet plan TriedIs fits slots stood) (granted_turn message own e)
    granted-quiet None can own e sound = (nothing-quiet plan TriedIs fits slots stood) own sound
    granted-quiet (Some message) can own e sound = going-quiet message can own e sound

    reply-is-quiet :
        (now : ℕ) (kind : Kind) (system : ℕ) (body : List ℕ) (own : OwnView) (e : EndView Kind) → (Sound plan TriedIs fits slots stood) own
        → (Quiet plan TriedIs fits slots stood) (reply_turn now kind system body own e)
    reply-is-quiet now kind.Establish system body own e sound = go (is_accepted_in body)
      where
        go : (accepted : Bool)
            → (Quiet plan TriedIs fits slots stood) (if accepted then states.comms_turn comms_in.Accepted now own
            else loss_turn now kind.Establish system own e)
        go true = (comms-quiet plan TriedIs fits slots stood) comms_in.Accepted now own sound
        go false = loss-is-quiet now kind.Establish system own e sound
    reply-is-quiet now kind.Attempt system body own e sound = (control-quiet plan TriedIs fits slots stood) control_in.AttemptDone own sound
    reply-is-quiet now kind.Grant system body own e sound = go (is_granted_in body)
      where
        go : (granted : Bool)
            → (Quiet plan TriedIs fits slots stood) (if granted then granted_turn (waiting_report system own) (without_grant system own) e
            else loss_turn now kind.Grant system own e)
        go true =
            granted-quiet (waiting_report system own) ((waiting-can plan TriedIs fits slots stood) own system sound) (without_grant system own) e
            ((ungranted plan TriedIs fits slots stood) own system sound)
        go false = loss-is-quiet now kind.Grant system own e sound
    reply-is-quiet now kind.Report system body own e sound =
        (nothing-quiet plan TriedIs fits slots stood) (without_report system own) ((unreported plan TriedIs fits slots stood) own system sound)
    reply-is-quiet now kind.Unload system body own e sound =
        (booked-quiet plan TriedIs fits slots stood) (confirmed own.ledger) own sound (confirmed-good own.ledger sound.ledger)
    reply-is-quiet now kind.UnloadGrant system body own e sound = go (is_granted_in body)
      where
        go : (granted : Bool)
            → (Quiet plan TriedIs fits slots stood) (if granted then grant_given_turn own e else loss_turn now kind.UnloadGrant system own e)
        go true = let-go-quiet (waiting_in own.ledger.unload) sound.ledger.waiting own e sound
        go false = loss-is-quiet now kind.UnloadGrant system own e sound
    reply-is-quiet now kind.Trace system body own e sound = (nothing-quiet plan TriedIs fits slots stood) own sound
    reply-is-quiet now kind.TraceGrant system body own e sound = go (is_granted_in body)
      where
        go : (granted : Bool)
            → (Quiet plan TriedIs fits slots stood)
            (if granted then granted_trace_turn (waiting_data system own) (without_waiting_data system own)
            else loss_turn now kind.TraceGrant system own e)
        go true =
            (granted-trace-quiet plan TriedIs fits slots stood) (waiting_data system own)
            ((waiting-trace-is plan TriedIs fits slots stood) own system sound) (without_waiting_data system own)
            ((untraced plan TriedIs fits slots stood) own system sound)
        go false = loss-is-quiet now kind.TraceGrant system own e sound

    matched-quiet :
        (now : ℕ) (found : Match Kind) (message : Message) (own : OwnView) (e : EndView Kind) → (Sound plan TriedIs fits slots stood) own
        → (Quiet plan TriedIs fits slots stood) (matched_turn now found message own e)
    matched-quiet now (match.Reply kind) message own e sound =
        reply-is-quiet now kind message.system message.body own e sound
    matched-quiet now (match.Abort kind) message own e sound = loss-is-quiet now kind message.system own e sound
    matched-quiet now match.Stranger message own e sound = (nothing-quiet plan TriedIs fits slots stood) own sound

    secondary-quiet :
        (now : ℕ) (header : Header) (message : Message) (own : OwnView) (e : EndView Kind) → (Sound plan TriedIs fits slots stood) own
        → (Quiet plan TriedIs fits slots stood) (secondary_turn now header message own e)
    secondary-quiet now header message own e sound =
        (led-quiet plan TriedIs fits slots stood) (Answer header) (matched_turn now (match_of header (answered_by e header)) message own
        (core_after (Answer header) e))
        ((tt, tt), tt)
        (matched-quiet now (match_of header (answered_by e header)) message own (core_after (Answer header) e) sound)

    -- ---- requests

    established-quiet :
        (now : ℕ) (message : Message) (own : OwnView) → (Sound plan TriedIs fits slots stood) own → (Quiet plan TriedIs fits slots stood) (established_turn now message own)
    established-quiet now message own sound =
        let greeted = (comms-quiet plan TriedIs fits slots stood) comms_in.HostRequest now own sound in
        record {
          quiet = (
            (λ e. own-requests-are common-mild e.transactions.begun),
            are-both (Does IsMildCommand) (states.comms_turn comms_in.HostRequest now own).duties
                (established_duties message own)
                greeted.quiet
                (answers-quiet (sent.text_of own (established_of own.tables))
                ((text-is plan TriedIs fits slots stood) own sound (established_of own.tables)) message),
          );
          sound = greeted.sound;
        }

    abort-is-quiet : (message : Message) → (AreQuiet plan TriedIs fits slots stood) (sent.abort_duty message ∷ [])
    abort-is-quiet message = abort-are common-mild message

    control-answer-quiet :
        (out : ControlOut) (message : Message) (own : OwnView) → (Sound plan TriedIs fits slots stood) own
        → (AreQuiet plan TriedIs fits slots stood) (control_answer_duties out message own)
    control-answer-quiet (control_out.Ack code) message own sound =
        answers-quiet (sent.text_of own (code_item code)) ((text-is plan TriedIs fits slots stood) own sound (code_item code)) message
    control-answer-quiet control_out.Abort message own sound = abort-is-quiet message
    control-answer-quiet control_out.Nothing message own sound = tt
    control-answer-quiet control_out.SendAttempt message own sound = tt

    control-request-quiet :
        (input : ControlIn) (message : Message) (own : OwnView) → (Sound plan TriedIs fits slots stood) own
        → (Quiet plan TriedIs fits slots stood) (control_request_turn input message own)
    control-request-quiet input message own sound = record {
      quiet = (
        (λ e. control-noted common-mild own.control.state (control_step own.control input).next.state),
        control-answer-quiet (control_step own.control input).output message own sound,
      );
      sound = (kept plan TriedIs fits slots stood) own (with_control (control_step own.control input).next own) sound refl refl refl refl refl refl;
    }

    answer-quiet : (request : TablesRequest) (message : Message) (own : OwnView) → (Sound plan TriedIs fits slots stood) own
        → (Quiet plan TriedIs fits slots stood) (answer_turn request message own)
    answer-quiet request message own sound = record {
      quiet = (
        (λ e. lines-quiet (lines_of own.tables (is_local own) request)
            (lines-plain own.tables (is_local own) request)),
        answers-quiet (answer_of own.tables (is_local own) own.plan.line.max_body request)
            ((text-is plan TriedIs fits slots stood) own sound (reply_to own.tables (is_local own) request))
            message,
      );
      sound = (kept plan TriedIs fits slots stood) own (with_tables (tables_after request own.tables) own) sound refl refl refl refl refl refl;
    }

    -- what S6F23 is answered
    rsda-quiet : (message : Message) (own : OwnView) → (Sound plan TriedIs fits slots stood) own → (AreQuiet plan TriedIs fits slots stood) (rsda_duties message own)
    rsda-quiet message own sound =
        answers-quiet (sent.text_of own (code_item (rsda_of own.ledger)))
        ((text-is plan TriedIs fits slots stood) own sound (code_item (rsda_of own.ledger))) message

    transmit-quiet : (message : Message) (own : OwnView) → (Sound plan TriedIs fits slots stood) own → (Quiet plan TriedIs fits slots stood) (transmit_turn message own)
    transmit-quiet message own sound = go (rsda_of own.ledger == 0)
      where
        begins : OwnView
        begins = with_ledger (with_unload (Some fresh) own.ledger) own

        go : (may : Bool)
            → (Quiet plan TriedIs fits slots stood) (if may then turn_of begins (rsda_duties message own) else turn_of own (rsda_duties message own))
        go true = record {
          quiet = rsda-quiet message own sound;
          sound =
              (booked-sound plan TriedIs fits slots stood) own (with_unload (Some fresh) own.ledger) sound
              (unload-good (Some fresh) own.ledger tt sound.ledger);
        }
        go false = record { quiet = rsda-quiet message own sound; sound = sound }

    purge-quiet : (message : Message) (own : OwnView) → (Sound plan TriedIs fits slots stood) own → (Quiet plan TriedIs fits slots stood) (purge_turn message own)
    purge-quiet message own sound = go (rsda_of own.ledger == 0)
      where
        go : (may : Bool)
            → (Quiet plan TriedIs fits slots stood) (if may then turn_before (rsda_duties message own) (booked_turn (all_out own.ledger) own)
            else turn_of own (rsda_duties message own))
        go true =
            (before-quiet plan TriedIs fits slots stood) (rsda_duties message own) (booked_turn (all_out own.ledger) own) (rsda-quiet message own sound)
            ((booked-quiet plan TriedIs fits slots stood) (all_out own.ledger) own sound (all-out-good own.ledger sound.ledger))
        go false = record { quiet = rsda-quiet message own sound; sound = sound }

    trace-request-quiet : (asked : TraceRequest) (now : ℕ) (message : Message) (own : OwnView)
        → (Sound plan TriedIs fits slots stood) own → (Quiet plan TriedIs fits slots stood) (trace_turn asked now message own)
    trace-request-quiet asked now message own sound =
        let code = code_item (tiaack_code (tiaack_in asked own)) in
        record {
          quiet =
              answers-quiet (sent.text_of own code) ((text-is plan TriedIs fits slots stood) own sound code) message;
          sound = (kept plan TriedIs fits slots stood) own (trace_turn asked now message own).own sound refl refl refl refl refl
              refl;
        }

    request-is-quiet : (request : Request) (now : ℕ) (message : Message) (own : OwnView)
        → (Sound plan TriedIs fits slots stood) own
        → (Quiet plan TriedIs fits slots stood) (request_turn request now message own)
    request-is-quiet (request.OfTables asked) now message own sound = answer-quiet asked message own sound
    request-is-quiet (request.OfRecipes asked) now message own sound =
        (recipes-quiet plan TriedIs fits slots stood) (asked_of asked) message own sound
    request-is-quiet request.GoOffline now message own sound =
        control-request-quiet control_in.RequestOffline message own sound
    request-is-quiet request.GoOnline now message own sound =
        control-request-quiet control_in.RequestOnline message own sound
    request-is-quiet request.Establish now message own sound =
        record { quiet = abort-is-quiet message; sound = sound }
    request-is-quiet request.TransmitSpool now message own sound = transmit-quiet message own sound
    request-is-quiet request.PurgeSpool now message own sound = purge-quiet message own sound
    request-is-quiet (request.Trace trid dsper total group svids) now message own sound =
        trace-request-quiet
        (record { trid = trid; dsper = dsper; total = total; group = group; svids = svids }) now message own sound

    -- an error of stream 9
    pub error-is-quiet :
        (function : ℕ) → IsOdd function → (header : Header) (own : OwnView) → (Sound plan TriedIs fits slots stood) own
        → (Quiet plan TriedIs fits slots stood) (error_turn function header own)
    error-is-quiet function odd header own sound =
        record { quiet = errors-quiet function odd header own sound; sound = sound }

    read-quiet :
        (now : ℕ) (read : Option Request) (header : Header) (message : Message) (own : OwnView) → (Sound plan TriedIs fits slots stood) own
        → (Quiet plan TriedIs fits slots stood) (read_turn now read header message own)
    read-quiet now None header message own sound =
        error-is-quiet 7 (record { byte = omega arith; odd = refl }) header own sound
    read-quiet now (Some request) header message own sound = heard (next_setup request message own)
      where
        counts : (turn : ToolTurn) → (Quiet plan TriedIs fits slots stood) turn
            → (Quiet plan TriedIs fits slots stood) (recorded_turn message turn)
        counts turn is =
            (led-quiet plan TriedIs fits slots stood) (Note (Happening.Recorded (Past.Asked message))) turn
            (one-note (Happening.Recorded (Past.Asked message)) tt) is

        unkept : (coded : Bool) → (AreQuiet plan TriedIs fits slots stood) (unkept_duties coded message own)
        unkept true =
            answers-quiet (sent.text_of own (code_item no_space))
            ((text-is plan TriedIs fits slots stood) own sound (code_item no_space)) message
        unkept false = abort-is-quiet message

        by_room : (list : List Entry) (room : Bool)
            → (Quiet plan TriedIs fits slots stood) (kept_turn room list request message own)
        by_room list true =
            counts (keep_turn list request message own)
            ((fixed-quiet plan TriedIs fits slots stood) (keep_turn list request message own).own
            (Note (Happening.Keeping message) ∷ Note (Happening.Kept message) ∷ [])
            ((kept plan TriedIs fits slots stood) own (keep_turn list request message own).own sound refl refl refl refl
            refl refl)
            ((one-note (Happening.Keeping message) tt).0, one-note (Happening.Kept message) tt))
        by_room list false = record { quiet = unkept (has_space_code message); sound = sound }

        heard : (list : Option (List Entry))
            → (Quiet plan TriedIs fits slots stood) (heard_turn list now request message own)
        heard None = counts (request_turn request now message own) (request-is-quiet request now message own sound)
        heard (Some list) = by_room list (has_room (bytes_of list))

    -- what waits for the works of a step is answered
    pub answering-quiet : (own : OwnView) (e : EndView Kind) → (Sound plan TriedIs fits slots stood) own
        → (Quiet plan TriedIs fits slots stood) (answering own e)
    answering-quiet own e sound = go own.owed
      where
        held : (Sound plan TriedIs fits slots stood) (unowed own)
        held = (kept plan TriedIs fits slots stood) own (unowed own) sound refl refl refl refl refl refl

        go : (owed : Option Owed) → (Quiet plan TriedIs fits slots stood) (owed_turn owed (unowed own))
        go None = record { quiet = tt; sound = held }
        go (Some (OfRecipes asked primary)) = record { quiet = tt; sound = held }
        go (Some (Answered answer primary)) = record {
          quiet =
              answers-quiet (recipes_text (unowed own) answer)
              ((answer-is plan TriedIs fits slots stood) (unowed own) held answer) primary;
          sound = held;
        }
        go (Some (Keep primary)) = record {
          quiet =
              answers-quiet (sent.text_of (unowed own) (accepted_item primary))
              ((text-is plan TriedIs fits slots stood) (unowed own) held (accepted_item primary)) primary;
          sound = held;
        }

    known-quiet : (now : ℕ) (header : Header) (message : Message) (own : OwnView) → (Sound plan TriedIs fits slots stood) own
        → (Quiet plan TriedIs fits slots stood) (known_turn now header message own)
    known-quiet now header message own sound =
        go (not (takes_stream own message.stream)) (not (is_known message.stream message.function))
      where
        read : Option Request
        read = request_of message.stream message.function message.body

        go : (strange unknown : Bool)
            → (Quiet plan TriedIs fits slots stood) (if strange then error_turn 3 header own else if unknown then error_turn 5 header own
            else read_turn now read header message own)
        go true unknown = error-is-quiet 3 (record { byte = omega arith; odd = refl }) header own sound
        go false true = error-is-quiet 5 (record { byte = omega arith; odd = refl }) header own sound
        go false false = read-quiet now read header message own sound

    dropped-quiet : (message : Message) (own : OwnView) → (Sound plan TriedIs fits slots stood) own → (Quiet plan TriedIs fits slots stood) (dropped_turn message own)
    dropped-quiet message own sound = (note-quiet plan TriedIs fits slots stood) own (Happening.Dropped (message_name message)) sound tt

    offline-quiet : (message : Message) (own : OwnView) → (Sound plan TriedIs fits slots stood) own → (Quiet plan TriedIs fits slots stood) (offline_turn message own)
    offline-quiet message own sound = go message.wait
      where
        go : (wait : Bool) → (Quiet plan TriedIs fits slots stood)
            (if wait then turn_of own (sent.abort_duty message ∷ []) else dropped_turn message own)
        go true = record { quiet = abort-is-quiet message; sound = sound }
        go false = dropped-quiet message own sound

    primary-is-quiet :
        (now : ℕ) (header : Header) (message : Message) (own : OwnView) → (Sound plan TriedIs fits slots stood) own
        → (Quiet plan TriedIs fits slots stood) (primary_turn now header message own)
    primary-is-quiet now header message own sound =
        go (is_establish_request message) (not (is_communicating own))
        (not (is_online own) && not (is_online_request message))
      where
        go : (establishes silent offline : Bool)
            → (Quiet plan TriedIs fits slots stood) (if establishes then established_turn now message own else if silent then stray_turn now message own
            else if offline then offline_turn message own else known_turn now header message own)
        go true silent offline = established-quiet now message own sound
        go false true offline =
            (led-quiet plan TriedIs fits slots stood) (Note (Happening.Dropped (message_name message)))
            (states.comms_turn comms_in.OtherMessage now own)
            (one-note (Happening.Dropped (message_name message)) tt) ((comms-quiet plan TriedIs fits slots stood) comms_in.OtherMessage now own sound)
        go false false true = offline-quiet message own sound
        go false false false = known-quiet now header message own sound

    pub message-quiet :
        (now : ℕ) (header : Header) (message : Message) (own : OwnView) (e : EndView Kind) → (Sound plan TriedIs fits slots stood) own
        → (Quiet plan TriedIs fits slots stood) (message_turn now header message own e)
    message-quiet now header message own e sound = go (not (is_comms_enabled own.comms.state)) (is_primary message)
      where
        go : (disabled odd : Bool)
            → (Quiet plan TriedIs fits slots stood) (if disabled then dropped_turn message own else if odd then primary_turn now header message own
            else secondary_turn now header message own e)
        go true odd = dropped-quiet message own sound
        go false true = primary-is-quiet now header message own sound
        go false false = secondary-quiet now header message own e sound
