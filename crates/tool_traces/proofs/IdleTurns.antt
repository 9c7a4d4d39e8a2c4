-- Turns that send no S6F1 and leave the traces as they are: those of the states, the spool and what is sent.
use Rattle.std.proofs.Common.{◌≡◌, refl, sym, ap, subst, arith, ◌==◌, ◌&&◌, ◌≤◌, Bool, true, false, ℕ, List, [], ◌∷◌, ◌++◌, Option, Some, None, if◌then◌else◌}
use Rattle.std.specs.List.{filter_map}
use Rattle.std.specs.Option.{option_map_or}
use Rattle.std.specs.Prelude.{IfSome}
use Rattle.block_codec.specs.declared.header.Header.{Header}
use Rattle.gem_states.specs.Comms.{CommsOutcome}
use Rattle.gem_states.specs.declared.comms.CommsIn.{CommsIn}
use Rattle.gem_states.specs.declared.control.ControlIn.{ControlIn}
use Rattle.message_flow.proofs.Firsts.{removed}
use Rattle.message_flow.specs.declared.message.Message.{Message}
use Rattle.trace_log.specs.Log.{Happening}
use Rattle.trace_log.specs.Names.{Spooled}
use Rattle.message_end.specs.Core.{EndView}
use Rattle.message_end.specs.Core.Command.{Halt}
use Rattle.message_end.specs.Endings.{ends_open}
use Rattle.equipment_tables.specs.declared.answers.Answer.{Answer as Text}
use Rattle.equipment_tables.specs.Tables.{may_spool, overwrites}
use Rattle.spool_ledger.specs.Ledger.{Booked, LedgerView}
use Rattle.spool_ledger.specs.Storing.{stored}
use Rattle.spool_ledger.specs.Unloading.{with_unload}
use Rattle.tool_step.specs.declared.kind.Kind.{Kind}
use Rattle.tool_step.specs.Grants.{GrantView}
use Rattle.tool_step.specs.Own.{OwnView, ToolCommands, ToolTurn, TracingView, event_report, is_granted_by, quiet_turn, with_comms, with_ledger, with_report, without_waiting_data}
use Rattle.tool_step.specs.Reports.{judged_turn, report_turn}
use Rattle.tool_step.specs.Sent as sent
use Rattle.tool_step.specs.Spooling.{Stores, booked_turn, lines_commands, stored_turn, stores_all, stores_behind, stores_commands, stores_none}
use Rattle.tool_step.specs.States as states
use Rattle.tool_law.proofs.CommandWalks.{AllAre, Does, answers-are, are-both, comms-noted, errors-are, lines-are, open-are, request-are}
use Rattle.tool_law.proofs.LedgerLines.{HasSpoolNotes, activated-lines, stored-lines}
use Rattle.tool_law.proofs.TurnWalks.{IsTurnOf, KeepsStates, booked-of, comms-of, control-of, event-of, going-of, judged-of, nothing-of, stored-of}
use Rattle.tool_reports.proofs.PlainTurns.{at-most, count_waiting, fewer-without}
use Rattle.tool_traces.proofs.IdleCommands.{AreIdle, AreIdleDuties, IsIdleCommand, common-idle}
use Rattle.tool_traces.proofs.IdleNotes.{IsIdleNote}
use Rattle.tool_traces.proofs.Spoolable.{AllCanBeSpooled, CanBeSpooled, all-can}

-- the same traces run, and no more S6F1 wait
pub record KeepsTraces (own other : OwnView) : Type 0 where
  pub running : other.tracing.running ≡ own.tracing.running
  pub made : other.tracing.made ≡ own.tracing.made
  pub fewer :
      (body : List ℕ)
      → count_waiting body other.tracing.for_grant ≤ count_waiting body own.tracing.for_grant

pub kept : (own other : OwnView) → other.tracing ≡ own.tracing → KeepsTraces own other
kept own other same = record {
  running = ap (λ (t : TracingView). t.running) same;
  made = ap (λ (t : TracingView). t.made) same;
  fewer = λ body.
      subst (λ (t : TracingView). count_waiting body t.for_grant ≤ count_waiting body own.tracing.for_grant) (sym same)
      (at-most (count_waiting body own.tracing.for_grant));
}

pub itself : (own : OwnView) → KeepsTraces own own
itself own = kept own own refl

pub untraced-kept : (own : OwnView) (system : ℕ) → KeepsTraces own (without_waiting_data system own)
untraced-kept own system = record {
  running = refl;
  made = refl;
  fewer = λ body.
      subst
      (λ (waiting : List GrantView). count_waiting body waiting ≤ count_waiting body own.tracing.for_grant)
      (sym (removed (is_granted_by system) own.tracing.for_grant))
      (fewer-without (is_granted_by system) own.tracing.for_grant body);
}

-- a change of the states leaves the traces as they are
pub traces-stay : KeepsStates KeepsTraces
traces-stay = record {
  itself = λ own. itself own;
  comms = λ own next. kept own (with_comms next own) refl;
  control = λ own other next keeps. record {
    running = keeps.running;
    made = keeps.made;
    fewer = keeps.fewer;
  };
}

abbrev pub IsIdleTurn : OwnView → ToolTurn → Type 0
IsIdleTurn own turn = IsTurnOf IsIdleCommand KeepsTraces own turn

-- ---- lines of the spool

abbrev pub AreIdleLines : List Happening → Type 0
AreIdleLines lines = AllAre IsIdleNote lines

pub spool-idle : HasSpoolNotes IsIdleNote
spool-idle = record {
  spool = λ active. tt;
  stored = λ number. tt;
  leaving = λ number cause room_for. tt;
  gone = λ number. tt;
  discarded = λ name. tt;
  too_long = λ name. tt;
}

pub lines-idle : (lines : List Happening) → AreIdleLines lines → AreIdle (lines_commands lines)
lines-idle lines are = lines-are IsIdleCommand IsIdleNote (λ what is. is) lines are

stores-lines : (overwriting : Bool) (messages : List Spooled) (v : LedgerView) → AllCanBeSpooled messages
    → AreIdleLines (stores_all overwriting messages v).lines
stores-lines overwriting [] v can = tt
stores-lines overwriting (message ∷ messages) v can =
    go (stored overwriting message v) (stored-lines spool-idle overwriting message v (λ number. can.0))
    (λ next. stores-lines overwriting messages next can.1)
  where
    go : (found : Option Booked) → IfSome found (λ (booked : Booked). AreIdleLines booked.lines)
        → ((next : LedgerView) → AreIdleLines (stores_all overwriting messages next).lines)
        → AreIdleLines
        (option_map_or
        (λ (booked : Booked). stores_behind booked.lines (stores_all overwriting messages booked.next)) found
        (stores_none true v)).lines
    go None are more = tt
    go (Some booked) are more =
        are-both IsIdleNote booked.lines (stores_all overwriting messages booked.next).lines are (more booked.next)

books-idle : (own : OwnView) (ledger : LedgerView) → KeepsTraces own (with_ledger ledger own)
books-idle own ledger = kept own (with_ledger ledger own) refl

pub booked-idle : (own : OwnView) (booked : Booked) → AreIdleLines booked.lines
    → IsIdleTurn own (booked_turn booked own)
booked-idle own booked are = booked-of IsIdleCommand KeepsTraces IsIdleNote (λ what is. is) books-idle own booked are

pub stored-idle : (message : Spooled) → CanBeSpooled message → (own : OwnView)
    → IsIdleTurn own (stored_turn message own)
stored-idle message can own =
    stored-of IsIdleCommand KeepsTraces IsIdleNote (λ what is. is) books-idle tt message own (itself own)
    (stored-lines spool-idle (overwrites own.tables) message own.ledger (λ number. can))

-- ---- what is sent

-- a report that is no S6F1
abbrev pub IsOtherReport : Spooled → Type 0
IsOtherReport message = ((message.stream == 6) && (message.function == 1)) ≡ false

pub going-idle : (message : Spooled) → IsOtherReport message → (own : OwnView) (e : EndView Kind)
    → IsIdleTurn own (sent.going_turn message own e)
going-idle message other own e =
    going-of common-idle traces-stay message other own (λ system. kept own (with_report system message own) refl) e

pub event-idle : (dataid : ℕ) (body : List ℕ) (own : OwnView) (e : EndView Kind)
    → IsIdleTurn own (sent.event_turn dataid body own e)
event-idle dataid body own e =
    event-of common-idle traces-stay dataid body (λ text. refl) own
    (λ system. kept own (sent.with_asked (Some system) body own) refl) e (going-idle (event_report body) refl own e)

-- a report, however it is judged
pub judged-idle :
    (report : List ℕ → Spooled) → ((body : List ℕ) → CanBeSpooled (report body))
    → (going : Spooled → ToolTurn) (text : Text) (own : OwnView)
    → ((body : List ℕ) → IsIdleTurn own (going (report body))) → IsIdleTurn own (judged_turn report going text own)
judged-idle report can going text own goes =
    judged-of common-idle traces-stay report going text own
    (λ body. stored-idle (report body) (can body) own) goes

pub report-idle :
    (report : List ℕ → Spooled) → ((body : List ℕ) → IsOtherReport (report body))
    → ((body : List ℕ) → CanBeSpooled (report body)) → (text : Text) (own : OwnView) (e : EndView Kind)
    → IsIdleTurn own (report_turn report text own e)
report-idle report other can text own e =
    judged-idle report can (λ (message : Spooled). sent.going_turn message own e) text own
    (λ body. going-idle (report body) (other body) own e)

pub errors-idle : (function : ℕ) (header : Header) (own : OwnView)
    → AreIdleDuties (sent.error_duty function header own ∷ [])
errors-idle function header own = errors-are common-idle function (λ body. refl) header own

pub answers-idle : (text : Text) (message : Message) → AreIdleDuties (sent.answer_duties text message)
answers-idle text message = answers-are common-idle text message (λ body. tt)

-- ---- the states

pub comms-idle : (input : CommsIn) (now : ℕ) (own : OwnView) → IsIdleTurn own (states.comms_turn input now own)
comms-idle input now own = comms-of common-idle traces-stay (λ body. refl) input now own

pub control-idle : (input : ControlIn) (own : OwnView) → IsIdleTurn own (states.control_turn input own)
control-idle input own = control-of common-idle traces-stay input own

-- ---- all open messages end

stores-idle : (stores : Stores) (more : ToolCommands) → AreIdleLines stores.lines → AreIdle more
    → AreIdle (stores_commands stores more)
stores-idle stores more are rest =
    are-both IsIdleCommand (lines_commands stores.lines) (if stores.is_spent then Halt ∷ [] else more)
    (lines-idle stores.lines are) (go stores.is_spent)
  where
    go : (spent : Bool) → AreIdle (if spent then Halt ∷ [] else more)
    go true = (tt, tt)
    go false = rest

abbrev left_of : CommsOutcome → Booked → OwnView → OwnView
left_of outcome activity own = with_ledger activity.next (with_comms outcome.next own)

abbrev stores_of : Bool → CommsOutcome → Booked → OwnView → EndView Kind → Stores
stores_of spools outcome activity own e =
    stores_all (overwrites own.tables)
    (filter_map (states.stored_of spools (left_of outcome activity own)) e.transactions.begun) activity.next

none-fewer : (n : ℕ) → 0 ≤ n
none-fewer n = omega (arith)

activity-lines : (outcome : CommsOutcome) (own : OwnView) → AreIdleLines (states.activity_of outcome own).lines
activity-lines outcome own =
    activated-lines spool-idle (states.begins_spooling own.comms.state outcome.next.state && may_spool own.tables)
    (with_unload None own.ledger)

parted-idle :
    (outcome : CommsOutcome) (spools : Bool) (activity : Booked) (failed : Option Header) (own : OwnView)
    (e : EndView Kind) → AreIdleLines activity.lines
    → IsIdleTurn own (states.parted_turn outcome spools activity failed own e)
parted-idle outcome spools activity failed own e are = record {
  duties =
      are-both (Does IsIdleCommand) (ends_open (states.ends_report spools (left_of outcome activity own)) e failed)
      ((λ later. states.left_commands outcome activity (stores_of spools outcome activity own e) own) ∷ [])
      (open-are common-idle spools (left_of outcome activity own) e failed) (
        (λ later.
            are-both IsIdleCommand
            (states.comms_lines own.comms.state outcome.next.state ++ lines_commands activity.lines)
            (stores_commands (stores_of spools outcome activity own e) (states.request_commands outcome.output own))
            (are-both IsIdleCommand (states.comms_lines own.comms.state outcome.next.state)
            (lines_commands activity.lines)
            (comms-noted common-idle own.comms.state outcome.next.state) (lines-idle activity.lines are))
            (stores-idle (stores_of spools outcome activity own e) (states.request_commands outcome.output own)
            (stores-lines (overwrites own.tables)
            (filter_map (states.stored_of spools (left_of outcome activity own)) e.transactions.begun) activity.next
            (all-can spools (left_of outcome activity own) e.transactions.begun))
            (request-are common-idle (λ body. refl) outcome.output own))),
        tt,
      );
  keeps = record {
    running = refl;
    made = refl;
    fewer = λ body. none-fewer (count_waiting body own.tracing.for_grant);
  };
}

pub leaving-idle : (input : CommsIn) (failed : Option Header) (now : ℕ) (own : OwnView) (e : EndView Kind)
    → IsIdleTurn own (states.end_of_talk input failed now own e)
leaving-idle input failed now own e =
    go (states.is_same_comms own.comms.state (states.comms_outcome input now own).next.state)
  where
    go : (same : Bool)
        → IsIdleTurn own
        (if same then quiet_turn own
        else states.parted_turn (states.comms_outcome input now own)
        (states.begins_spooling own.comms.state (states.comms_outcome input now own).next.state)
        (states.activity_of (states.comms_outcome input now own) own) failed own e)
    go true = nothing-of own own (itself own)
    go false =
        parted-idle (states.comms_outcome input now own)
        (states.begins_spooling own.comms.state (states.comms_outcome input now own).next.state)
        (states.activity_of (states.comms_outcome input now own) own) failed own e
        (activity-lines (states.comms_outcome input now own) own)
