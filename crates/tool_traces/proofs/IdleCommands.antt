-- Commands that send no S6F1, and note nothing that the host has asked for.
use Rattle.std.proofs.Common.{◌≡◌, refl, sym, ap, subst, ◌∙◌, arith, ◌%◌, ◌==◌, ◌&&◌, Bool, true, false, not, nat_eq, ℕ, nat_le, List, [], ◌∷◌, ◌++◌, length, Option, Some, None, if◌then◌else◌}
use Rattle.std.specs.List.{find, list_any}
use Rattle.std.specs.Prelude.{is_some}
use Rattle.std.proofs.lemmas.Bool.{eqb-true, ne_eqb}
use Rattle.block_codec.specs.Block.{BlockView}
use Rattle.block_codec.specs.declared.header.Header.{Header}
use Rattle.gem_trace.specs.History.{Look, TraceEntry}
use Rattle.gem_trace.specs.Traces.{Running}
use Rattle.line_end.specs.declared.event.LineEvent.{LineEvent}
use Rattle.line_end.specs.declared.event.LineEvent.TheVariants as event
use Rattle.line_end.specs.declared.event.Phase.{Phase}
use Rattle.line_end.specs.declared.event.Phase.TheVariants as phase
use Rattle.line_end.specs.Step.{LineCall, line_step}
use Rattle.message_flow.specs.declared.flow.Flow.{Flow}
use Rattle.message_flow.specs.declared.flow.Flow.TheVariants as flow
use Rattle.message_flow.specs.Assembly as assembly
use Rattle.message_flow.specs.Assembly.{flow_to, header_so_far, with_block}
use Rattle.message_flow.specs.declared.message.Message.{Message}
use Rattle.message_flow.specs.Outgoing.{next_block_of, next_turn}
use Rattle.trace_log.specs.declared.names.Title.{Title}
use Rattle.trace_log.specs.Log.{Happening}
use Rattle.trace_log.specs.Names.{header_title, message_name, title_of}
use Rattle.transact.specs.declared.begun.Begun.{Begun}
use Rattle.transact.specs.Numbers.{next_number}
use Rattle.transact.specs.Transactions as transactions
use Rattle.transact.specs.Transactions.{is_answered_by}
use Rattle.message_end.specs.declared.unsent.Unsent.{Unsent}
use Rattle.message_end.specs.Core.{Command, EndView, answers, asked_by, calls, cancels, carried, carry, drawn_primary, draws, drops, gives, held_header, is_crowded_out, is_held_answered, judges, keeps_drawn, noted, offers, primary_of, queues, replies, reply_function, reply_of, sends, takes_back, tells, times_out, unsent_name, with_asked, with_assembly, with_end, with_outgoing}
use Rattle.message_end.specs.Core.Went.{Goes}
use Rattle.message_end.specs.Duties.{all_done}
use Rattle.message_end.proofs.Parts.{OnEither, either-then}
use Rattle.tool_step.specs.declared.kind.Kind.{Kind}
use Rattle.tool_step.specs.Own.{ToolCommands, ToolDuty}
use Rattle.tool_law.proofs.CommandWalks.{AllAre, AllDo, HasCommon}
use Rattle.tool_law.proofs.CoreSteps.{CoreStep}
use Rattle.tool_law.proofs.TriedSteps.{offer-notes}
use Rattle.tool_reports.specs.Reported.{tries_in}
use Rattle.tool_traces.proofs.IdleNotes.{IsIdleNote, IsNoData, Reads, idle-note, reads-idle}

-- a primary that is no S6F1
abbrev pub IsOther : Unsent Kind → Type 0
IsOther unsent = ((unsent.stream == 6) && (unsent.function == 1)) ≡ false

abbrev pub IsIdleCommand : Command Kind → Type 0
IsIdleCommand (Command.Note what) = IsIdleNote what
IsIdleCommand (Command.Primary unsent) = IsOther unsent
IsIdleCommand (Command.DrawnPrimary unsent) = IsOther unsent
IsIdleCommand Command.CloseStep = ⊥
IsIdleCommand _ = Unit {0}

abbrev pub AreIdle : ToolCommands → Type 0
AreIdle commands = AllAre IsIdleCommand commands

abbrev pub AreIdleDuties : List ToolDuty → Type 0
AreIdleDuties duties = AllDo IsIdleCommand duties

pub common-idle : HasCommon IsIdleCommand
common-idle = record {
  comms = λ state. tt;
  control = λ state. tt;
  failed = λ title. tt;
  dropped = λ name. tt;
  denied = λ name. tt;
  too_long = λ name. tt;
  full = λ name. tt;
  ends = λ system. tt;
  removes = λ system. tt;
  recalls = λ header. tt;
  drops = tt;
  aborts = tt;
}

-- ---- what they send

other-sent : (unsent : Unsent Kind) (number : ℕ) → IsOther unsent → IsNoData (primary_of unsent number)
other-sent unsent number other before =
    ap (λ (b : Bool). b && not (list_any (nat_eq (primary_of unsent number).system) (tries_in before))) other

-- what asks for a reply is a primary, so no reply is an S6F1
abbrev pub IsOdd : Option Title → Type 0
IsOdd None = Unit {0}
IsOdd (Some title) = title.name.function % 2 ≡ 1

abbrev AreApart : (ℕ → ℕ) → Type 0
AreApart function = (f : ℕ) → f % 2 ≡ 1 → (function f == 1) ≡ false

reply-apart : AreApart reply_function
reply-apart f odd = ne_eqb (reply_function f) 1 (λ is. omega (arith, odd, is))

odd-asked : (message : Message) → IsOdd (asked_by message)
odd-asked message = go (message.function % 2 == 1) message.wait refl
  where
    go : (odd wait : Bool) → (message.function % 2 == 1) ≡ odd
        → IsOdd (if odd && wait then Some (title_of message) else None)
    go true true is = eqb-true (message.function % 2) 1 is
    go true false is = tt
    go false wait is = tt

reply-sent : (title : Title) (function : ℕ) (body : List ℕ) → (function == 1) ≡ false
    → IsNoData (reply_of title function body)
reply-sent title function body other before =
    ap
    (λ (b : Bool). ((title.name.stream == 6) && b)
    && not (list_any (nat_eq (reply_of title function body).system) (tries_in before))) other
    ∙ never (title.name.stream == 6) (not (list_any (nat_eq (reply_of title function body).system) (tries_in before)))
  where
    never : (a b : Bool) → ((a && false) && b) ≡ false
    never true b = refl
    never false b = refl

-- ---- who asks stays

taken-asked : (held : Bool) (e : EndView Kind) → (cancels held e).asked ≡ e.asked
taken-asked true e = refl
taken-asked false e = refl

offer-asked :
    (at : Phase) (held : Option BlockView) (now : ℕ) (step : CoreStep)
    → (offers at held now step).next.asked ≡ step.next.asked
offer-asked at held now step = go at held
  where
    given : (block : Option BlockView)
        → (gives block now (with_end (with_outgoing (next_turn step.next.outgoing) step.next) step)).next.asked
        ≡ step.next.asked
    given None = refl
    given (Some block) = refl

    go : (at : Phase) (held : Option BlockView) → (offers at held now step).next.asked ≡ step.next.asked
    go phase.Idle (Some held) = refl
    go phase.Idle None =
        given (next_block_of step.next.outgoing.side step.next.outgoing.device step.next.outgoing.waiting).0
    go phase.AwaitEot held = refl
    go phase.AwaitAck held = refl
    go phase.AwaitLength held = refl
    go phase.Gathering held = refl
    go phase.Settling held = refl

module _ (before : List Happening) (look : Look) (running : List Running) (sent : List (List ℕ))
    (asked : List TraceEntry) where
  abbrev pub ReadsStep : CoreStep → Type 0
  ReadsStep step = Reads before look running sent asked step.notes × IsOdd step.next.asked

  one-idle : (what : Happening) (notes : List Happening) → IsIdleNote what → Reads before look running sent asked notes
      → Reads before look running sent asked (notes ++ what ∷ [])
  one-idle what notes idle so = reads-idle before look running sent asked notes what (idle-note what idle) so

  primary-idle :
      (unsent : Unsent Kind) (step : CoreStep) → IsOther unsent → ReadsStep step
      → OnEither ReadsStep ReadsStep (carry Some (Command.Primary unsent) step)
  primary-idle unsent step other so =
      go (is_crowded_out (is_some unsent.kind) step.next) (next_number step.next.numbers)
    where
      go : (crowded : Bool) (next : Option ℕ)
          → OnEither ReadsStep ReadsStep
          (if crowded then Goes (noted Some (Happening.Full (unsent_name unsent)) step)
          else draws next (sends Some unsent) step)
      go true next = (one-idle (Happening.Full (unsent_name unsent)) step.notes tt so.0, so.1)
      go false None = so
      go false (Some number) = (
        one-idle (Happening.Sent (primary_of unsent number)) step.notes (other-sent unsent number other) so.0,
        so.1,
      )

  draw-idle : (step : CoreStep) → ReadsStep step → OnEither ReadsStep ReadsStep (carry Some Command.Draw step)
  draw-idle step so = go (next_number step.next.numbers)
    where
      go : (next : Option ℕ) → OnEither ReadsStep ReadsStep (draws next keeps_drawn step)
      go None = so
      go (Some number) = so

  drawn-idle :
      (unsent : Unsent Kind) (step : CoreStep) → IsOther unsent → ReadsStep step
      → ReadsStep (drawn_primary Some unsent step.next.drawn step)
  drawn-idle unsent step other so = go step.next.drawn
    where
      room : (number : ℕ) (crowded : Bool)
          → ReadsStep
          (if crowded then noted Some (Happening.Full (unsent_name unsent)) step
          else sends Some unsent number (with_end (record step.next { drawn = None }) step))
      room number true = (one-idle (Happening.Full (unsent_name unsent)) step.notes tt so.0, so.1)
      room number false = (
        one-idle (Happening.Sent (primary_of unsent number)) step.notes (other-sent unsent number other) so.0,
        so.1,
      )

      go : (drawn : Option ℕ) → ReadsStep (drawn_primary Some unsent drawn step)
      go None = so
      go (Some number) = room number (is_crowded_out (is_some unsent.kind) step.next)

  reply-idle :
      (function : ℕ → ℕ) → AreApart function → (body : List ℕ) (step : CoreStep) → ReadsStep step
      → ReadsStep (replies Some step.next.asked function body step)
  reply-idle function apart body step so = go step.next.asked so.1
    where
      room :
          (title : Title) → IsOdd (Some title) → (full : Bool)
          → ReadsStep
          (if full
          then noted Some (Happening.Full (message_name (reply_of title (function title.name.function) body)))
          (with_end (with_asked None step.next) step)
          else queues Some (reply_of title (function title.name.function) body)
          (with_end (with_asked None step.next) step))
      room title odd true = (
        one-idle (Happening.Full (message_name (reply_of title (function title.name.function) body))) step.notes tt
            so.0,
        tt,
      )
      room title odd false = (
        one-idle (Happening.Sent (reply_of title (function title.name.function) body)) step.notes
            (reply-sent title (function title.name.function) body (apart title.name.function odd)) so.0,
        tt,
      )

      go : (asked_of : Option Title) → IsOdd asked_of → ReadsStep (replies Some asked_of function body step)
      go None odd = (so.0, so.1)
      go (Some title) odd = room title odd (nat_le 128 (length step.next.outgoing.waiting))

  judged-idle : (header : Header) (judged : Flow) (step : CoreStep) → ReadsStep step
      → ReadsStep (judges Some header judged step)
  judged-idle header flow.Part step so = so
  judged-idle header (flow.Whole message check) step so =
      (one-idle (Happening.Received message) step.notes tt so.0, odd-asked message)
  judged-idle header flow.Duplicate step so = (one-idle (Happening.Duplicate header) step.notes tt so.0, so.1)
  judged-idle header (flow.Foreign address) step so = (one-idle (Happening.Foreign header) step.notes tt so.0, so.1)
  judged-idle header flow.Unexpected step so = (one-idle (Happening.Unexpected header) step.notes tt so.0, so.1)
  judged-idle header flow.TooLong step so = (one-idle (Happening.TooLongBlock header) step.notes tt so.0, so.1)
  judged-idle header flow.Crowded step so = (one-idle (Happening.Crowded header) step.notes tt so.0, so.1)

  told-idle :
      (held : Option Header) (happened : LineEvent) (now : ℕ) (step : CoreStep) → ReadsStep step
      → ReadsStep (tells Some held happened now step)
  told-idle held (event.Arrived block) now step so =
      judged-idle block.header (flow_to step.next.assembly block)
      (with_end (takes_back block.header now (with_assembly (with_block step.next.assembly block now) step.next)) step)
      (so.0, subst IsOdd (sym (taken-asked (is_held_answered block.header step.next.line.held) _)) so.1)
  told-idle held event.Sent now step so = so
  told-idle held event.Nothing now step so = so
  told-idle held event.Failed now step so = so
  told-idle held (event.Refused cause) now step so = so

  drop-idle : (header : Option Header) (now : ℕ) (step : CoreStep) → ReadsStep step
      → ReadsStep (drops Some header now step)
  drop-idle None now step so = so
  drop-idle (Some header) now step so = (one-idle (Happening.DroppedByT4 header) step.notes tt so.0, so.1)

  time-idle :
      (test : Begun Kind → Bool) (found : Option (Begun Kind)) (step : CoreStep) → ReadsStep step
      → ReadsStep (times_out Some test found step)
  time-idle test None step so = so
  time-idle test (Some begun) step so =
      (one-idle (Happening.TimedOut (header_title begun.header)) step.notes tt so.0, so.1)

  answer-idle :
      (header : Header) (found : Option (Begun Kind)) (step : CoreStep) → ReadsStep step
      → ReadsStep (answers Some header found step)
  answer-idle header None step so = (one-idle (Happening.Stranger (header_title header)) step.notes tt so.0, so.1)
  answer-idle header (Some begun) step so = so

  pub carry-idle :
      (command : Command Kind) (step : CoreStep) → IsIdleCommand command → ReadsStep step
      → OnEither ReadsStep ReadsStep (carry Some command step)
  carry-idle (Command.Note what) step idle so = (one-idle what step.notes idle so.0, so.1)
  carry-idle (Command.Primary unsent) step idle so = primary-idle unsent step idle so
  carry-idle Command.Draw step idle so = draw-idle step so
  carry-idle (Command.DrawnPrimary unsent) step idle so = drawn-idle unsent step idle so
  carry-idle (Command.More count) step idle so = so
  carry-idle (Command.Reply body) step idle so = reply-idle reply_function reply-apart body step so
  carry-idle Command.Abort step idle so = reply-idle (λ function. 0) (λ f odd. refl) [] step so
  carry-idle (Command.Tick now) step idle so = so
  carry-idle (Command.Take byte now) step idle so =
      told-idle (held_header step.next.line.held) (line_step step.next.line (LineCall.Take byte now)).event now
      (calls (LineCall.Take byte now) step) so
  carry-idle (Command.Offer now) step idle so = (
    subst (Reads before look running sent asked)
        (sym (offer-notes step.next.line.phase step.next.line.held now step)) so.0,
    subst IsOdd (sym (offer-asked step.next.line.phase step.next.line.held now step)) so.1,
  )
  carry-idle (Command.DropDue now) step idle so =
      drop-idle (header_so_far (find (assembly.is_due now) step.next.assembly.partials)) now step so
  carry-idle (Command.Expire now) step idle so =
      time-idle (transactions.is_due now) (find (transactions.is_due now) step.next.transactions.begun) step so
  carry-idle (Command.Answer header) step idle so =
      answer-idle header (find (is_answered_by header) step.next.transactions.begun) step so
  carry-idle (Command.GiveUp header) step idle so =
      time-idle (is_answered_by header) (find (is_answered_by header) step.next.transactions.begun) step so
  carry-idle (Command.End system) step idle so = so
  carry-idle (Command.Recall header) step idle so = so
  carry-idle (Command.Remove primary system) step idle so = so
  carry-idle Command.DropFront step idle so = so
  carry-idle Command.CloseStep step idle so = absurd idle
  carry-idle Command.Halt step idle so = so

  pub carried-idle :
      (commands : ToolCommands) (step : CoreStep) → AreIdle commands → ReadsStep step
      → OnEither ReadsStep ReadsStep (carried Some commands step)
  carried-idle [] step idle so = so
  carried-idle (command ∷ commands) step idle so =
      either-then ReadsStep ReadsStep ReadsStep (carry Some command step) (carried Some commands)
      (carry-idle command step idle.0 so) (λ next now_so. carried-idle commands next idle.1 now_so)

  pub done-idle :
      (duties : List ToolDuty) (step : CoreStep) → AreIdleDuties duties → ReadsStep step
      → OnEither ReadsStep ReadsStep (all_done Some duties step)
  done-idle [] step idle so = so
  done-idle (duty ∷ duties) step idle so =
      either-then ReadsStep ReadsStep ReadsStep (carried Some (duty step.next) step) (all_done Some duties)
      (carried-idle (duty step.next) step (idle.0 step.next) so) (λ next now_so. done-idle duties next idle.1 now_so)
