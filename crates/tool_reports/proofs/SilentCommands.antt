-- Commands that note nothing of reports.
use Rattle.std.proofs.Common.{◌≡◌, refl, ap, ◌∙◌, inl, inr, Bool, true, false, not, ℕ, ◌%◌, ◌==◌, ◌&&◌, nat_le, List, [], ◌∷◌, ◌++◌, length, Option, Some, None, if◌then◌else◌}
use Rattle.std.specs.List.{find}
use Rattle.std.specs.Prelude.{is_some}
use Rattle.gem_shapes.proofs.ReportPrimaries.{is_report}
use Rattle.block_codec.specs.Block.{BlockView}
use Rattle.block_codec.specs.declared.header.Header.{Header}
use Rattle.line_end.specs.declared.event.LineEvent.{LineEvent}
use Rattle.line_end.specs.declared.event.LineEvent.TheVariants as event
use Rattle.line_end.specs.declared.event.Phase.{Phase}
use Rattle.line_end.specs.declared.event.Phase.TheVariants as phase
use Rattle.message_flow.specs.declared.flow.Flow.{Flow}
use Rattle.message_flow.specs.declared.flow.Flow.TheVariants as flow
use Rattle.message_flow.specs.Assembly as assembly
use Rattle.message_flow.specs.Assembly.{flow_to, header_so_far, with_block}
use Rattle.message_flow.specs.Outgoing.{next_block_of, next_turn}
use Rattle.trace_log.specs.declared.names.Title.{Title}
use Rattle.trace_log.specs.Log.{Happening}
use Rattle.trace_log.specs.Names.{header_title, message_name}
use Rattle.transact.specs.declared.begun.Begun.{Begun}
use Rattle.transact.specs.Numbers.{next_number}
use Rattle.transact.specs.Transactions as transactions
use Rattle.transact.specs.Transactions.{is_answered_by}
use Rattle.message_end.specs.declared.unsent.Unsent.{Unsent}
use Rattle.message_end.specs.Core.{Command, EndView, Went, answers, cancels, carried, carry, draws, drops, gives, is_crowded_out, is_held_answered, judges, noted, offers, primary_of, queues, replies, reply_function, reply_of, sends, takes_back, tells, times_out, unsent_name, with_asked, with_assembly, with_end, with_outgoing}
use Rattle.message_end.specs.Core.Went.{Goes}
use Rattle.message_end.specs.Course.{noted_behind}
use Rattle.message_end.specs.Duties.{all_done}
use Rattle.tool_step.specs.declared.kind.Kind.{Kind}
use Rattle.tool_step.specs.Own.{ToolCommands, ToolDuty}
use Rattle.tool_reports.specs.Reported.{is_answer, is_no_space, is_of}
use Rattle.tool_reports.proofs.QuietNotes.{AddsQuiet, Follows, follows, none-of, none-sent, quiet-note, IsAsBefore, IsQuietNote, as-before-both, as-it-was}
use Rattle.message_end.proofs.Parts.{OnEither, either-then, either-less}
use Rattle.tool_law.proofs.CommandWalks.{AllAre, AllDo, HasCommon}
use Rattle.tool_law.proofs.CoreSteps.{CoreStep}

never : (b : Bool) → (b && false) ≡ false
never true = refl
never false = refl

-- what the newest primary asks is such, and nothing may ask; and this holds of the notes, and lasts
module _
    (Asks : Option Title → Type 0) (none : Asks None) (Fact : List Happening → Type 0)
    (lasts : (old new : List Happening) → IsAsBefore old new → Fact old → Fact new) where
  abbrev pub IsSilent : Command Kind → Type 0
  IsSilent (Command.Note what) = IsQuietNote what
  IsSilent (Command.Primary unsent) =
      (is_report unsent.stream unsent.function ≡ false) × ((unsent.function % 2 == 1) ≡ true)
  IsSilent Command.Draw = ⊥
  IsSilent (Command.DrawnPrimary unsent) = ⊥
  IsSilent (Command.Reply body) =
      (title : Title) → Asks (Some title) → (notes : List Happening) → Fact notes
      → IsAsBefore notes (Happening.Sent (reply_of title (reply_function title.name.function) body) ∷ notes)
  IsSilent (Command.Take byte now) = ⊥
  IsSilent _ = Unit {0}

  abbrev pub AreSilent : ToolCommands → Type 0
  AreSilent commands = AllAre IsSilent commands

  abbrev pub AreSilentDuties : List ToolDuty → Type 0
  AreSilentDuties duties = AllDo IsSilent duties

  pub common-silent : HasCommon IsSilent
  common-silent = record {
    comms = λ state. tt;
    control = λ state. tt;
    failed = λ title. tt;
    dropped = λ name. tt;
    denied = λ name. tt;
    too_long = λ name. tt;
    full = λ name. tt;
    ends = λ system. tt;
    removes = λ system. tt;
    recalls = λ header. tt;
    drops = tt;
    aborts = tt;
  }

  module _ (before : List Happening) where
    -- a note of another step, read behind those before
    one-note :
        (old : List Happening) (what : Happening) → IsQuietNote what → Follows before old (old ++ what ∷ [])
    one-note old what quiet = inr (what, quiet-note what quiet (noted_behind old before), refl)

    -- one note more at most, and a quiet one, with the number as it was drawn
    pub record Adds (step next : CoreStep) : Type 0 where
      pub quiet : Follows before step.notes next.notes
      pub drawn : next.next.drawn ≡ step.next.drawn
      pub asks : Asks next.next.asked

    primary-silent :
        (unsent : Unsent Kind) (step : CoreStep) → IsSilent (Command.Primary unsent) → Asks step.next.asked
        → OnEither (Adds step) (Adds step) (carry Some (Command.Primary unsent) step)
    primary-silent unsent step silent asks = go (is_crowded_out (is_some unsent.kind) step.next)
      where
        no_answer : (number : ℕ) → is_answer (primary_of unsent number) ≡ false
        no_answer number =
            ap
            (λ (odd : Bool).
            ((not odd && not (unsent.function == 0)) && not (is_of 1 14 (primary_of unsent number)))
            && not (is_no_space (primary_of unsent number))) silent.1

        drawn : (number : Option ℕ) → OnEither (Adds step) (Adds step) (draws number (sends Some unsent) step)
        drawn None = record { quiet = inl refl; drawn = refl; asks = asks }
        drawn (Some number) =
            record {
              quiet = one-note step.notes (Happening.Sent (primary_of unsent number)) (silent.0, no_answer number);
              drawn = refl;
              asks = asks;
            }

        go : (crowded : Bool)
            → OnEither (Adds step) (Adds step)
            (if crowded then Goes (noted Some (Happening.Full (unsent_name unsent)) step)
            else draws (next_number step.next.numbers) (sends Some unsent) step)
        go true = record {
          quiet = one-note step.notes (Happening.Full (unsent_name unsent)) tt;
          drawn = refl;
          asks = asks;
        }
        go false = drawn (next_number step.next.numbers)

    reply-silent :
        (function : ℕ → ℕ) (body : List ℕ) (step : CoreStep)
        → ((title : Title) → Asks (Some title) → (notes : List Happening) → Fact notes
        → IsAsBefore notes (Happening.Sent (reply_of title (function title.name.function) body) ∷ notes))
        → Asks step.next.asked → Fact (noted_behind step.notes before)
        → Adds step (replies Some step.next.asked function body step)
    reply-silent function body step silent asks fact = go step.next.asked asks
      where
        room :
            (title : Title) → Asks (Some title) → (full : Bool)
            → Adds step
            (if full
            then noted Some (Happening.Full (message_name (reply_of title (function title.name.function) body)))
            (with_end (with_asked None step.next) step)
            else queues Some (reply_of title (function title.name.function) body)
            (with_end (with_asked None step.next) step))
        room title it true = record {
          quiet = one-note step.notes
              (Happening.Full (message_name (reply_of title (function title.name.function) body))) tt;
          drawn = refl;
          asks = none;
        }
        room title it false = record {
          quiet = inr (
            Happening.Sent (reply_of title (function title.name.function) body),
            silent title it (noted_behind step.notes before) fact,
            refl,
          );
          drawn = refl;
          asks = none;
        }

        go : (asked : Option Title) → Asks asked → Adds step (replies Some asked function body step)
        go None it = record { quiet = inl refl; drawn = refl; asks = asks }
        go (Some title) it = room title it (nat_le 128 (length step.next.outgoing.waiting))

    offer-silent :
        (at : Phase) (held : Option BlockView) (now : ℕ) (step : CoreStep) → Asks step.next.asked
        → Adds step (offers at held now step)
    offer-silent phase.Idle (Some held) now step asks = record { quiet = inl refl; drawn = refl; asks = asks }
    offer-silent phase.Idle None now step asks =
        go (next_block_of step.next.outgoing.side step.next.outgoing.device step.next.outgoing.waiting).0
      where
        go : (block : Option BlockView)
            → Adds step (gives block now (with_end (with_outgoing (next_turn step.next.outgoing) step.next) step))
        go None = record { quiet = inl refl; drawn = refl; asks = asks }
        go (Some block) = record { quiet = inl refl; drawn = refl; asks = asks }
    offer-silent phase.AwaitEot held now step asks = record { quiet = inl refl; drawn = refl; asks = asks }
    offer-silent phase.AwaitAck held now step asks = record { quiet = inl refl; drawn = refl; asks = asks }
    offer-silent phase.AwaitLength held now step asks = record { quiet = inl refl; drawn = refl; asks = asks }
    offer-silent phase.Gathering held now step asks = record { quiet = inl refl; drawn = refl; asks = asks }
    offer-silent phase.Settling held now step asks = record { quiet = inl refl; drawn = refl; asks = asks }

    drop-silent :
        (header : Option Header) (now : ℕ) (step : CoreStep) → Asks step.next.asked
        → Adds step (drops Some header now step)
    drop-silent None now step asks = record { quiet = inl refl; drawn = refl; asks = asks }
    drop-silent (Some header) now step asks =
        record { quiet = one-note step.notes (Happening.DroppedByT4 header) tt; drawn = refl; asks = asks }

    time-silent :
        (test : Begun Kind → Bool) (found : Option (Begun Kind)) (step : CoreStep) → Asks step.next.asked
        → Adds step (times_out Some test found step)
    time-silent test None step asks = record { quiet = inl refl; drawn = refl; asks = asks }
    time-silent test (Some begun) step asks =
        record {
          quiet = one-note step.notes (Happening.TimedOut (header_title begun.header)) tt;
          drawn = refl;
          asks = asks;
        }

    answer-silent :
        (header : Header) (found : Option (Begun Kind)) (step : CoreStep) → Asks step.next.asked
        → Adds step (answers Some header found step)
    answer-silent header None step asks =
        record { quiet = one-note step.notes (Happening.Stranger (header_title header)) tt; drawn = refl; asks = asks }
    answer-silent header (Some begun) step asks = record { quiet = inl refl; drawn = refl; asks = asks }

    carry-silent :
        (command : Command Kind) (step : CoreStep) → IsSilent command → Asks step.next.asked
        → Fact (noted_behind step.notes before) → OnEither (Adds step) (Adds step) (carry Some command step)
    carry-silent (Command.Note what) step silent asks fact =
        record { quiet = one-note step.notes what silent; drawn = refl; asks = asks }
    carry-silent (Command.Primary unsent) step silent asks fact = primary-silent unsent step silent asks
    carry-silent Command.Draw step silent asks fact = absurd silent
    carry-silent (Command.DrawnPrimary unsent) step silent asks fact = absurd silent
    carry-silent (Command.More count) step silent asks fact = record { quiet = inl refl; drawn = refl; asks = asks }
    carry-silent (Command.Reply body) step silent asks fact = reply-silent reply_function body step silent asks fact
    carry-silent Command.Abort step silent asks fact =
        reply-silent (λ function. 0) [] step
        (λ title it notes fact.
        none-sent (reply_of title 0 [])
        (none-of (reply_of title 0 []) (never (title.name.stream == 6))) refl notes) asks fact
    carry-silent (Command.Tick now) step silent asks fact = record { quiet = inl refl; drawn = refl; asks = asks }
    carry-silent (Command.Take byte now) step silent asks fact = absurd silent
    carry-silent (Command.Offer now) step silent asks fact =
        offer-silent step.next.line.phase step.next.line.held now step asks
    carry-silent (Command.DropDue now) step silent asks fact =
        drop-silent (header_so_far (find (assembly.is_due now) step.next.assembly.partials)) now step asks
    carry-silent (Command.Expire now) step silent asks fact =
        time-silent (transactions.is_due now) (find (transactions.is_due now) step.next.transactions.begun) step asks
    carry-silent (Command.Answer header) step silent asks fact =
        answer-silent header (find (is_answered_by header) step.next.transactions.begun) step asks
    carry-silent (Command.GiveUp header) step silent asks fact =
        time-silent (is_answered_by header) (find (is_answered_by header) step.next.transactions.begun) step asks
    carry-silent (Command.End system) step silent asks fact = record { quiet = inl refl; drawn = refl; asks = asks }
    carry-silent (Command.Recall header) step silent asks fact = record { quiet = inl refl; drawn = refl; asks = asks }
    carry-silent (Command.Remove primary system) step silent asks fact =
        record { quiet = inl refl; drawn = refl; asks = asks }
    carry-silent Command.DropFront step silent asks fact = record { quiet = inl refl; drawn = refl; asks = asks }
    carry-silent Command.CloseStep step silent asks fact =
        record { quiet = one-note step.notes Happening.StepEnded tt; drawn = refl; asks = none }
    carry-silent Command.Halt step silent asks fact = record { quiet = inl refl; drawn = refl; asks = asks }

    -- ---- many commands

    -- nothing that is read off the notes has changed
    pub record IsQuietly (step next : CoreStep) : Type 0 where
      pub notes : IsAsBefore (noted_behind step.notes before) (noted_behind next.notes before)
      pub drawn : next.next.drawn ≡ step.next.drawn
      pub asks : Asks next.next.asked

    quietly-both : (one two three : CoreStep) → IsQuietly one two → IsQuietly two three → IsQuietly one three
    quietly-both one two three first second = record {
      notes =
          as-before-both (noted_behind one.notes before) (noted_behind two.notes before)
          (noted_behind three.notes before) first.notes second.notes;
      drawn = second.drawn ∙ first.drawn;
      asks = second.asks;
    }

    quietly-more :
        (one two : CoreStep) (went : Went (EndView Kind) Happening) → IsQuietly one two
        → OnEither (IsQuietly two) (IsQuietly two) went → OnEither (IsQuietly one) (IsQuietly one) went
    quietly-more one two went first is =
        either-less (IsQuietly two) (IsQuietly two) (IsQuietly one) (IsQuietly one) went is
        (λ three second. quietly-both one two three first second)
        (λ three second. quietly-both one two three first second)

    pub carry-quietly :
        (command : Command Kind) (step : CoreStep) → IsSilent command → Asks step.next.asked
        → Fact (noted_behind step.notes before)
        → OnEither (IsQuietly step) (IsQuietly step) (carry Some command step)
    carry-quietly command step silent asks fact =
        either-less (Adds step) (Adds step) (IsQuietly step) (IsQuietly step) (carry Some command step)
        (carry-silent command step silent asks fact)
        (λ next adds. record {
          notes = follows before step.notes next.notes adds.quiet;
          drawn = adds.drawn;
          asks = adds.asks;
        })
        (λ next adds. record {
          notes = follows before step.notes next.notes adds.quiet;
          drawn = adds.drawn;
          asks = adds.asks;
        })

    pub carried-quietly :
        (commands : ToolCommands) (step : CoreStep) → AreSilent commands → Asks step.next.asked
        → Fact (noted_behind step.notes before)
        → OnEither (IsQuietly step) (IsQuietly step) (carried Some commands step)
    carried-quietly [] step silent asks fact =
        record { notes = as-it-was (noted_behind step.notes before); drawn = refl; asks = asks }
    carried-quietly (command ∷ commands) step silent asks fact =
        either-then (IsQuietly step) (IsQuietly step) (IsQuietly step) (carry Some command step)
        (carried Some commands) (carry-quietly command step silent.0 asks fact)
        (λ next first.
        quietly-more step next (carried Some commands next) first
        (carried-quietly commands next silent.1 first.asks
        (lasts (noted_behind step.notes before) (noted_behind next.notes before) first.notes fact)))

    pub done-quietly :
        (duties : List ToolDuty) (step : CoreStep) → AreSilentDuties duties → Asks step.next.asked
        → Fact (noted_behind step.notes before)
        → OnEither (IsQuietly step) (IsQuietly step) (all_done Some duties step)
    done-quietly [] step silent asks fact =
        record { notes = as-it-was (noted_behind step.notes before); drawn = refl; asks = asks }
    done-quietly (duty ∷ duties) step silent asks fact =
        either-then (IsQuietly step) (IsQuietly step) (IsQuietly step) (carried Some (duty step.next) step)
        (all_done Some duties) (carried-quietly (duty step.next) step (silent.0 step.next) asks fact)
        (λ next first.
        quietly-more step next (all_done Some duties next) first (done-quietly duties next silent.1 first.asks
        (lasts (noted_behind step.notes before) (noted_behind next.notes before) first.notes fact)))

-- ---- a character

-- the number that was drawn by itself stays
cancelled-drawn : (held : Bool) (e : EndView Kind) → (cancels held e).drawn ≡ e.drawn
cancelled-drawn true e = refl
cancelled-drawn false e = refl

judged-drawn : (header : Header) (flow : Flow) (step : CoreStep)
    → (judges Some header flow step).next.drawn ≡ step.next.drawn
judged-drawn header flow.Part step = refl
judged-drawn header (flow.Whole message check) step = refl
judged-drawn header flow.Duplicate step = refl
judged-drawn header (flow.Foreign address) step = refl
judged-drawn header flow.Unexpected step = refl
judged-drawn header flow.TooLong step = refl
judged-drawn header flow.Crowded step = refl

pub told-drawn :
    (held : Option Header) (happened : LineEvent) (now : ℕ) (step : CoreStep)
    → (tells Some held happened now step).next.drawn ≡ step.next.drawn
told-drawn held (event.Arrived block) now step =
    judged-drawn block.header (flow_to step.next.assembly block)
    (with_end (takes_back block.header now (with_assembly (with_block step.next.assembly block now) step.next)) step)
    ∙ cancelled-drawn (is_held_answered block.header step.next.line.held) _
told-drawn held event.Sent now step = refl
told-drawn held event.Nothing now step = refl
told-drawn held event.Failed now step = refl
told-drawn held (event.Refused cause) now step = refl

judged-quiet :
    (header : Header) (flow : Flow) (step : CoreStep) → AddsQuiet step.notes (judges Some header flow step).notes
judged-quiet header flow.Part step = inl refl
judged-quiet header (flow.Whole message check) step = inr (Happening.Received message, tt, refl)
judged-quiet header flow.Duplicate step = inr (Happening.Duplicate header, tt, refl)
judged-quiet header (flow.Foreign address) step = inr (Happening.Foreign header, tt, refl)
judged-quiet header flow.Unexpected step = inr (Happening.Unexpected header, tt, refl)
judged-quiet header flow.TooLong step = inr (Happening.TooLongBlock header, tt, refl)
judged-quiet header flow.Crowded step = inr (Happening.Crowded header, tt, refl)

pub told-quiet :
    (held : Option Header) (happened : LineEvent) (now : ℕ) (step : CoreStep)
    → AddsQuiet step.notes (tells Some held happened now step).notes
told-quiet held (event.Arrived block) now step =
    judged-quiet block.header (flow_to step.next.assembly block)
    (with_end (takes_back block.header now (with_assembly (with_block step.next.assembly block now) step.next)) step)
told-quiet held event.Sent now step = inl refl
told-quiet held event.Nothing now step = inl refl
told-quiet held event.Failed now step = inl refl
told-quiet held (event.Refused cause) now step = inl refl
