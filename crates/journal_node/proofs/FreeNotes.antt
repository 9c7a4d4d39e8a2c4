-- What holds of the notes so far, and of one note more that is of no listing, holds behind each command that brings no
-- other: proofs for any end.
use Rattle.std.proofs.Common.{if◌then◌else◌, Bool, true, false, ℕ, List, [], ◌∷◌, ◌++◌, length, nat_le, Option, Some, None}
use Rattle.std.specs.List.{find}
use Rattle.std.specs.Prelude.{is_some}
use Rattle.block_codec.specs.Block.{BlockView}
use Rattle.block_codec.specs.declared.header.Header.{Header}
use Rattle.line_end.specs.declared.event.Phase.{Phase}
use Rattle.line_end.specs.declared.event.Phase.TheVariants.{AwaitAck, AwaitEot, AwaitLength, Gathering, Idle, Settling}
use Rattle.message_flow.specs.Assembly as assembly
use Rattle.message_flow.specs.Assembly.{header_so_far}
use Rattle.message_flow.specs.Outgoing.{next_block_of, next_turn}
use Rattle.trace_log.specs.declared.names.Title.{Title}
use Rattle.trace_log.specs.Log.{Happening}
use Rattle.trace_log.specs.Names.{header_title, message_name}
use Rattle.transact.specs.declared.begun.Begun.{Begun}
use Rattle.transact.specs.Numbers.{next_number}
use Rattle.transact.specs.Transactions as transactions
use Rattle.transact.specs.Transactions.{is_answered_by}
use Rattle.message_end.specs.declared.unsent.Unsent.{Unsent}
use Rattle.message_end.specs.Core.{Command, EndView, Step, Went, and_then, answers, carried, carry, drawn_primary, draws, drops, gives, is_crowded_out, keeps_drawn, noted, offers, primary_of, queues, replies, reply_function, reply_of, sends, step_in, times_out, unsent_name, with_asked, with_end, with_outgoing}
use Rattle.message_end.specs.Core.Went.{Goes, Spent}
use Rattle.message_end.specs.Duties.{Duty, all_done}

-- a note that changes nothing of what is owed to a journal, may be made whatever is owed, and stands before no change
-- of a file
abbrev pub IsFree : Happening → Type 0
IsFree (Happening.Received message) = ⊥
IsFree (Happening.Storing number message) = ⊥
IsFree (Happening.Leaving number cause room_for) = ⊥
IsFree (Happening.Keeping primary) = ⊥
IsFree (Happening.HostStarted journal) = ⊥
IsFree (Happening.Listing number listed) = ⊥
IsFree (Happening.Listed number listed) = ⊥
IsFree (Happening.Wrote characters) = ⊥
IsFree Happening.StepEnded = ⊥
IsFree _ = Unit {0}

-- a command that brings such notes alone, and no numbers
abbrev pub BringsFree : {K : Type 0} → Command K → Type 0
BringsFree (Command.Note what) = IsFree what
BringsFree (Command.Take byte now) = ⊥
BringsFree (Command.More count) = ⊥
BringsFree Command.CloseStep = ⊥
BringsFree _ = Unit {0}

abbrev pub AllFree : {K : Type 0} → List (Command K) → Type 0
AllFree [] = Unit {0}
AllFree (one ∷ commands) = BringsFree one × AllFree commands

abbrev pub AreFreeDuties : {K : Type 0} → List (Duty K) → Type 0
AreFreeDuties {K} [] = Unit {0}
AreFreeDuties {K} (duty ∷ duties) = ((e : EndView K) → AllFree (duty e)) × AreFreeDuties duties

module _ {K : Type 0} (P : List Happening → Type 0)
    (more : (notes : List Happening) (what : Happening) → IsFree what → P notes → P (notes ++ what ∷ []))
  where
    -- of a step that goes on, or not
    abbrev pub OnNotes : Went (EndView K) Happening → Type 0
    OnNotes went = P (step_in went).notes

    notes-then :
        (went : Went (EndView K) Happening) (next : Step (EndView K) Happening → Went (EndView K) Happening)
        → OnNotes went → ((step : Step (EndView K) Happening) → P step.notes → OnNotes (next step))
        → OnNotes (and_then went next)
    notes-then (Goes step) next is behind = behind step is
    notes-then (Spent step) next is behind = is

    primary-keeps :
        (unsent : Unsent K) (step : Step (EndView K) Happening) (crowded : Bool) (next : Option ℕ) → P step.notes
        → OnNotes (if crowded then Goes (noted Some (Happening.Full (unsent_name unsent)) step)
        else draws next (sends Some unsent) step)
    primary-keeps unsent step true next is = more step.notes (Happening.Full (unsent_name unsent)) tt is
    primary-keeps unsent step false None is = is
    primary-keeps unsent step false (Some number) is =
        more step.notes (Happening.Sent (primary_of unsent number)) tt is

    draw-keeps :
        (step : Step (EndView K) Happening) (next : Option ℕ) → P step.notes → OnNotes (draws next keeps_drawn step)
    draw-keeps step None is = is
    draw-keeps step (Some number) is = is

    drawn-keeps :
        (unsent : Unsent K) (step : Step (EndView K) Happening) (drawn : Option ℕ) → P step.notes
        → P (drawn_primary Some unsent drawn step).notes
    drawn-keeps unsent step None is = is
    drawn-keeps unsent step (Some number) is = go (is_crowded_out (is_some unsent.kind) step.next)
      where
        go : (crowded : Bool)
            → P (if crowded then noted Some (Happening.Full (unsent_name unsent)) step
            else sends Some unsent number (with_end (record step.next { drawn = None }) step)).notes
        go true = more step.notes (Happening.Full (unsent_name unsent)) tt is
        go false = more step.notes (Happening.Sent (primary_of unsent number)) tt is

    replies-keep :
        (function : ℕ → ℕ) (body : List ℕ) (step : Step (EndView K) Happening) (asked : Option Title) → P step.notes
        → P (replies Some asked function body step).notes
    replies-keep function body step None is = is
    replies-keep function body step (Some title) is = go (nat_le 128 (length step.next.outgoing.waiting))
      where
        go : (full : Bool)
            → let message = reply_of title (function title.name.function) body in
            P (if full then noted Some (Happening.Full (message_name message)) (with_end
            (with_asked None step.next) step)
            else queues Some message (with_end (with_asked None step.next) step)).notes
        go true =
            more step.notes (Happening.Full (message_name (reply_of title (function title.name.function) body))) tt is
        go false = more step.notes (Happening.Sent (reply_of title (function title.name.function) body)) tt is

    gives-keep :
        (block : Option BlockView) (now : ℕ) (step : Step (EndView K) Happening) → P step.notes
        → P (gives block now step).notes
    gives-keep None now step is = is
    gives-keep (Some block) now step is = is

    offers-keep :
        (phase : Phase) (held : Option BlockView) (now : ℕ) (step : Step (EndView K) Happening) → P step.notes
        → P (offers phase held now step).notes
    offers-keep Idle (Some held) now step is = is
    offers-keep Idle None now step is =
        let out = step.next.outgoing in
        gives-keep (next_block_of out.side out.device out.waiting).0 now
        (with_end (with_outgoing (next_turn out) step.next) step) is
    offers-keep AwaitEot held now step is = is
    offers-keep AwaitAck held now step is = is
    offers-keep AwaitLength held now step is = is
    offers-keep Gathering held now step is = is
    offers-keep Settling held now step is = is

    drops-keep :
        (header : Option Header) (now : ℕ) (step : Step (EndView K) Happening) → P step.notes
        → P (drops Some header now step).notes
    drops-keep None now step is = is
    drops-keep (Some header) now step is = more step.notes (Happening.DroppedByT4 header) tt is

    times-out-keep :
        (test : Begun K → Bool) (found : Option (Begun K)) (step : Step (EndView K) Happening) → P step.notes
        → P (times_out Some test found step).notes
    times-out-keep test None step is = is
    times-out-keep test (Some begun) step is =
        more step.notes (Happening.TimedOut (header_title begun.header)) tt is

    answers-keep :
        (header : Header) (found : Option (Begun K)) (step : Step (EndView K) Happening) → P step.notes
        → P (answers Some header found step).notes
    answers-keep header None step is = more step.notes (Happening.Stranger (header_title header)) tt is
    answers-keep header (Some begun) step is = is

    pub carry-keeps :
        (one : Command K) (step : Step (EndView K) Happening) → BringsFree one → P step.notes
        → OnNotes (carry Some one step)
    carry-keeps (Command.Note what) step free is = more step.notes what free is
    carry-keeps (Command.Primary unsent) step free is =
        primary-keeps unsent step (is_crowded_out (is_some unsent.kind) step.next) (next_number step.next.numbers) is
    carry-keeps Command.Draw step free is = draw-keeps step (next_number step.next.numbers) is
    carry-keeps (Command.DrawnPrimary unsent) step free is = drawn-keeps unsent step step.next.drawn is
    carry-keeps (Command.More count) step free is = absurd free
    carry-keeps (Command.Reply body) step free is = replies-keep reply_function body step step.next.asked is
    carry-keeps Command.Abort step free is = replies-keep (λ function. 0) [] step step.next.asked is
    carry-keeps (Command.Tick now) step free is = is
    carry-keeps (Command.Take byte now) step free is = absurd free
    carry-keeps (Command.Offer now) step free is =
        offers-keep step.next.line.phase step.next.line.held now step is
    carry-keeps (Command.DropDue now) step free is =
        drops-keep (header_so_far (find (assembly.is_due now) step.next.assembly.partials)) now step is
    carry-keeps (Command.Expire now) step free is =
        times-out-keep (transactions.is_due now) (find (transactions.is_due now) step.next.transactions.begun) step is
    carry-keeps (Command.Answer header) step free is =
        answers-keep header (find (is_answered_by header) step.next.transactions.begun) step is
    carry-keeps (Command.GiveUp header) step free is =
        times-out-keep (is_answered_by header) (find (is_answered_by header) step.next.transactions.begun) step is
    carry-keeps (Command.End system) step free is = is
    carry-keeps (Command.Recall header) step free is = is
    carry-keeps (Command.Remove primary system) step free is = is
    carry-keeps Command.DropFront step free is = is
    carry-keeps Command.CloseStep step free is = absurd free
    carry-keeps Command.Halt step free is = is

    pub carried-keep :
        (commands : List (Command K)) (step : Step (EndView K) Happening) → AllFree commands → P step.notes
        → OnNotes (carried Some commands step)
    carried-keep [] step free is = is
    carried-keep (one ∷ commands) step free is =
        notes-then (carry Some one step) (carried Some commands) (carry-keeps one step free.0 is)
        (λ next at. carried-keep commands next free.1 at)

    pub done-keep :
        (duties : List (Duty K)) (step : Step (EndView K) Happening) → AreFreeDuties duties → P step.notes
        → OnNotes (all_done Some duties step)
    done-keep [] step free is = is
    done-keep (duty ∷ duties) step free is =
        notes-then (carried Some (duty step.next) step) (all_done Some duties)
        (carried-keep (duty step.next) step (free.0 step.next) is)
        (λ next at. done-keep duties next free.1 at)
