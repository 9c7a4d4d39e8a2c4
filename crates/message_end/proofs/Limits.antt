-- The numbers that are left end where they ended before, unless some are added.
use Rattle.std.proofs.Common.{◌≡◌, refl, ◌∙◌, if◌then◌else◌, Bool, true, false, ℕ, ◌+◌, ◌==◌, List, [], ◌∷◌, length, nat_le, Option, Some, None}
use Rattle.std.specs.List.{find}
use Rattle.std.specs.Prelude.{is_some}
use Rattle.block_codec.specs.Block.{BlockView}
use Rattle.block_codec.specs.declared.header.Header.{Header}
use Rattle.line_end.specs.declared.event.LineEvent.{LineEvent}
use Rattle.line_end.specs.declared.event.LineEvent.TheVariants.{Arrived, Failed, Nothing, Refused, Sent}
use Rattle.line_end.specs.declared.event.Phase.{Phase}
use Rattle.line_end.specs.declared.event.Phase.TheVariants.{AwaitAck, AwaitEot, AwaitLength, Gathering, Idle, Settling}
use Rattle.line_end.specs.Step.{LineCall, line_step}
use Rattle.message_flow.specs.declared.flow.Flow.{Flow}
use Rattle.message_flow.specs.declared.flow.Flow.TheVariants.{Part as PartOf, Whole, Duplicate, Foreign, Unexpected, TooLong, Crowded}
use Rattle.message_flow.specs.Assembly as assembly
use Rattle.message_flow.specs.Assembly.{flow_to, header_so_far, with_block}
use Rattle.message_flow.specs.Outgoing.{next_block_of, next_turn}
use Rattle.trace_log.specs.declared.names.Title.{Title}
use Rattle.trace_log.specs.Log.{Happening}
use Rattle.trace_log.specs.Names.{message_name}
use Rattle.transact.specs.declared.begun.Begun.{Begun}
use Rattle.transact.specs.Numbers.{NumbersView, after_draw, next_number}
use Rattle.transact.specs.Transactions as transactions
use Rattle.transact.specs.Transactions.{is_answered_by}
use Rattle.message_end.specs.declared.unsent.Unsent.{Unsent}
use Rattle.message_end.specs.Core.{Command, EndView, Step, Went, and_then, answers, calls, cancels, carried, carry, drawn_primary, draws, drops, gives, held_header, is_crowded_out, is_held_answered, judges, keeps_drawn, noted, offers, queues, replies, reply_function, reply_of, sends, step_in, takes_back, tells, times_out, unsent_name, with_asked, with_assembly, with_end, with_outgoing}
use Rattle.message_end.specs.Core.Went.{Goes, Spent}

-- a command that adds no numbers
abbrev pub AddsNone : {K : Type 0} → Command K → Type 0
AddsNone (Command.More count) = ⊥
AddsNone _ = Unit {0}

abbrev pub AllAddNone : {K : Type 0} → List (Command K) → Type 0
AllAddNone [] = Unit {0}
AllAddNone (one ∷ commands) = AddsNone one × AllAddNone commands

-- where they end
abbrev pub limit_of : {K : Type 0} → Step (EndView K) Happening → ℕ
limit_of step = step.next.numbers.end

drawn-limit : (numbers : NumbersView) → (after_draw numbers).end ≡ numbers.end
drawn-limit numbers = go (numbers.next == numbers.end)
  where
    go : (none : Bool) → (if none then numbers else record numbers { next = numbers.next + 1 }).end ≡ numbers.end
    go true = refl
    go false = refl

module _ {K : Type 0} where
  primary-limit :
      (unsent : Unsent K) (step : Step (EndView K) Happening) (crowded : Bool) (next : Option ℕ)
      → limit_of (step_in (if crowded then Goes (noted Some (Happening.Full (unsent_name unsent)) step)
      else draws next (sends Some unsent) step)) ≡ limit_of step
  primary-limit unsent step true next = refl
  primary-limit unsent step false None = refl
  primary-limit unsent step false (Some number) = drawn-limit step.next.numbers

  draw-limit :
      (step : Step (EndView K) Happening) (next : Option ℕ)
      → limit_of (step_in (draws next keeps_drawn step)) ≡ limit_of step
  draw-limit step None = refl
  draw-limit step (Some number) = drawn-limit step.next.numbers

  drawn-primary-limit :
      (unsent : Unsent K) (step : Step (EndView K) Happening) (drawn : Option ℕ)
      → limit_of (drawn_primary Some unsent drawn step) ≡ limit_of step
  drawn-primary-limit unsent step None = refl
  drawn-primary-limit unsent step (Some number) = go (is_crowded_out (is_some unsent.kind) step.next)
    where
      go : (crowded : Bool)
          → limit_of (if crowded then noted Some (Happening.Full (unsent_name unsent)) step
          else sends Some unsent number (with_end (record step.next { drawn = None }) step)) ≡ limit_of step
      go true = refl
      go false = refl

  replies-limit :
      (function : ℕ → ℕ) (body : List ℕ) (step : Step (EndView K) Happening) (asked : Option Title)
      → limit_of (replies Some asked function body step) ≡ limit_of step
  replies-limit function body step None = refl
  replies-limit function body step (Some title) = go (nat_le 128 (length step.next.outgoing.waiting))
    where
      go : (full : Bool)
          → let message = reply_of title (function title.name.function) body in
          limit_of
          (if full then noted Some (Happening.Full (message_name message)) (with_end (with_asked None step.next) step)
          else queues Some message (with_end (with_asked None step.next) step)) ≡ limit_of step
      go true = refl
      go false = refl

  judges-limit :
      (header : Header) (flow : Flow) (step : Step (EndView K) Happening)
      → limit_of (judges Some header flow step) ≡ limit_of step
  judges-limit header PartOf step = refl
  judges-limit header (Whole message check) step = refl
  judges-limit header Duplicate step = refl
  judges-limit header (Foreign address) step = refl
  judges-limit header Unexpected step = refl
  judges-limit header TooLong step = refl
  judges-limit header Crowded step = refl

  cancels-limit : (held : Bool) (e : EndView K) → (cancels held e).numbers.end ≡ e.numbers.end
  cancels-limit true e = refl
  cancels-limit false e = refl

  tells-limit :
      (held : Option Header) (event : LineEvent) (now : ℕ) (step : Step (EndView K) Happening)
      → limit_of (tells Some held event now step) ≡ limit_of step
  tells-limit held (Arrived block) now step =
      judges-limit block.header (flow_to step.next.assembly block)
      (with_end (takes_back block.header now (with_assembly (with_block step.next.assembly block now) step.next)) step)
      ∙ cancels-limit (is_held_answered block.header step.next.line.held) _
  tells-limit held Sent now step = refl
  tells-limit held Nothing now step = refl
  tells-limit held Failed now step = refl
  tells-limit held (Refused cause) now step = refl

  gives-limit :
      (block : Option BlockView) (now : ℕ) (step : Step (EndView K) Happening)
      → limit_of (gives block now step) ≡ limit_of step
  gives-limit None now step = refl
  gives-limit (Some block) now step = refl

  offers-limit :
      (phase : Phase) (held : Option BlockView) (now : ℕ) (step : Step (EndView K) Happening)
      → limit_of (offers phase held now step) ≡ limit_of step
  offers-limit Idle (Some held) now step = refl
  offers-limit Idle None now step =
      let out = step.next.outgoing in
      gives-limit (next_block_of out.side out.device out.waiting).0 now
      (with_end (with_outgoing (next_turn out) step.next) step)
  offers-limit AwaitEot held now step = refl
  offers-limit AwaitAck held now step = refl
  offers-limit AwaitLength held now step = refl
  offers-limit Gathering held now step = refl
  offers-limit Settling held now step = refl

  drops-limit :
      (header : Option Header) (now : ℕ) (step : Step (EndView K) Happening)
      → limit_of (drops Some header now step) ≡ limit_of step
  drops-limit None now step = refl
  drops-limit (Some header) now step = refl

  times-out-limit :
      (test : Begun K → Bool) (found : Option (Begun K)) (step : Step (EndView K) Happening)
      → limit_of (times_out Some test found step) ≡ limit_of step
  times-out-limit test None step = refl
  times-out-limit test (Some begun) step = refl

  answers-limit :
      (header : Header) (found : Option (Begun K)) (step : Step (EndView K) Happening)
      → limit_of (answers Some header found step) ≡ limit_of step
  answers-limit header None step = refl
  answers-limit header (Some begun) step = refl

  pub carry-limit :
      (one : Command K) (step : Step (EndView K) Happening) → AddsNone one
      → limit_of (step_in (carry Some one step)) ≡ limit_of step
  carry-limit (Command.Note what) step none = refl
  carry-limit (Command.Primary unsent) step none =
      primary-limit unsent step (is_crowded_out (is_some unsent.kind) step.next) (next_number step.next.numbers)
  carry-limit Command.Draw step none = draw-limit step (next_number step.next.numbers)
  carry-limit (Command.DrawnPrimary unsent) step none = drawn-primary-limit unsent step step.next.drawn
  carry-limit (Command.More count) step none = absurd none
  carry-limit (Command.Reply body) step none = replies-limit reply_function body step step.next.asked
  carry-limit Command.Abort step none = replies-limit (λ function. 0) [] step step.next.asked
  carry-limit (Command.Tick now) step none = refl
  carry-limit (Command.Take byte now) step none =
      tells-limit (held_header step.next.line.held) (line_step step.next.line (LineCall.Take byte now)).event now
      (calls (LineCall.Take byte now) step)
  carry-limit (Command.Offer now) step none = offers-limit step.next.line.phase step.next.line.held now step
  carry-limit (Command.DropDue now) step none =
      drops-limit (header_so_far (find (assembly.is_due now) step.next.assembly.partials)) now step
  carry-limit (Command.Expire now) step none =
      times-out-limit (transactions.is_due now) (find (transactions.is_due now) step.next.transactions.begun) step
  carry-limit (Command.Answer header) step none =
      answers-limit header (find (is_answered_by header) step.next.transactions.begun) step
  carry-limit (Command.GiveUp header) step none =
      times-out-limit (is_answered_by header) (find (is_answered_by header) step.next.transactions.begun) step
  carry-limit (Command.End system) step none = refl
  carry-limit (Command.Recall header) step none = refl
  carry-limit (Command.Remove primary system) step none = refl
  carry-limit Command.DropFront step none = refl
  carry-limit Command.CloseStep step none = refl
  carry-limit Command.Halt step none = refl

  pub carried-limit :
      (commands : List (Command K)) (step : Step (EndView K) Happening) → AllAddNone commands
      → limit_of (step_in (carried Some commands step)) ≡ limit_of step
  carried-limit [] step none = refl
  carried-limit (one ∷ commands) step none =
      go (carry Some one step) (carry-limit one step none.0) (λ next. carried-limit commands next none.1)
    where
      go : (went : Went (EndView K) Happening) → limit_of (step_in went) ≡ limit_of step
          → ((next : Step (EndView K) Happening)
          → limit_of (step_in (carried Some commands next)) ≡ limit_of next)
          → limit_of (step_in (and_then went (carried Some commands))) ≡ limit_of step
      go (Goes next) first more = more next ∙ first
      go (Spent next) first more = first
