-- Notes only grow: what was noted before a command, or a part of a step, stands in front of all that is noted then.
use Rattle.std.proofs.Common.{◌≡◌, refl, sym, ap, ◌∙◌, append_assoc, append-nil, if◌then◌else◌, Bool, true, false, ℕ, List, [], ◌∷◌, ◌++◌, length, nat_le, Option, Some, None}
use Rattle.std.specs.List.{find}
use Rattle.std.specs.Prelude.{is_some}
use Rattle.block_codec.specs.Block.{BlockView}
use Rattle.block_codec.specs.declared.header.Header.{Header}
use Rattle.line_end.specs.declared.event.LineEvent.{LineEvent}
use Rattle.line_end.specs.declared.event.LineEvent.TheVariants.{Arrived, Failed, Nothing, Refused, Sent}
use Rattle.line_end.specs.declared.event.Phase.{Phase}
use Rattle.line_end.specs.declared.event.Phase.TheVariants.{AwaitAck, AwaitEot, AwaitLength, Gathering, Idle, Settling}
use Rattle.line_end.specs.Step.{LineCall, line_step}
use Rattle.message_flow.specs.declared.flow.Flow.{Flow}
use Rattle.message_flow.specs.declared.flow.Flow.TheVariants.{Part as PartOf, Whole, Duplicate, Foreign, Unexpected, TooLong, Crowded}
use Rattle.message_flow.specs.Assembly as assembly
use Rattle.message_flow.specs.Assembly.{flow_to, header_so_far, with_block}
use Rattle.message_flow.specs.Outgoing.{next_block_of, next_turn}
use Rattle.trace_log.specs.declared.names.Title.{Title}
use Rattle.trace_log.specs.Log.{Happening}
use Rattle.trace_log.specs.Names.{header_title, message_name}
use Rattle.transact.specs.declared.begun.Begun.{Begun}
use Rattle.transact.specs.Numbers.{next_number}
use Rattle.transact.specs.Transactions as transactions
use Rattle.transact.specs.Transactions.{is_answered_by}
use Rattle.message_end.specs.declared.unsent.Unsent.{Unsent}
use Rattle.message_end.specs.Core.{Command, EndView, Step, Went, and_then, answers, calls, carried, carry, drawn_primary, draws, drops, gives, held_header, is_crowded_out, judges, keeps_drawn, noted, offers, primary_of, queues, replies, reply_function, reply_of, sends, step_in, takes_back, tells, times_out, unsent_name, with_asked, with_assembly, with_end, with_outgoing}
use Rattle.message_end.specs.Core.Went.{Goes, Spent}
use Rattle.message_end.specs.Duties.{Duty, all_done}
use Rattle.message_end.specs.Ends.{IsFront}
use Rattle.message_end.specs.Parts.{Node, Part, Turn, after_parts, after_turn, core_step, went_with}
use Rattle.message_end.specs.Course.{noted_behind}

-- ---- fronts

pub front-same : (notes : List Happening) → IsFront notes notes
front-same notes = record { rest = []; whole = sym (append-nil notes) }

pub front-more : (notes more : List Happening) → IsFront notes (notes ++ more)
front-more notes more = record { rest = more; whole = refl }

pub front-both : (one two three : List Happening) → IsFront one two → IsFront two three → IsFront one three
front-both one two three first second = record {
  rest = first.rest ++ second.rest;
  whole =
      second.whole ∙ ap (λ (ns : List Happening). ns ++ second.rest) first.whole
      ∙ append_assoc one first.rest second.rest;
}

-- notes of a step that goes on, or not, behind these
abbrev pub GrowsTo : {S : Type 0} → List Happening → Went S Happening → Type 0
GrowsTo notes went = IsFront notes (step_in went).notes

pub grows-then :
    {S : Type 0} (notes : List Happening) (went : Went S Happening) (next : Step S Happening → Went S Happening)
    → GrowsTo notes went → ((step : Step S Happening) → GrowsTo step.notes (next step))
    → GrowsTo notes (and_then went next)
grows-then notes (Goes step) next first more =
    front-both notes step.notes (step_in (next step)).notes first (more step)
grows-then notes (Spent step) next first more = first

-- ---- commands

module _ {K : Type 0} where
  primary-grows :
      (unsent : Unsent K) (step : Step (EndView K) Happening) (crowded : Bool) (next : Option ℕ)
      → GrowsTo step.notes
      (if crowded then Goes (noted Some (Happening.Full (unsent_name unsent)) step)
      else draws next (sends Some unsent) step)
  primary-grows unsent step true next = front-more step.notes (Happening.Full (unsent_name unsent) ∷ [])
  primary-grows unsent step false None = front-same step.notes
  primary-grows unsent step false (Some number) =
      front-more step.notes (Happening.Sent (primary_of unsent number) ∷ [])

  draw-grows : (step : Step (EndView K) Happening) (next : Option ℕ) → GrowsTo step.notes (draws next keeps_drawn step)
  draw-grows step None = front-same step.notes
  draw-grows step (Some number) = front-same step.notes

  drawn-grows :
      (unsent : Unsent K) (step : Step (EndView K) Happening) (drawn : Option ℕ)
      → IsFront step.notes (drawn_primary Some unsent drawn step).notes
  drawn-grows unsent step None = front-same step.notes
  drawn-grows unsent step (Some number) = go (is_crowded_out (is_some unsent.kind) step.next)
    where
      go : (crowded : Bool)
          → IsFront step.notes
          (if crowded then noted Some (Happening.Full (unsent_name unsent)) step
          else sends Some unsent number (with_end (record step.next { drawn = None }) step)).notes
      go true = front-more step.notes (Happening.Full (unsent_name unsent) ∷ [])
      go false = front-more step.notes (Happening.Sent (primary_of unsent number) ∷ [])

  replies-grow :
      (function : ℕ → ℕ) (body : List ℕ) (step : Step (EndView K) Happening) (asked : Option Title)
      → IsFront step.notes (replies Some asked function body step).notes
  replies-grow function body step None = front-same step.notes
  replies-grow function body step (Some title) = go (nat_le 128 (length step.next.outgoing.waiting))
    where
      go : (full : Bool)
          → let message = reply_of title (function title.name.function) body in
          IsFront step.notes
          (if full then noted Some (Happening.Full (message_name message)) (with_end (with_asked None step.next) step)
          else queues Some message (with_end (with_asked None step.next) step)).notes
      go true =
          front-more step.notes (Happening.Full (message_name (reply_of title (function title.name.function) body))
          ∷ [])
      go false = front-more step.notes (Happening.Sent (reply_of title (function title.name.function) body) ∷ [])

  judges-grow :
      (header : Header) (flow : Flow) (step : Step (EndView K) Happening)
      → IsFront step.notes (judges Some header flow step).notes
  judges-grow header PartOf step = front-same step.notes
  judges-grow header (Whole message check) step = front-more step.notes (Happening.Received message ∷ [])
  judges-grow header Duplicate step = front-more step.notes (Happening.Duplicate header ∷ [])
  judges-grow header (Foreign address) step = front-more step.notes (Happening.Foreign header ∷ [])
  judges-grow header Unexpected step = front-more step.notes (Happening.Unexpected header ∷ [])
  judges-grow header TooLong step = front-more step.notes (Happening.TooLongBlock header ∷ [])
  judges-grow header Crowded step = front-more step.notes (Happening.Crowded header ∷ [])

  tells-grow :
      (held : Option Header) (event : LineEvent) (now : ℕ) (step : Step (EndView K) Happening)
      → IsFront step.notes (tells Some held event now step).notes
  tells-grow held (Arrived block) now step =
      judges-grow block.header (flow_to step.next.assembly block)
      (with_end (takes_back block.header now (with_assembly (with_block step.next.assembly block now) step.next)) step)
  tells-grow held Sent now step = front-same step.notes
  tells-grow held Nothing now step = front-same step.notes
  tells-grow held Failed now step = front-same step.notes
  tells-grow held (Refused cause) now step = front-same step.notes

  gives-grow :
      (block : Option BlockView) (now : ℕ) (step : Step (EndView K) Happening)
      → IsFront step.notes (gives block now step).notes
  gives-grow None now step = front-same step.notes
  gives-grow (Some block) now step = front-same step.notes

  offers-grow :
      (phase : Phase) (held : Option BlockView) (now : ℕ) (step : Step (EndView K) Happening)
      → IsFront step.notes (offers phase held now step).notes
  offers-grow Idle (Some held) now step = front-same step.notes
  offers-grow Idle None now step =
      let out = step.next.outgoing in
      gives-grow (next_block_of out.side out.device out.waiting).0 now
      (with_end (with_outgoing (next_turn out) step.next) step)
  offers-grow AwaitEot held now step = front-same step.notes
  offers-grow AwaitAck held now step = front-same step.notes
  offers-grow AwaitLength held now step = front-same step.notes
  offers-grow Gathering held now step = front-same step.notes
  offers-grow Settling held now step = front-same step.notes

  drops-grow :
      (header : Option Header) (now : ℕ) (step : Step (EndView K) Happening)
      → IsFront step.notes (drops Some header now step).notes
  drops-grow None now step = front-same step.notes
  drops-grow (Some header) now step = front-more step.notes (Happening.DroppedByT4 header ∷ [])

  times-out-grow :
      (test : Begun K → Bool) (found : Option (Begun K)) (step : Step (EndView K) Happening)
      → IsFront step.notes (times_out Some test found step).notes
  times-out-grow test None step = front-same step.notes
  times-out-grow test (Some begun) step =
      front-more step.notes (Happening.TimedOut (header_title begun.header) ∷ [])

  answers-grow :
      (header : Header) (found : Option (Begun K)) (step : Step (EndView K) Happening)
      → IsFront step.notes (answers Some header found step).notes
  answers-grow header None step = front-more step.notes (Happening.Stranger (header_title header) ∷ [])
  answers-grow header (Some begun) step = front-same step.notes

  pub carry-grows : (one : Command K) (step : Step (EndView K) Happening) → GrowsTo step.notes (carry Some one step)
  carry-grows (Command.Note what) step = front-more step.notes (what ∷ [])
  carry-grows (Command.Primary unsent) step =
      primary-grows unsent step (is_crowded_out (is_some unsent.kind) step.next) (next_number step.next.numbers)
  carry-grows Command.Draw step = draw-grows step (next_number step.next.numbers)
  carry-grows (Command.DrawnPrimary unsent) step = drawn-grows unsent step step.next.drawn
  carry-grows (Command.More count) step = front-same step.notes
  carry-grows (Command.Reply body) step = replies-grow reply_function body step step.next.asked
  carry-grows Command.Abort step = replies-grow (λ function. 0) [] step step.next.asked
  carry-grows (Command.Tick now) step = front-same step.notes
  carry-grows (Command.Take byte now) step =
      tells-grow (held_header step.next.line.held) (line_step step.next.line (LineCall.Take byte now)).event now
      (calls (LineCall.Take byte now) step)
  carry-grows (Command.Offer now) step = offers-grow step.next.line.phase step.next.line.held now step
  carry-grows (Command.DropDue now) step =
      drops-grow (header_so_far (find (assembly.is_due now) step.next.assembly.partials)) now step
  carry-grows (Command.Expire now) step =
      times-out-grow (transactions.is_due now) (find (transactions.is_due now) step.next.transactions.begun) step
  carry-grows (Command.Answer header) step =
      answers-grow header (find (is_answered_by header) step.next.transactions.begun) step
  carry-grows (Command.GiveUp header) step =
      times-out-grow (is_answered_by header) (find (is_answered_by header) step.next.transactions.begun) step
  carry-grows (Command.End system) step = front-same step.notes
  carry-grows (Command.Recall header) step = front-same step.notes
  carry-grows (Command.Remove primary system) step = front-same step.notes
  carry-grows Command.DropFront step = front-same step.notes
  carry-grows Command.CloseStep step = front-more step.notes (Happening.StepEnded ∷ [])
  carry-grows Command.Halt step = front-same step.notes

  pub carried-grow :
      (commands : List (Command K)) (step : Step (EndView K) Happening)
      → GrowsTo step.notes (carried Some commands step)
  carried-grow [] step = front-same step.notes
  carried-grow (one ∷ commands) step =
      grows-then step.notes (carry Some one step) (carried Some commands) (carry-grows one step)
      (λ next. carried-grow commands next)

  done-grow :
      (duties : List (Duty K)) (step : Step (EndView K) Happening) → GrowsTo step.notes (all_done Some duties step)
  done-grow [] step = front-same step.notes
  done-grow (duty ∷ duties) step =
      grows-then step.notes (carried Some (duty step.next) step) (all_done Some duties)
      (carried-grow (duty step.next) step) (λ next. done-grow duties next)

-- ---- parts of a step

module _ {S K : Type 0} where
  turn-grows :
      (turn : Turn S K) (step : Step (Node S K) Happening) → GrowsTo step.notes (after_turn Some turn step)
  turn-grows turn step = go (all_done Some turn.duties (core_step step)) (done-grow turn.duties (core_step step))
    where
      go : (went : Went (EndView K) Happening) → GrowsTo step.notes went → GrowsTo step.notes (went_with turn.own went)
      go (Goes next) grows = grows
      go (Spent next) grows = grows

  pub parts-grow :
      (parts : List (Part S K)) (step : Step (Node S K) Happening) → GrowsTo step.notes (after_parts Some parts step)
  parts-grow [] step = front-same step.notes
  parts-grow (part ∷ parts) step =
      grows-then step.notes (after_turn Some (part step.next.own step.next.core) step) (after_parts Some parts)
      (turn-grows (part step.next.own step.next.core) step) (λ next. parts-grow parts next)

-- ---- notes behind others

pub behind-both :
    (one two before : List Happening)
    → noted_behind (one ++ two) before ≡ noted_behind two (noted_behind one before)
behind-both [] two before = refl
behind-both (what ∷ one) two before = behind-both one two (what ∷ before)
