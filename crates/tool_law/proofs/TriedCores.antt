-- Which primaries wait behind a command, and which number is drawn by itself: so that behind a try no message of an
-- earlier one joins those that wait.
use Rattle.std.proofs.Common.{◌≡◌, refl, sym, ap, subst, ◌∙◌, inl, inr, ◌⊎◌, arith, ◌<◌, ◌≤◌, ◌+◌, ◌-◌, ◌%◌, ◌==◌, ◌&&◌, ◌||◌, not, nat_le, Bool, true, false, ℕ, List, [], ◌∷◌, ◌++◌, take, drop, length, Option, Some, None, if◌then◌else◌}
use Rattle.std.proofs.lemmas.Bool.Decides.{nat_tests}
use Rattle.std.specs.List.{find, suffix_len}
use Rattle.std.specs.Prelude.{is_some}
use Rattle.block_codec.specs.Block.{BlockView}
use Rattle.block_codec.specs.declared.header.Header.{Header}
use Rattle.line_end.specs.declared.event.LineEvent.{LineEvent}
use Rattle.line_end.specs.declared.event.LineEvent.TheVariants as event
use Rattle.line_end.specs.declared.event.Phase.{Phase}
use Rattle.line_end.specs.declared.event.Phase.TheVariants as phase
use Rattle.line_end.specs.Step.{LineCall, line_step}
use Rattle.message_flow.proofs.Firsts.{removed}
use Rattle.message_flow.specs.declared.flow.Flow.{Flow}
use Rattle.message_flow.specs.declared.flow.Flow.TheVariants as flow
use Rattle.message_flow.specs.declared.message.Message.{Message}
use Rattle.message_flow.specs.declared.waiting.Waiting.{Waiting}
use Rattle.message_flow.specs.Assembly as assembly
use Rattle.message_flow.specs.Assembly.{flow_to, header_so_far, with_block}
use Rattle.message_flow.specs.Blocks.{block_count}
use Rattle.message_flow.specs.Message.{is_primary}
use Rattle.message_flow.specs.Outgoing.{is_source_of, next_block_of, next_turn, with_message, without_first}
use Rattle.message_flow.specs.Waiting.{is_named}
use Rattle.trace_log.specs.declared.names.Title.{Title}
use Rattle.trace_log.specs.Log.{Happening}
use Rattle.trace_log.specs.Names.{message_name, title_of}
use Rattle.transact.specs.declared.begun.Begun.{Begun}
use Rattle.transact.specs.Numbers.{NumbersView, next_number}
use Rattle.transact.specs.Transactions as transactions
use Rattle.transact.specs.Transactions.{is_answered_by}
use Rattle.message_end.specs.declared.unsent.Unsent.{Unsent}
use Rattle.message_end.specs.Core.{Command, EndView, Step, Went, answers, asked_by, calls, cancels, carried, carry, drawn_primary, draws, drops, gives, held_header, is_crowded_out, is_held_answered, is_waiting_answered, judges, keeps_drawn, noted, offers, primary_of, queues, replies, reply_function, reply_of, sends, starts_t3, takes, takes_back, tells, times_out, unsent_name, waiting_primary, with_asked, with_assembly, with_end, with_outgoing, with_transactions, without_answered}
use Rattle.message_end.specs.Core.Went.{Goes, Spent}
use Rattle.message_end.specs.Duties.{all_done}
use Rattle.message_end.specs.Own.{Has}
use Rattle.message_end.specs.Parts.{Node, after_parts, after_turn, core_step, went_with}
use Rattle.message_end.proofs.Parts.{OnEither, either-less, either-then}
use Rattle.message_end.proofs.Lists.{has-cut, has-less, has-snoc}
use Rattle.spool_law.specs.Tries.{IsNewest}
use Rattle.tool_step.specs.declared.kind.Kind.{Kind}
use Rattle.tool_step.specs.Own.{OwnView, ToolCommands, ToolDuty, ToolPart, ToolTurn}
use Rattle.tool_law.specs.Tried.{AreInTurn, WaitsIn}
use Rattle.tool_law.proofs.CoreSteps.{CoreStep}

-- what asks for a reply is a primary
abbrev pub AsksOfPrimary : Option Title → Type 0
AsksOfPrimary None = Unit {0}
AsksOfPrimary (Some title) = (title.name.function % 2 == 1) ≡ true

-- so its reply is none
even-reply : (function : ℕ) → (function % 2 == 1) ≡ true → (reply_function function % 2 == 1) ≡ false
even-reply function odd = grind (arith, nat_tests, odd)

-- ---- which messages wait

-- a primary that waited before, that has the number drawn by itself before, or one that was left then
abbrev pub IsOfBefore : EndView Kind → Message → Type 0
IsOfBefore old message =
    WaitsIn old.outgoing.waiting message
    ⊎ ((old.drawn ≡ Some message.system) ⊎ (old.numbers.next ≤ message.system))

-- so it is with each primary that waits now, and with the number that is drawn by itself
pub record IsTurned (old new : EndView Kind) : Type 0 where
  pub next : old.numbers.next ≤ new.numbers.next
  pub drawn :
      (number : ℕ) → new.drawn ≡ Some number → (old.drawn ≡ Some number) ⊎ (old.numbers.next ≤ number)
  pub waits :
      (message : Message) → is_primary message ≡ true → WaitsIn new.outgoing.waiting message → IsOfBefore old message
  pub asks : AsksOfPrimary new.asked

pub turned-both : (one two three : EndView Kind) → IsTurned one two → IsTurned two three → IsTurned one three
turned-both one two three first second = record {
  next = let a = first.next in let b = second.next in omega (arith, a, b);
  drawn = λ number is. by number (second.drawn number is);
  waits = λ message primary waits. go message primary (second.waits message primary waits);
  asks = second.asks;
}
  where
    by : (number : ℕ) → (two.drawn ≡ Some number) ⊎ (two.numbers.next ≤ number)
        → (one.drawn ≡ Some number) ⊎ (one.numbers.next ≤ number)
    by number (inl is) = first.drawn number is
    by number (inr least) = let a = first.next in inr (omega (arith, a, least))

    go : (message : Message) → is_primary message ≡ true → IsOfBefore two message → IsOfBefore one message
    go message primary (inl waits) = first.waits message primary waits
    go message primary (inr later) = inr (by message.system later)

-- ---- changes of what waits

-- nothing is drawn, and no message joins those that wait
less : (old new : EndView Kind) → new.numbers ≡ old.numbers → new.drawn ≡ old.drawn
    → ((one : Waiting) → Has new.outgoing.waiting one → WaitsIn old.outgoing.waiting one.message)
    → AsksOfPrimary new.asked → IsTurned old new
less old new numbers drawn waits asks = record {
  next = subst (λ (n : NumbersView). old.numbers.next ≤ n.next) (sym numbers) (omega arith);
  drawn = λ number is. inl (sym drawn ∙ is);
  waits = λ message primary one. inl (moved message one);
  asks = asks;
}
  where
    moved : (message : Message) → WaitsIn new.outgoing.waiting message → WaitsIn old.outgoing.waiting message
    moved message one =
        let was = waits one.one one.has in record { one = was.one; has = was.has; is = was.is ∙ one.is }

itself-waits : (waiting : List Waiting) (one : Waiting) → Has waiting one → WaitsIn waiting one.message
itself-waits waiting one has = record { one = one; has = has; is = refl }

-- what waits is as it was
same : (old new : EndView Kind) → new.numbers ≡ old.numbers → new.drawn ≡ old.drawn
    → new.outgoing.waiting ≡ old.outgoing.waiting → AsksOfPrimary new.asked → IsTurned old new
same old new numbers drawn waiting asks =
    less old new numbers drawn
    (λ one has.
    itself-waits old.outgoing.waiting one (subst (λ (all : List Waiting). Has all one) waiting has))
    asks

pub itself : (core : EndView Kind) → AsksOfPrimary core.asked → IsTurned core core
itself core asks = same core core refl refl refl asks

-- a message with no block gone
abbrev waiting_with : Message → Waiting
waiting_with message = record { message = message; gone = 0 }

-- a message joins the others
joins :
    (old new : EndView Kind) (message : Message) → old.numbers.next ≤ new.numbers.next
    → ((number : ℕ) → new.drawn ≡ Some number → (old.drawn ≡ Some number) ⊎ (old.numbers.next ≤ number))
    → new.outgoing.waiting ≡ with_message old.outgoing.waiting message
    → (is_primary message ≡ true → IsOfBefore old message) → AsksOfPrimary new.asked → IsTurned old new
joins old new message next drawn is may asks = record {
  next = next;
  drawn = drawn;
  waits = λ other primary waits.
      go other primary waits.one waits.is
      (has-snoc old.outgoing.waiting (waiting_with message) waits.one
      (subst (λ (all : List Waiting). Has all waits.one) is waits.has));
  asks = asks;
}
  where
    go : (other : Message) → is_primary other ≡ true → (one : Waiting) → one.message ≡ other
        → Has old.outgoing.waiting one ⊎ (one ≡ waiting_with message) → IsOfBefore old other
    go other primary one at (inl has) = inl (record { one = one; has = has; is = at })
    go other primary one at (inr new_one) =
        let here : message ≡ other = sym (ap (λ (w : Waiting). w.message) new_one) ∙ at in
        subst (IsOfBefore old) here (may (ap is_primary here ∙ primary))

-- the first that passes waits no longer
first-less :
    (test : Waiting → Bool) (waiting : List Waiting) (one : Waiting) → Has (without_first test waiting) one
    → WaitsIn waiting one.message
first-less test waiting one has =
    itself-waits waiting one
    (has-less test waiting one (subst (λ (all : List Waiting). Has all one) (removed test waiting) has))

cut-less :
    (a b : ℕ) (waiting : List Waiting) → a ≤ b → (one : Waiting) → Has (take a waiting ++ drop b waiting) one
    → WaitsIn waiting one.message
cut-less a b waiting least one has = itself-waits waiting one (has-cut a b waiting one least has)

-- a block of the first one goes
turn-less :
    (waiting : List Waiting) (out : EndView Kind) (one : Waiting)
    → Has (next_block_of out.outgoing.side out.outgoing.device waiting).1 one → WaitsIn waiting one.message
turn-less [] out one has = absurd has
turn-less (first ∷ rest) out one has = go (first.gone + 1 == block_count first.message) has
  where
    by : Has rest one ⊎ (one ≡ record first { gone = first.gone + 1 }) → WaitsIn (first ∷ rest) one.message
    by (inl has) = record { one = one; has = inr has; is = refl }
    by (inr is) = record { one = first; has = inl refl; is = sym (ap (λ (w : Waiting). w.message) is) }

    go : (last : Bool) → Has (if last then rest else rest ++ record first { gone = first.gone + 1 } ∷ []) one
        → WaitsIn (first ∷ rest) one.message
    go true has = record { one = one; has = inr has; is = refl }
    go false has = by (has-snoc rest (record first { gone = first.gone + 1 }) one has)

-- ---- commands

abbrev pub Turned : CoreStep → CoreStep → Type 0
Turned step next = IsTurned step.next next.next

inj : (x y : ℕ) → Some x ≡ Some y → x ≡ y
inj x y e = cc

-- one number is drawn
one-drawn : (numbers : NumbersView) → (numbers.next == numbers.end) ≡ false
    → numbers.next
    ≤ (if numbers.next == numbers.end then numbers else record numbers { next = numbers.next + 1 }).next
one-drawn numbers e =
    subst
    (λ (b : Bool). numbers.next ≤ (if b then numbers else record numbers { next = numbers.next + 1 }).next)
    (sym e) (omega arith)

primary-turned :
    (unsent : Unsent Kind) (step : CoreStep) → AsksOfPrimary step.next.asked
    → OnEither (Turned step) (Turned step) (carry Some (Command.Primary unsent) step)
primary-turned unsent step asks = go (is_crowded_out (is_some unsent.kind) step.next)
  where
    numbered : (none : Bool) → (step.next.numbers.next == step.next.numbers.end) ≡ none
        → OnEither (Turned step) (Turned step)
        (draws (if none then None else Some step.next.numbers.next) (sends Some unsent) step)
    numbered true e = itself step.next asks
    numbered false e =
        joins step.next _ (primary_of unsent step.next.numbers.next) (one-drawn step.next.numbers e)
        (λ number is. inl is) refl (λ primary. inr (inr (omega arith))) asks

    go : (crowded : Bool)
        → OnEither (Turned step) (Turned step)
        (if crowded then Goes (noted Some (Happening.Full (unsent_name unsent)) step)
        else draws (next_number step.next.numbers) (sends Some unsent) step)
    go true = itself step.next asks
    go false = numbered (step.next.numbers.next == step.next.numbers.end) refl

draw-turned :
    (step : CoreStep) → AsksOfPrimary step.next.asked
    → OnEither (Turned step) (Turned step) (carry Some Command.Draw step)
draw-turned step asks = numbered (step.next.numbers.next == step.next.numbers.end) refl
  where
    numbered : (none : Bool) → (step.next.numbers.next == step.next.numbers.end) ≡ none
        → OnEither (Turned step) (Turned step)
        (draws (if none then None else Some step.next.numbers.next) keeps_drawn step)
    numbered true e = itself step.next asks
    numbered false e = record {
      next = one-drawn step.next.numbers e;
      drawn = λ number is. let at = inj step.next.numbers.next number is in inr (omega (arith, at));
      waits = λ message primary waits. inl waits;
      asks = asks;
    }

drawn-turned :
    (unsent : Unsent Kind) (step : CoreStep) → AsksOfPrimary step.next.asked
    → Turned step (drawn_primary Some unsent step.next.drawn step)
drawn-turned unsent step asks = go step.next.drawn refl
  where
    room : (number : ℕ) → step.next.drawn ≡ Some number → (crowded : Bool)
        → Turned step
        (if crowded then noted Some (Happening.Full (unsent_name unsent)) step
        else sends Some unsent number (with_end (record step.next { drawn = None }) step))
    room number e true = itself step.next asks
    room number e false =
        joins step.next _ (primary_of unsent number) (omega arith) (λ other is. absurd (cc)) refl
        (λ primary. inr (inl e)) asks

    go : (drawn : Option ℕ) → step.next.drawn ≡ drawn → Turned step (drawn_primary Some unsent drawn step)
    go None e = itself step.next asks
    go (Some number) e = room number e (is_crowded_out (is_some unsent.kind) step.next)

reply-turned :
    (function : ℕ → ℕ) (body : List ℕ) (step : CoreStep)
    → ((n : ℕ) → (n % 2 == 1) ≡ true → (function n % 2 == 1) ≡ false)
    → AsksOfPrimary step.next.asked → Turned step (replies Some step.next.asked function body step)
reply-turned function body step even asks = go step.next.asked asks
  where
    room :
        (title : Title) → AsksOfPrimary (Some title) → (full : Bool)
        → Turned step
        (if full
        then noted Some (Happening.Full (message_name (reply_of title (function title.name.function) body)))
        (with_end (with_asked None step.next) step)
        else queues Some (reply_of title (function title.name.function) body)
        (with_end (with_asked None step.next) step))
    room title asks true = same step.next (with_asked None step.next) refl refl refl tt
    room title asks false =
        joins step.next _ (reply_of title (function title.name.function) body) (omega arith) (λ number is. inl is) refl
        (λ primary. absurd (grind (arith, primary, even title.name.function asks))) tt

    go : (asked : Option Title) → AsksOfPrimary asked → Turned step (replies Some asked function body step)
    go None none = itself step.next asks
    go (Some title) odd = room title odd (nat_le 128 (length step.next.outgoing.waiting))

offer-turned :
    (at : Phase) (held : Option BlockView) (now : ℕ) (step : CoreStep) → AsksOfPrimary step.next.asked
    → Turned step (offers at held now step)
offer-turned at held now step asks = go at held
  where
    given : (block : Option BlockView)
        → Turned step (gives block now (with_end (with_outgoing (next_turn step.next.outgoing) step.next) step))
    given None = less step.next _ refl refl (turn-less step.next.outgoing.waiting step.next) asks
    given (Some block) = less step.next _ refl refl (turn-less step.next.outgoing.waiting step.next) asks

    go : (at : Phase) (held : Option BlockView) → Turned step (offers at held now step)
    go phase.Idle (Some held) = same step.next _ refl refl refl asks
    go phase.Idle None =
        given (next_block_of step.next.outgoing.side step.next.outgoing.device step.next.outgoing.waiting).0
    go phase.AwaitEot held = itself step.next asks
    go phase.AwaitAck held = itself step.next asks
    go phase.AwaitLength held = itself step.next asks
    go phase.Gathering held = itself step.next asks
    go phase.Settling held = itself step.next asks

drop-turned :
    (header : Option Header) (now : ℕ) (step : CoreStep) → AsksOfPrimary step.next.asked
    → Turned step (drops Some header now step)
drop-turned None now step asks = itself step.next asks
drop-turned (Some header) now step asks = same step.next _ refl refl refl asks

time-turned :
    (test : Begun Kind → Bool) (found : Option (Begun Kind)) (step : CoreStep) → AsksOfPrimary step.next.asked
    → Turned step (times_out Some test found step)
time-turned test None step asks = itself step.next asks
time-turned test (Some begun) step asks = same step.next _ refl refl refl asks

answer-turned :
    (header : Header) (found : Option (Begun Kind)) (step : CoreStep) → AsksOfPrimary step.next.asked
    → Turned step (answers Some header found step)
answer-turned header None step asks = itself step.next asks
answer-turned header (Some begun) step asks = same step.next _ refl refl refl asks

-- ---- what comes in

abbrev unheld : Bool → Bool → Header → ℕ → EndView Kind → EndView Kind
unheld held waits header now core =
    with_outgoing (without_answered waits header.system core.outgoing)
    (with_transactions (starts_t3 (held || waits) header.system now core.transactions) core)

taken-back : (header : Header) (now : ℕ) (core : EndView Kind) → AsksOfPrimary core.asked
    → IsTurned core (takes_back header now core)
taken-back header now core asks =
    go (is_held_answered header core.line.held)
    (is_waiting_answered header core.outgoing (waiting_primary header.system core.outgoing))
  where
    go : (held waits : Bool) → IsTurned core (cancels held (unheld held waits header now core))
    go true true = less core _ refl refl (first-less (is_named true header.system) core.outgoing.waiting) asks
    go true false = same core _ refl refl refl asks
    go false true = less core _ refl refl (first-less (is_named true header.system) core.outgoing.waiting) asks
    go false false = same core _ refl refl refl asks

asked-primary : (message : Message) → AsksOfPrimary (asked_by message)
asked-primary message = go (is_primary message) refl message.wait
  where
    go : (primary : Bool) → is_primary message ≡ primary → (wait : Bool)
        → AsksOfPrimary (if primary && wait then Some (title_of message) else None)
    go true e true = e
    go true e false = tt
    go false e wait = tt

judged-turned :
    (header : Header) (judged : Flow) (step : CoreStep) → AsksOfPrimary step.next.asked
    → Turned step (judges Some header judged step)
judged-turned header flow.Part step asks = same step.next _ refl refl refl asks
judged-turned header (flow.Whole message check) step asks =
    same step.next (with_asked (asked_by message) step.next) refl refl refl (asked-primary message)
judged-turned header flow.Duplicate step asks = itself step.next asks
judged-turned header (flow.Foreign address) step asks = itself step.next asks
judged-turned header flow.Unexpected step asks = itself step.next asks
judged-turned header flow.TooLong step asks = itself step.next asks
judged-turned header flow.Crowded step asks = itself step.next asks

abbrev filled : BlockView → ℕ → EndView Kind → EndView Kind
filled block now core = with_assembly (with_block core.assembly block now) core

told-turned :
    (held : Option Header) (happened : LineEvent) (now : ℕ) (step : CoreStep) → AsksOfPrimary step.next.asked
    → Turned step (tells Some held happened now step)
told-turned held (event.Arrived block) now step asks =
    let first = same step.next (filled block now step.next) refl refl refl asks in
    let back = taken-back block.header now (filled block now step.next) asks in
    let both =
    turned-both step.next (filled block now step.next) (takes_back block.header now (filled block now step.next)) first
    back
    in
    turned-both step.next (takes_back block.header now (filled block now step.next)) _ both
    (judged-turned block.header (flow_to step.next.assembly block)
    (with_end (takes_back block.header now (filled block now step.next)) step) back.asks)
told-turned held event.Sent now step asks = same step.next _ refl refl refl asks
told-turned held event.Nothing now step asks = itself step.next asks
told-turned held event.Failed now step asks = itself step.next asks
told-turned held (event.Refused cause) now step asks = itself step.next asks

taken-turned : (byte now : ℕ) (step : CoreStep) → AsksOfPrimary step.next.asked → Turned step (takes Some byte now step)
taken-turned byte now step asks =
    turned-both step.next (calls (LineCall.Take byte now) step).next _
    (same step.next (calls (LineCall.Take byte now) step).next refl refl refl asks)
    (told-turned (held_header step.next.line.held) (line_step step.next.line (LineCall.Take byte now)).event now
    (calls (LineCall.Take byte now) step) asks)

-- ---- all commands

pub carry-turned :
    (command : Command Kind) (step : CoreStep) → AsksOfPrimary step.next.asked
    → OnEither (Turned step) (Turned step) (carry Some command step)
carry-turned (Command.Note what) step asks = itself step.next asks
carry-turned (Command.Primary unsent) step asks = primary-turned unsent step asks
carry-turned Command.Draw step asks = draw-turned step asks
carry-turned (Command.DrawnPrimary unsent) step asks = drawn-turned unsent step asks
carry-turned (Command.More count) step asks = record {
  next = omega arith;
  drawn = λ number is. inl is;
  waits = λ message primary waits. inl waits;
  asks = asks;
}
carry-turned (Command.Reply body) step asks = reply-turned reply_function body step even-reply asks
carry-turned Command.Abort step asks = reply-turned (λ function. 0) [] step (λ n odd. refl) asks
carry-turned (Command.Tick now) step asks = same step.next _ refl refl refl asks
carry-turned (Command.Take byte now) step asks = taken-turned byte now step asks
carry-turned (Command.Offer now) step asks = offer-turned step.next.line.phase step.next.line.held now step asks
carry-turned (Command.DropDue now) step asks =
    drop-turned (header_so_far (find (assembly.is_due now) step.next.assembly.partials)) now step asks
carry-turned (Command.Expire now) step asks =
    time-turned (transactions.is_due now) (find (transactions.is_due now) step.next.transactions.begun) step asks
carry-turned (Command.Answer header) step asks =
    answer-turned header (find (is_answered_by header) step.next.transactions.begun) step asks
carry-turned (Command.GiveUp header) step asks =
    time-turned (is_answered_by header) (find (is_answered_by header) step.next.transactions.begun) step asks
carry-turned (Command.End system) step asks = same step.next _ refl refl refl asks
carry-turned (Command.Recall header) step asks =
    let xs = step.next.outgoing.waiting in
    let s = suffix_len (λ w. not (is_source_of step.next.outgoing header w)) xs in
    less step.next _ refl refl (cut-less (length xs - s - 1) (length xs - s) xs (omega arith)) asks
carry-turned (Command.Remove primary system) step asks =
    less step.next _ refl refl (first-less (is_named primary system) step.next.outgoing.waiting) asks
carry-turned Command.DropFront step asks =
    less step.next _ refl refl (cut-less 0 1 step.next.outgoing.waiting (omega arith)) asks
carry-turned Command.CloseStep step asks = same step.next (with_asked None step.next) refl refl refl tt
carry-turned Command.Halt step asks = itself step.next asks

-- ---- commands, duties, turns and parts, one after the other

more-turned :
    (step next : CoreStep) (went : Went (EndView Kind) Happening) → Turned step next
    → OnEither (Turned next) (Turned next) went → OnEither (Turned step) (Turned step) went
more-turned step next went first more =
    either-less (Turned next) (Turned next) (Turned step) (Turned step) went more
    (λ last. turned-both step.next next.next last.next first) (λ last. turned-both step.next next.next last.next first)

pub carried-turned :
    (commands : ToolCommands) (step : CoreStep) → AsksOfPrimary step.next.asked
    → OnEither (Turned step) (Turned step) (carried Some commands step)
carried-turned [] step asks = itself step.next asks
carried-turned (command ∷ commands) step asks =
    either-then (Turned step) (Turned step) (Turned step) (carry Some command step) (carried Some commands)
    (carry-turned command step asks)
    (λ next first.
    more-turned step next (carried Some commands next) first (carried-turned commands next first.asks))

pub done-turned :
    (duties : List ToolDuty) (step : CoreStep) → AsksOfPrimary step.next.asked
    → OnEither (Turned step) (Turned step) (all_done Some duties step)
done-turned [] step asks = itself step.next asks
done-turned (duty ∷ duties) step asks =
    either-then (Turned step) (Turned step) (Turned step) (carried Some (duty step.next) step) (all_done Some duties)
    (carried-turned (duty step.next) step asks)
    (λ next first. more-turned step next (all_done Some duties next) first (done-turned duties next first.asks))

abbrev pub NodeStep : Type 0
NodeStep = Step (Node OwnView Kind) Happening

abbrev pub NodeTurned : NodeStep → NodeStep → Type 0
NodeTurned step next = IsTurned step.next.core next.next.core

pub turn-turned :
    (turn : ToolTurn) (step : NodeStep) → AsksOfPrimary step.next.core.asked
    → OnEither (NodeTurned step) (NodeTurned step) (after_turn Some turn step)
turn-turned turn step asks =
    go (all_done Some turn.duties (core_step step)) (done-turned turn.duties (core_step step) asks)
  where
    go : (went : Went (EndView Kind) Happening) → OnEither (Turned (core_step step)) (Turned (core_step step)) went
        → OnEither (NodeTurned step) (NodeTurned step) (went_with turn.own went)
    go (Goes next) is = is
    go (Spent next) is = is

pub parts-turned :
    (parts : List ToolPart) (step : NodeStep) → AsksOfPrimary step.next.core.asked
    → OnEither (NodeTurned step) (NodeTurned step) (after_parts Some parts step)
parts-turned [] step asks = itself step.next.core asks
parts-turned (part ∷ parts) step asks =
    either-then (NodeTurned step) (NodeTurned step) (NodeTurned step)
    (after_turn Some (part step.next.own step.next.core) step) (after_parts Some parts)
    (turn-turned (part step.next.own step.next.core) step asks)
    (λ next first.
    either-less (NodeTurned next) (NodeTurned next) (NodeTurned step) (NodeTurned step) (after_parts Some parts next)
    (parts-turned parts next first.asks)
    (λ last. turned-both step.next.core next.next.core last.next.core first)
    (λ last. turned-both step.next.core next.next.core last.next.core first))

-- ---- tries in turn

pub none-tried : (e : EndView Kind) → AreInTurn [] e
none-tried e = record {
  below = λ system has. absurd has;
  drawn = λ number is has. absurd has;
  waits = λ message primary waits has. absurd has;
}

-- no command but the note of a try changes that
pub still-in-turn : (tries : List ℕ) (old new : EndView Kind) → IsTurned old new → AreInTurn tries old
    → AreInTurn tries new
still-in-turn tries old new turned is = record {
  below = λ system has. let a = is.below system has in let b = turned.next in omega (arith, a, b);
  drawn = λ number drawn has. by number has (turned.drawn number drawn);
  waits = λ message primary waits has. go message primary has (turned.waits message primary waits);
}
  where
    by : (number : ℕ) → Has tries number → (old.drawn ≡ Some number) ⊎ (old.numbers.next ≤ number)
        → IsNewest tries number
    by number has (inl drawn) = is.drawn number drawn has
    by number has (inr least) = let below = is.below number has in absurd (omega (arith, below, least))

    go : (message : Message) → is_primary message ≡ true → Has tries message.system → IsOfBefore old message
        → IsNewest tries message.system
    go message primary has (inl waits) = is.waits message primary waits has
    go message primary has (inr later) = by message.system has later

-- none of the messages that wait is of a try
abbrev pub NoneWaits : List ℕ → EndView Kind → Type 0
NoneWaits tries e =
    (message : Message) → is_primary message ≡ true → WaitsIn e.outgoing.waiting message → Has tries message.system
    → ⊥

-- then the number that was drawn by itself may be the next try's
pub tried-in-turn :
    (tries : List ℕ) (e : EndView Kind) (system : ℕ) → e.drawn ≡ Some system → system < e.numbers.next
    → NoneWaits tries e → AreInTurn tries e → AreInTurn (system ∷ tries) e
tried-in-turn tries e system drawn small none is = record {
  below = below;
  drawn = λ number at has. inj system number (sym drawn ∙ at);
  waits = waits;
}
  where
    below : (other : ℕ) → Has (system ∷ tries) other → other < e.numbers.next
    below other (inl same) = omega (arith, small, same)
    below other (inr has) = is.below other has

    waits : (message : Message) → is_primary message ≡ true → WaitsIn e.outgoing.waiting message
        → Has (system ∷ tries) message.system → IsNewest (system ∷ tries) message.system
    waits message primary waiting (inl same) = sym same
    waits message primary waiting (inr has) = absurd (none message primary waiting has)
