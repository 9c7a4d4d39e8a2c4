-- How many system bytes commands draw, and which spend them.
use Rattle.std.proofs.Common.{◌≡◌, refl, sym, ap, subst, ◌∙◌, arith, ◌≤◌, ◌+◌, ◌==◌, ◌||◌, nat_le, Bool, true, false, ℕ, List, [], ◌∷◌, ◌++◌, length, Option, Some, None, if◌then◌else◌}
use Rattle.std.proofs.lemmas.Bool.{eqb-true}
use Rattle.std.specs.List.{find}
use Rattle.std.specs.Prelude.{is_some}
use Rattle.block_codec.specs.Block.{BlockView}
use Rattle.block_codec.specs.declared.header.Header.{Header}
use Rattle.line_end.specs.declared.event.LineEvent.{LineEvent}
use Rattle.line_end.specs.declared.event.LineEvent.TheVariants as event
use Rattle.line_end.specs.declared.event.Phase.{Phase}
use Rattle.line_end.specs.declared.event.Phase.TheVariants as phase
use Rattle.line_end.specs.Step.{LineCall, line_step}
use Rattle.message_flow.specs.declared.flow.Flow.{Flow}
use Rattle.message_flow.specs.declared.flow.Flow.TheVariants as flow
use Rattle.message_flow.specs.Assembly as assembly
use Rattle.message_flow.specs.Assembly.{flow_to, header_so_far, with_block}
use Rattle.message_flow.specs.Outgoing.{next_block_of, next_turn}
use Rattle.trace_log.specs.declared.names.Title.{Title}
use Rattle.trace_log.specs.Log.{Happening}
use Rattle.trace_log.specs.Names.{message_name}
use Rattle.transact.specs.declared.begun.Begun.{Begun}
use Rattle.transact.specs.Numbers.{NumbersView, after_draw, next_number}
use Rattle.transact.specs.Transactions as transactions
use Rattle.transact.specs.Transactions.{is_answered_by}
use Rattle.message_end.specs.declared.unsent.Unsent.{Unsent}
use Rattle.message_end.specs.Core.{Command, EndView, Step, Went, and_then, answers, calls, cancels, carried, carry, drawn_primary, draws, drops, gives, held_header, is_crowded_out, is_held_answered, judges, keeps_drawn, noted, offers, queues, replies, reply_function, reply_of, sends, step_in, takes_back, tells, times_out, unsent_name, with_asked, with_assembly, with_end, with_numbers, with_outgoing}
use Rattle.message_end.specs.Core.Went.{Goes, Spent}
use Rattle.message_end.specs.Duties.{all_done}
use Rattle.message_end.proofs.Carrying.{carried_append, done_append}
use Rattle.tool_step.specs.declared.kind.Kind.{Kind}
use Rattle.tool_step.specs.Own.{ToolCommands, ToolDuty}
use Rattle.tool_law.specs.Putting.{where_goes}
use Rattle.tool_law.specs.SpentSteps.{ends_spent}
use Rattle.message_end.proofs.Parts.{OnEither, either-then}
use Rattle.tool_law.proofs.CommandWalks.{AllAre, AllDo}
use Rattle.tool_law.proofs.CoreSteps.{CoreStep}

-- ---- what is drawn

-- no more numbers are drawn than these, none is added, and where as many are left it depends on this whether they are
-- spent then
pub record Costs (most : ℕ) (halts : Bool) (old new : NumbersView) (spent : Bool) : Type 0 where
  pub few : new.next ≤ old.next + most
  pub limit : new.end ≡ old.end
  pub cause : old.next + most ≤ old.end → spent ≡ halts

pub costs-none : (numbers : NumbersView) → Costs 0 false numbers numbers false
costs-none numbers = record { few = omega arith; limit = refl; cause = λ enough. refl }

pub costs-as :
    (one two : ℕ) (h k : Bool) (old new : NumbersView) (spent : Bool) → one ≤ two → h ≡ k → Costs one h old new spent
    → Costs two k old new spent
costs-as one two h k old new spent more same is = record {
  few = let f = is.few in omega (arith, f, more);
  limit = is.limit;
  cause = λ enough. is.cause (omega (arith, enough, more)) ∙ same;
}

pub or-false : (b : Bool) → (b || false) ≡ b
or-false true = refl
or-false false = refl

module _ {S : Type 0} (of : S → NumbersView) where
  abbrev pub numbers_in : Went S Happening → NumbersView
  numbers_in went = of (step_in went).next

  -- one behind the other, where it depends on what came of the first
  pub costs-on :
      (one two : ℕ) (h : Bool) (k : Step S Happening → Bool) (old : NumbersView) (went : Went S Happening)
      (next : Step S Happening → Went S Happening) → Costs one h old (numbers_in went) (ends_spent went)
      → ((step : Step S Happening)
      → Costs two (k step) (of step.next) (numbers_in (next step)) (ends_spent (next step)))
      → Costs (one + two) (h || where_goes k went) old (numbers_in (and_then went next))
      (ends_spent (and_then went next))
  costs-on one two h k old (Goes step) next first more =
      let second = more step in
      let f = first.few in
      let g = second.few in
      let e = first.limit in
      record {
        few = omega (arith, f, g);
        limit = second.limit ∙ e;
        cause = λ enough.
            second.cause (omega (arith, enough, f, e))
            ∙ ap (λ (b : Bool). b || k step) (first.cause (omega (arith, enough)));
      }
  costs-on one two h k old (Spent step) next first more =
      let f = first.few in
      record {
        few = omega (arith, f);
        limit = first.limit;
        cause = λ enough. ap (λ (b : Bool). b || false) (first.cause (omega (arith, enough)));
      }

  pub costs-then :
      (one two : ℕ) (h k : Bool) (old : NumbersView) (went : Went S Happening)
      (next : Step S Happening → Went S Happening) → Costs one h old (numbers_in went) (ends_spent went)
      → ((step : Step S Happening) → Costs two k (of step.next) (numbers_in (next step)) (ends_spent (next step)))
      → Costs (one + two) (h || k) old (numbers_in (and_then went next)) (ends_spent (and_then went next))
  costs-then one two h k old (Goes step) next first more =
      costs-on one two h (λ s. k) old (Goes step) next first more
  costs-then one two h k old (Spent step) next first more =
      let f = first.few in
      record {
        few = omega (arith, f);
        limit = first.limit;
        cause = λ enough. ap (λ (b : Bool). b || k) (first.cause (omega (arith, enough)));
      }

-- ---- one command

-- it draws no number, adds none and isn't the end
abbrev pub IsFree : Command Kind → Type 0
IsFree (Command.Primary unsent) = ⊥
IsFree Command.Draw = ⊥
IsFree (Command.More count) = ⊥
IsFree Command.Halt = ⊥
IsFree _ = Unit {0}

abbrev pub AreFree : ToolCommands → Type 0
AreFree commands = AllAre IsFree commands

abbrev pub AreFreeDuties : List ToolDuty → Type 0
AreFreeDuties duties = AllDo IsFree duties

abbrev numbers_of : CoreStep → NumbersView
numbers_of step = step.next.numbers

abbrev pub core_numbers : EndView Kind → NumbersView
core_numbers e = e.numbers

-- the numbers stay
costs-same : (old new : NumbersView) → new ≡ old → Costs 0 false old new false
costs-same old new same = subst (λ (n : NumbersView). Costs 0 false old n false) (sym same) (costs-none old)

drawn-stay : (unsent : Unsent Kind) (step : CoreStep) (drawn : Option ℕ)
    → numbers_of (drawn_primary Some unsent drawn step) ≡ numbers_of step
drawn-stay unsent step None = refl
drawn-stay unsent step (Some number) = go (is_crowded_out (is_some unsent.kind) step.next)
  where
    go : (crowded : Bool)
        → numbers_of (if crowded then noted Some (Happening.Full (unsent_name unsent)) step
        else sends Some unsent number (with_end (record step.next { drawn = None }) step)) ≡ numbers_of step
    go true = refl
    go false = refl

replies-stay :
    (function : ℕ → ℕ) (body : List ℕ) (step : CoreStep) (asked : Option Title)
    → numbers_of (replies Some asked function body step) ≡ numbers_of step
replies-stay function body step None = refl
replies-stay function body step (Some title) = go (nat_le 128 (length step.next.outgoing.waiting))
  where
    go : (full : Bool)
        → let message = reply_of title (function title.name.function) body in
        numbers_of
        (if full then noted Some (Happening.Full (message_name message)) (with_end (with_asked None step.next) step)
        else queues Some message (with_end (with_asked None step.next) step)) ≡ numbers_of step
    go true = refl
    go false = refl

judges-stay : (header : Header) (came : Flow) (step : CoreStep)
    → numbers_of (judges Some header came step) ≡ numbers_of step
judges-stay header flow.Part step = refl
judges-stay header (flow.Whole message check) step = refl
judges-stay header flow.Duplicate step = refl
judges-stay header (flow.Foreign address) step = refl
judges-stay header flow.Unexpected step = refl
judges-stay header flow.TooLong step = refl
judges-stay header flow.Crowded step = refl

cancels-stay : (held : Bool) (e : EndView Kind) → (cancels held e).numbers ≡ e.numbers
cancels-stay true e = refl
cancels-stay false e = refl

tells-stay :
    (held : Option Header) (happened : LineEvent) (now : ℕ) (step : CoreStep)
    → numbers_of (tells Some held happened now step) ≡ numbers_of step
tells-stay held (event.Arrived block) now step =
    judges-stay block.header (flow_to step.next.assembly block)
    (with_end (takes_back block.header now (with_assembly (with_block step.next.assembly block now) step.next)) step)
    ∙ cancels-stay (is_held_answered block.header step.next.line.held) _
tells-stay held event.Sent now step = refl
tells-stay held event.Nothing now step = refl
tells-stay held event.Failed now step = refl
tells-stay held (event.Refused cause) now step = refl

pub takes-stay : (byte now : ℕ) (step : CoreStep)
    → numbers_of (step_in (carry Some (Command.Take byte now) step)) ≡ numbers_of step
takes-stay byte now step =
    tells-stay (held_header step.next.line.held) (line_step step.next.line (LineCall.Take byte now)).event now
    (calls (LineCall.Take byte now) step)

gives-stay : (block : Option BlockView) (now : ℕ) (step : CoreStep)
    → numbers_of (gives block now step) ≡ numbers_of step
gives-stay None now step = refl
gives-stay (Some block) now step = refl

offers-stay : (at : Phase) (held : Option BlockView) (now : ℕ) (step : CoreStep)
    → numbers_of (offers at held now step) ≡ numbers_of step
offers-stay phase.Idle (Some held) now step = refl
offers-stay phase.Idle None now step =
    let out = step.next.outgoing in
    gives-stay (next_block_of out.side out.device out.waiting).0 now
    (with_end (with_outgoing (next_turn out) step.next) step)
offers-stay phase.AwaitEot held now step = refl
offers-stay phase.AwaitAck held now step = refl
offers-stay phase.AwaitLength held now step = refl
offers-stay phase.Gathering held now step = refl
offers-stay phase.Settling held now step = refl

drops-stay : (header : Option Header) (now : ℕ) (step : CoreStep)
    → numbers_of (drops Some header now step) ≡ numbers_of step
drops-stay None now step = refl
drops-stay (Some header) now step = refl

times-out-stay : (test : Begun Kind → Bool) (found : Option (Begun Kind)) (step : CoreStep)
    → numbers_of (times_out Some test found step) ≡ numbers_of step
times-out-stay test None step = refl
times-out-stay test (Some begun) step = refl

answers-stay : (header : Header) (found : Option (Begun Kind)) (step : CoreStep)
    → numbers_of (answers Some header found step) ≡ numbers_of step
answers-stay header None step = refl
answers-stay header (Some begun) step = refl

abbrev CarryCosts : ℕ → Bool → Command Kind → CoreStep → Type 0
CarryCosts most halts command step =
    Costs most halts step.next.numbers (step_in (carry Some command step)).next.numbers
    (ends_spent (carry Some command step))

free-costs : (command : Command Kind) (step : CoreStep) → IsFree command → CarryCosts 0 false command step
free-costs (Command.Note what) step free = costs-none step.next.numbers
free-costs (Command.Primary unsent) step free = absurd free
free-costs Command.Draw step free = absurd free
free-costs (Command.DrawnPrimary unsent) step free = costs-same _ _ (drawn-stay unsent step step.next.drawn)
free-costs (Command.More count) step free = absurd free
free-costs (Command.Reply body) step free = costs-same _ _ (replies-stay reply_function body step step.next.asked)
free-costs Command.Abort step free = costs-same _ _ (replies-stay (λ function. 0) [] step step.next.asked)
free-costs (Command.Tick now) step free = costs-none step.next.numbers
free-costs (Command.Take byte now) step free = costs-same _ _ (takes-stay byte now step)
free-costs (Command.Offer now) step free =
    costs-same _ _ (offers-stay step.next.line.phase step.next.line.held now step)
free-costs (Command.DropDue now) step free =
    costs-same _ _ (drops-stay (header_so_far (find (assembly.is_due now) step.next.assembly.partials)) now step)
free-costs (Command.Expire now) step free =
    costs-same _ _
    (times-out-stay (transactions.is_due now) (find (transactions.is_due now) step.next.transactions.begun) step)
free-costs (Command.Answer header) step free =
    costs-same _ _ (answers-stay header (find (is_answered_by header) step.next.transactions.begun) step)
free-costs (Command.GiveUp header) step free =
    costs-same _ _
    (times-out-stay (is_answered_by header) (find (is_answered_by header) step.next.transactions.begun) step)
free-costs (Command.End system) step free = costs-none step.next.numbers
free-costs (Command.Recall header) step free = costs-none step.next.numbers
free-costs (Command.Remove primary system) step free = costs-none step.next.numbers
free-costs Command.DropFront step free = costs-none step.next.numbers
free-costs Command.CloseStep step free = costs-none step.next.numbers
free-costs Command.Halt step free = absurd free

-- the next number is drawn, if one is left
drawn-costs : (numbers : NumbersView) → (numbers.next == numbers.end) ≡ false
    → Costs 1 false numbers (after_draw numbers) false
drawn-costs numbers left =
    subst
    (λ (b : Bool). Costs 1 false numbers (if b then numbers else record numbers { next = numbers.next + 1 }) false)
    (sym left) (record { few = omega arith; limit = refl; cause = λ enough. refl })

wanting-costs : (numbers : NumbersView) → (numbers.next == numbers.end) ≡ true → Costs 1 false numbers numbers true
wanting-costs numbers none = record {
  few = omega arith;
  limit = refl;
  cause = λ enough. let e = eqb-true numbers.next numbers.end none in absurd (omega (arith, enough, e));
}

draws-costs :
    (next : ℕ → CoreStep → CoreStep) (step : CoreStep)
    → ((number : ℕ) (other : CoreStep) → numbers_of (next number other) ≡ numbers_of other)
    → Costs 1 false step.next.numbers (step_in (draws (next_number step.next.numbers) next step)).next.numbers
    (ends_spent (draws (next_number step.next.numbers) next step))
draws-costs next step stay = go (step.next.numbers.next == step.next.numbers.end) refl
  where
    go : (none : Bool) → (step.next.numbers.next == step.next.numbers.end) ≡ none
        → Costs 1 false step.next.numbers
        (step_in (draws (if none then None else Some step.next.numbers.next) next step)).next.numbers
        (ends_spent (draws (if none then None else Some step.next.numbers.next) next step))
    go true is = wanting-costs step.next.numbers is
    go false is =
        subst (λ (n : NumbersView). Costs 1 false step.next.numbers n false)
        (sym
        (stay step.next.numbers.next
        (with_end (with_numbers (after_draw step.next.numbers) step.next) step)))
        (drawn-costs step.next.numbers is)

primary-costs : (unsent : Unsent Kind) (step : CoreStep) → CarryCosts 1 false (Command.Primary unsent) step
primary-costs unsent step = go (is_crowded_out (is_some unsent.kind) step.next)
  where
    go : (crowded : Bool)
        → Costs 1 false step.next.numbers
        (step_in (if crowded then Goes (noted Some (Happening.Full (unsent_name unsent)) step)
        else draws (next_number step.next.numbers) (sends Some unsent) step)).next.numbers
        (ends_spent (if crowded then Goes (noted Some (Happening.Full (unsent_name unsent)) step)
        else draws (next_number step.next.numbers) (sends Some unsent) step))
    go true = costs-as 0 1 false false _ _ false (omega arith) refl (costs-none step.next.numbers)
    go false = draws-costs (sends Some unsent) step (λ number other. refl)

-- ---- commands one after the other

pub record Spends (most : ℕ) (halts : Bool) (commands : ToolCommands) : Type 0 where
  pub at : (step : CoreStep)
      → Costs most halts step.next.numbers (step_in (carried Some commands step)).next.numbers
      (ends_spent (carried Some commands step))

pub spends-as :
    (one two : ℕ) (h k : Bool) (commands : ToolCommands) → one ≤ two → h ≡ k → Spends one h commands
    → Spends two k commands
spends-as one two h k commands more same is =
    record { at = λ step. costs-as one two h k _ _ _ more same (is.at step) }

-- at most one more
pub spends-one : (h : Bool) (commands : ToolCommands) → Spends 0 h commands → Spends 1 h commands
spends-one h commands is = spends-as 0 1 h h commands (omega arith) refl is

none-spend : Spends 0 false []
none-spend = record { at = λ step. costs-none step.next.numbers }

more-spend :
    (one two : ℕ) (h k : Bool) (command : Command Kind) (commands : ToolCommands)
    → ((step : CoreStep) → CarryCosts one h command step) → Spends two k commands
    → Spends (one + two) (h || k) (command ∷ commands)
more-spend one two h k command commands first rest = record {
  at = λ step.
      costs-then core_numbers one two h k step.next.numbers (carry Some command step) (carried Some commands)
      (first step)
      (λ next. rest.at next);
}

pub free-spend : (commands : ToolCommands) → AreFree commands → Spends 0 false commands
free-spend [] free = none-spend
free-spend (command ∷ commands) free =
    more-spend 0 0 false false command commands (λ step. free-costs command step free.0)
    (free-spend commands free.1)

pub primary-spend : (unsent : Unsent Kind) (commands : ToolCommands) → AreFree commands
    → Spends 1 false (Command.Primary unsent ∷ commands)
primary-spend unsent commands free =
    more-spend 1 0 false false (Command.Primary unsent) commands (primary-costs unsent) (free-spend commands free)

pub draw-spend : Spends 1 false (Command.Draw ∷ [])
draw-spend =
    more-spend 1 0 false false Command.Draw [] (λ step. draws-costs keeps_drawn step (λ number other. refl)) none-spend

pub halt-spend : Spends 0 true (Command.Halt ∷ [])
halt-spend = record {
  at = λ step. record { few = omega arith; limit = refl; cause = λ enough. refl };
}

-- those in front spend none
pub spend-behind :
    (most : ℕ) (h : Bool) (one two : ToolCommands) → AreFree one → Spends most h two → Spends most h (one ++ two)
spend-behind most h one two free is = record {
  at = λ step.
      subst
      (λ (went : Went (EndView Kind) Happening).
      Costs most h step.next.numbers (step_in went).next.numbers (ends_spent went))
      (sym (carried_append Some one two step))
      (costs-as (0 + most) most h h _ _ _ (omega arith) refl
      (costs-then core_numbers 0 most false h step.next.numbers (carried Some one step) (carried Some two)
      ((free-spend one free).at step) (λ next. is.at next)));
}

-- ---- duties one after the other

pub record Needs (most : ℕ) (halts : Bool) (duties : List ToolDuty) : Type 0 where
  pub at : (step : CoreStep)
      → Costs most halts step.next.numbers (step_in (all_done Some duties step)).next.numbers
      (ends_spent (all_done Some duties step))

pub needs-as :
    (one two : ℕ) (h k : Bool) (duties : List ToolDuty) → one ≤ two → h ≡ k → Needs one h duties → Needs two k duties
needs-as one two h k duties more same is = record { at = λ step. costs-as one two h k _ _ _ more same (is.at step) }

pub needs-none : (most : ℕ) → Needs most false []
needs-none most =
    record { at = λ step. costs-as 0 most false false _ _ false (omega arith) refl (costs-none step.next.numbers) }

pub needs-more :
    (one two : ℕ) (h k : Bool) (duty : ToolDuty) (duties : List ToolDuty)
    → ((e : EndView Kind) → Spends one h (duty e)) → Needs two k duties
    → Needs (one + two) (h || k) (duty ∷ duties)
needs-more one two h k duty duties first rest = record {
  at = λ step.
      costs-then core_numbers one two h k step.next.numbers (carried Some (duty step.next) step) (all_done Some duties)
      ((first step.next).at step) (λ next. rest.at next);
}

-- one alone
pub needs-one : (most : ℕ) (h : Bool) (duty : ToolDuty) → ((e : EndView Kind) → Spends most h (duty e))
    → Needs most h (duty ∷ [])
needs-one most h duty is =
    needs-as (most + 0) most (h || false) h (duty ∷ []) (omega arith) (or-false h)
    (needs-more most 0 h false duty [] is (needs-none 0))

-- a free one in front
pub needs-behind :
    (most : ℕ) (h : Bool) (duty : ToolDuty) (duties : List ToolDuty) → ((e : EndView Kind) → AreFree (duty e))
    → Needs most h duties → Needs most h (duty ∷ duties)
needs-behind most h duty duties free is =
    needs-as (0 + most) most h h (duty ∷ duties) (omega arith) refl
    (needs-more 0 most false h duty duties (λ e. free-spend (duty e) (free e)) is)

pub needs-both :
    (one two : ℕ) (h k : Bool) (first second : List ToolDuty) → Needs one h first → Needs two k second
    → Needs (one + two) (h || k) (first ++ second)
needs-both one two h k first second is more = record {
  at = λ step.
      subst
      (λ (went : Went (EndView Kind) Happening).
      Costs (one + two) (h || k) step.next.numbers (step_in went).next.numbers (ends_spent went))
      (sym (done_append Some first second step))
      (costs-then core_numbers one two h k step.next.numbers (all_done Some first step) (all_done Some second)
      (is.at step) (λ next. more.at next));
}

pub free-need : (duties : List ToolDuty) → AreFreeDuties duties → Needs 0 false duties
free-need [] free = needs-none 0
free-need (duty ∷ duties) free = needs-behind 0 false duty duties free.0 (free-need duties free.1)

-- ---- what draws none goes on

abbrev pub Any : {S N : Type 0} → Step S N → Type 0
Any step = Unit {0}

abbrev pub Never : {S N : Type 0} → Step S N → Type 0
Never step = ⊥

one-goes : (command : Command Kind) (step : CoreStep) → IsFree command → OnEither Any Never (carry Some command step)
one-goes (Command.Note what) step free = tt
one-goes (Command.Primary unsent) step free = absurd free
one-goes Command.Draw step free = absurd free
one-goes (Command.DrawnPrimary unsent) step free = tt
one-goes (Command.More count) step free = absurd free
one-goes (Command.Reply body) step free = tt
one-goes Command.Abort step free = tt
one-goes (Command.Tick now) step free = tt
one-goes (Command.Take byte now) step free = tt
one-goes (Command.Offer now) step free = tt
one-goes (Command.DropDue now) step free = tt
one-goes (Command.Expire now) step free = tt
one-goes (Command.Answer header) step free = tt
one-goes (Command.GiveUp header) step free = tt
one-goes (Command.End system) step free = tt
one-goes (Command.Recall header) step free = tt
one-goes (Command.Remove primary system) step free = tt
one-goes Command.DropFront step free = tt
one-goes Command.CloseStep step free = tt
one-goes Command.Halt step free = absurd free

pub free-goes : (commands : ToolCommands) (step : CoreStep) → AreFree commands
    → OnEither Any Never (carried Some commands step)
free-goes [] step free = tt
free-goes (command ∷ commands) step free =
    either-then Any Never Any (carry Some command step) (carried Some commands) (one-goes command step free.0)
    (λ next any. free-goes commands next free.1)

pub duties-go : (duties : List ToolDuty) (step : CoreStep) → AreFreeDuties duties
    → OnEither Any Never (all_done Some duties step)
duties-go [] step free = tt
duties-go (duty ∷ duties) step free =
    either-then Any Never Any (carried Some (duty step.next) step) (all_done Some duties)
    (free-goes (duty step.next) step (free.0 step.next)) (λ next any. duties-go duties next free.1)

-- so of where the numbers are spent anything may be said
pub goes-either :
    {S N : Type 0} (P Q R : Step S N → Type 0) (went : Went S N) → OnEither Any Never went → OnEither P Q went
    → OnEither P R went
goes-either P Q R (Goes step) goes is = is
goes-either P Q R (Spent step) goes is = absurd goes
