-- The parts of a step, with tries in turn.
use Rattle.std.proofs.Common.{◌≡◌, refl, sym, ap, subst, ◌∙◌, arith, ◌<◌, ◌+◌, ◌==◌, ◌&&◌, Bool, true, false, ℕ, List, [], ◌∷◌, ◌++◌, append_assoc, map, replicate, zero, suc, Option, Some, None, if◌then◌else◌}
use Rattle.std.proofs.lemmas.Bool.{eq-eqb}
use Rattle.std.proofs.lemmas.Bool.Decides.{nat_tests}
use Rattle.std.specs.Bool.{beq}
use Rattle.line_end.specs.Plan.{LinePlanFits}
use Rattle.line_end.specs.Step.{LineCall}
use Rattle.message_flow.proofs.Firsts.{without-first}
use Rattle.message_flow.specs.declared.message.Message.{Message}
use Rattle.message_flow.specs.declared.waiting.Waiting.{Waiting}
use Rattle.message_flow.specs.Message.{is_primary}
use Rattle.message_flow.specs.Outgoing.{with_waiting, without_first}
use Rattle.message_flow.specs.Waiting.{is_named}
use Rattle.trace_log.specs.Log.{Happening}
use Rattle.trace_log.specs.Log.Happening.{Try}
use Rattle.trace_log.specs.Names.{Spooled}
use Rattle.transact.specs.Numbers.{NumbersView, after_draw, next_number}
use Rattle.message_end.specs.Core.{Command, EndView, Went, and_then, carried, carry, draws, keeps_drawn, noted, waits, with_end, with_numbers, with_outgoing}
use Rattle.message_end.specs.Core.Command.{Draw, DropDue, Offer, Remove}
use Rattle.message_end.specs.Core.Went.{Goes, Spent}
use Rattle.message_end.specs.Doings.{Doing, own_of}
use Rattle.message_end.specs.Duties.{all_done}
use Rattle.message_end.specs.Ends.{AreDecidedAt, AreOfStep, Input, taking_calls}
use Rattle.message_end.specs.History.{AreWaiting, IsHistoryOf, Item, waiting_of}
use Rattle.message_end.specs.LineCalls.{IsOffer}
use Rattle.message_end.specs.Own.{Has, given_in, heard_in, sent_in}
use Rattle.message_end.specs.Parts.{Node, after_parts, after_turn, core_after, core_step, fixed_turn, leads, led_turn, went_with}
use Rattle.message_end.specs.Plan.{EndPlan}
use Rattle.message_end.proofs.Parts.{OnEither, either-less, either-then}
use Rattle.message_end.proofs.Lists.{has-less, map-less, none-left, one-place}
use Rattle.message_end.proofs.Members.{has-map, has-mapped}
use Rattle.spool_law.specs.Tries.{IsNewest}
use Rattle.spool_ledger.specs.Unloading.{taken_up}
use Rattle.tool_step.specs.declared.kind.Kind.{Kind}
use Rattle.tool_step.specs.Own.{OwnView, ToolPart, ToolTurn, with_ledger, with_tried}
use Rattle.tool_step.specs.Spooling.{sent_turn, stopped_turn, taking_turn, tried_turn, waiting_text}
use Rattle.tool_law.specs.Tried.{AreInTurn, WaitsIn, newest_of}
use Rattle.tool_law.proofs.CoreSteps.{CoreStep}
use Rattle.tool_law.proofs.TriedCores.{NodeStep, NoneWaits}
use Rattle.tool_law.proofs.TriedSteps.{AreMildDuties}
use Rattle.tool_law.proofs.TriedCourse.{TriedAt, at-such-calls, carry-at, drop-at, duties-at, offer-at, try-at}

-- ---- the message of the try before waits no longer

is-newest : (tries : List ℕ) (last system : ℕ) → newest_of tries ≡ Some last → IsNewest tries system → last ≡ system
is-newest [] last system is newest = absurd newest
is-newest (first ∷ tries) last system is newest = let same : first ≡ last = cc in sym same ∙ newest

named : (odd : Bool) (a b : ℕ) → odd ≡ true → b ≡ a → (beq odd true && (a == b)) ≡ true
named true a b is same = eq-eqb a b (sym same)
named false a b is same = absurd (cc)

-- its parts
record IsNamed (last : ℕ) (one : Waiting) : Type 0 where
  odd : is_primary one.message ≡ true
  system : one.message.system ≡ last

is-named : (last : ℕ) (one : Waiting) → is_named true last one ≡ true → IsNamed last one
is-named last one is = go (is_primary one.message) refl is
  where
    go : (odd : Bool) → is_primary one.message ≡ odd → (beq odd true && (one.message.system == last)) ≡ true
        → IsNamed last one
    go true e is = record { odd = e; system = grind (arith, nat_tests, is) }
    go false e is = absurd (cc)

pub removed-none :
    (plan : EndPlan) (base : ℕ) (doings : List Doing) (e : EndView Kind) (tries : List ℕ) (last : ℕ)
    → IsHistoryOf plan base doings e → AreInTurn tries e → newest_of tries ≡ Some last
    → NoneWaits tries (with_outgoing (with_waiting e.outgoing (without_first (is_named true last) e.outgoing.waiting))
    e)
removed-none plan base doings e tries last is turn newest message primary waits has =
    by (has-mapped waiting_of (without-first passes items) waits.one at_items)
  where
    test : Waiting → Bool
    test = is_named true last

    waiting :
        AreWaiting plan.side (sent_in (own_of plan doings)) (given_in (own_of plan doings))
        (heard_in (own_of plan doings))
        e.outgoing.waiting
    waiting = is.core.waiting

    items : List Item
    items = waiting.items

    passes : Item → Bool
    passes = λ item. test item.waiting

    at_items : Has (map waiting_of (without-first passes items)) waits.one
    at_items =
        subst (λ (all : List Waiting). Has all waits.one)
        (ap (λ (ws : List Waiting). without_first test ws) waiting.are ∙ map-less waiting_of test items)
        waits.has

    at-one : (a b : Item) → Has items a → Has items b → test a.waiting ≡ true → test b.waiting ≡ true → a.place ≡
        b.place
    at-one a b has_a has_b is_a is_b =
        let one = is-named last a.waiting is_a in
        let two = is-named last b.waiting is_b in
        one-place (sent_in (own_of plan doings)) is.core.numbers.new a.place b.place a.waiting.message
        b.waiting.message (waiting.each a has_a).sent
        (waiting.each b has_b).sent one.odd two.odd (one.system ∙ sym two.system)

    by : (item : Item) × Has (without-first passes items) item × (waits.one ≡ item.waiting) → ⊥
    by found =
        let in_items = has-less passes items found.0 found.1 in
        let same_one = sym found.2 in
        let stays : WaitsIn e.outgoing.waiting message =
        record {
          one = found.0.waiting;
          has = subst (λ (all : List Waiting). Has all found.0.waiting) (sym waiting.are)
              (has-map waiting_of items found.0 in_items);
          is = ap (λ (w : Waiting). w.message) same_one ∙ waits.is;
        }
        in
        let same = is-newest tries last message.system newest (turn.waits message primary stays has) in
        let odd = ap (λ (w : Waiting). is_primary w.message) same_one ∙ ap is_primary waits.is ∙ primary in
        let system = ap (λ (w : Waiting). w.message.system) same_one ∙ ap (λ (m : Message). m.system) waits.is in
        let is_one : test found.0.waiting ≡ true =
        named (is_primary found.0.waiting.message) found.0.waiting.message.system last odd (same ∙ sym system)
        in
        let left : test found.0.waiting ≡ false = none-left passes items waiting.apart at-one found.0 found.1 in
        absurd (cc)

-- ---- a number that is drawn

drawn-is : (numbers : NumbersView) (system : ℕ) → next_number numbers ≡ Some system
    → (numbers.next ≡ system) × (system < (after_draw numbers).next)
drawn-is numbers system is = go (numbers.next == numbers.end) is
  where
    go : (none : Bool) → (if none then None else Some numbers.next) ≡ Some system
        → (numbers.next ≡ system)
        × (system < (if none then numbers else record numbers { next = numbers.next + 1 }).next)
    go true is = absurd (cc)
    go false is = let same : numbers.next ≡ system = cc in (same, omega (arith, same))

-- ---- parts

abbrev NodeWent : Type 0
NodeWent = Went (Node OwnView Kind) Happening

-- what a turn comes to is kept so, and its duties are mild
pub record IsMildTurn (Held : OwnView → Type 0) (turn : ToolTurn) : Type 0 where
  pub quiet : AreMildDuties turn.duties
  pub sound : Held turn.own

abbrev pub IsMildPart : (OwnView → Type 0) → ToolPart → Type 0
IsMildPart Held part = (own : OwnView) (e : EndView Kind) → Held own → IsMildTurn Held (part own e)

module _ (plan : EndPlan) (base : ℕ) (fits : LinePlanFits plan.line) (doings : List Doing) (now limit : ℕ)
    (Held : List ℕ → OwnView → Type 0) where
  abbrev CoreAt : List ℕ → (List LineCall → Type 0) → CoreStep → Type 0
  CoreAt tries Called step = TriedAt plan base fits doings now limit tries Called step

  -- so it is, and what is kept beside the core is such
  pub record NodeTried (tries : List ℕ) (Called : List LineCall → Type 0) (step : NodeStep) : Type 0 where
    pub core : CoreAt tries Called (core_step step)
    pub held : Held tries step.next.own

  pub record SomeTried (Called : List LineCall → Type 0) (step : NodeStep) : Type 0 where
    pub tries : List ℕ
    pub at : NodeTried tries Called step

  pub calls-less :
      (tries : List ℕ) (Called Other : List LineCall → Type 0) (step : NodeStep)
      → ((made : List LineCall) → Called made → Other made) → NodeTried tries Called step → NodeTried tries Other step
  calls-less tries Called Other step such at = record {
    core = at-such-calls plan base fits doings now limit tries Called Other (core_step step) such at.core;
    held = at.held;
  }

  went-at :
      (tries : List ℕ) (Called : List LineCall → Type 0) (own : OwnView) (went : Went (EndView Kind) Happening)
      → Held tries own → OnEither (CoreAt tries Called) (CoreAt tries Called) went
      → OnEither (NodeTried tries Called) (NodeTried tries Called) (went_with own went)
  went-at tries Called own (Goes step) held is = record { core = is; held = held }
  went-at tries Called own (Spent step) held is = record { core = is; held = held }

  pub turn-at :
      (tries : List ℕ) (Called : List LineCall → Type 0) (turn : ToolTurn) (step : NodeStep)
      → IsMildTurn (Held tries) turn → NodeTried tries Called step
      → OnEither (NodeTried tries Called) (NodeTried tries Called) (after_turn Some turn step)
  turn-at tries Called turn step mild at =
      went-at tries Called turn.own (all_done Some turn.duties (core_step step)) mild.sound
      (duties-at plan base fits doings now limit tries Called turn.duties (core_step step) mild.quiet at.core)

  -- a turn behind a command
  pub led-at :
      (tries : List ℕ) (Other : List LineCall → Type 0) (lead : Command Kind) (turn : ToolTurn) (step : NodeStep)
      → OnEither (CoreAt tries Other) (CoreAt tries Other) (carry Some lead (core_step step))
      → IsMildTurn (Held tries) turn
      → OnEither (NodeTried tries Other) (NodeTried tries Other) (after_turn Some (led_turn lead turn) step)
  led-at tries Other lead turn step first mild =
      went-at tries Other turn.own
      (and_then (carried Some (lead ∷ []) (core_step step)) (all_done Some turn.duties)) mild.sound
      (either-then (CoreAt tries Other) (CoreAt tries Other) (CoreAt tries Other)
      (carried Some (lead ∷ []) (core_step step)) (all_done Some turn.duties)
      (either-then (CoreAt tries Other) (CoreAt tries Other) (CoreAt tries Other) (carry Some lead (core_step step))
      (carried Some []) first (λ next at. at))
      (λ next at. duties-at plan base fits doings now limit tries Other turn.duties next mild.quiet at))

  -- parts that keep it so
  abbrev pub Keeps : List ℕ → (List LineCall → Type 0) → ToolPart → Type 0
  Keeps tries Called part =
      (step : NodeStep) → NodeTried tries Called step
      → OnEither (NodeTried tries Called) (NodeTried tries Called)
      (after_turn Some (part step.next.own step.next.core) step)

  abbrev pub AllKeep : List ℕ → (List LineCall → Type 0) → List ToolPart → Type 0
  AllKeep tries Called [] = Unit {0}
  AllKeep tries Called (part ∷ parts) = Keeps tries Called part × AllKeep tries Called parts

  pub all-both :
      (tries : List ℕ) (Called : List LineCall → Type 0) (first second : List ToolPart) → AllKeep tries Called first
      → AllKeep tries Called second → AllKeep tries Called (first ++ second)
  all-both tries Called [] second one two = two
  all-both tries Called (part ∷ first) second one two = (one.0, all-both tries Called first second one.1 two)

  pub all-many :
      (tries : List ℕ) (Called : List LineCall → Type 0) (n : ℕ) (part : ToolPart) → Keeps tries Called part
      → AllKeep tries Called (replicate n part)
  all-many tries Called zero part one = tt
  all-many tries Called (suc n) part one = (one, all-many tries Called n part one)

  pub mild-keeps :
      (tries : List ℕ) (Called : List LineCall → Type 0) (part : ToolPart) → IsMildPart (Held tries) part
      → Keeps tries Called part
  mild-keeps tries Called part mild step at =
      turn-at tries Called (part step.next.own step.next.core) step (mild step.next.own step.next.core at.held) at

  -- a part that T4 leads
  pub drop-keeps :
      (tries : List ℕ) (Called : List LineCall → Type 0) (turn : OwnView → EndView Kind → EndView Kind → ToolTurn)
      → ((own : OwnView) (e later : EndView Kind) → Held tries own → IsMildTurn (Held tries) (turn own e later))
      → Keeps tries Called (λ own e. leads (DropDue now) (turn own e) e)
  drop-keeps tries Called turn mild step at =
      led-at tries Called (DropDue now)
      (turn step.next.own step.next.core (core_after (DropDue now) step.next.core)) step
      (drop-at plan base fits doings now limit tries Called (core_step step) at.core)
      (mild step.next.own step.next.core (core_after (DropDue now) step.next.core) at.held)

  -- and others behind them
  pub parts-then :
      (tries : List ℕ) (Called : List LineCall → Type 0) (P Q : NodeStep → Type 0) (parts rest : List ToolPart)
      (step : NodeStep) → AllKeep tries Called parts → NodeTried tries Called step
      → ((last : NodeStep) → NodeTried tries Called last → Q last)
      → ((last : NodeStep) → NodeTried tries Called last → OnEither P Q (after_parts Some rest last))
      → OnEither P Q (after_parts Some (parts ++ rest) step)
  parts-then tries Called P Q [] rest step keep at spent more = more step at
  parts-then tries Called P Q (part ∷ parts) rest step keep at spent more =
      either-then (NodeTried tries Called) Q P (after_turn Some (part step.next.own step.next.core) step)
      (after_parts Some (parts ++ rest))
      (either-less (NodeTried tries Called) (NodeTried tries Called) (NodeTried tries Called) Q
      (after_turn Some (part step.next.own step.next.core) step) (keep.0 step at) (λ last so. so) spent)
      (λ last so. parts-then tries Called P Q parts rest last keep.1 so spent more)

  -- ---- a message is taken up

  module _ (Called : List LineCall → Type 0) (number : ℕ) (message : Spooled)
      (sends :
      (tries : List ℕ) (own : OwnView) (e : EndView Kind) → Held tries own
      → IsMildTurn (Held tries) (sent_turn message own e))
      (takes :
      (tries : List ℕ) (own : OwnView) (system : ℕ) → Held tries own
      → Held (system ∷ tries)
      (with_tried system (with_ledger (taken_up number system (waiting_text message) own.ledger).next own)))
    where
      -- with the number drawn, it is noted, and goes
      numbered-at :
          (tries : List ℕ) (own : OwnView) (drawn : Option ℕ) (e : EndView Kind) (core : CoreStep)
          → next_number core.next.numbers ≡ drawn → CoreAt tries Called core → Held tries own
          → NoneWaits tries core.next
          → OnEither (CoreAt tries Called) (CoreAt tries Called) (draws drawn keeps_drawn core)
          → OnEither (SomeTried Called) (SomeTried Called)
          (went_with (tried_turn drawn number message own e).own
          (and_then (and_then (draws drawn keeps_drawn core) (carried Some []))
          (all_done Some (tried_turn drawn number message own e).duties)))
      numbered-at tries own None e core is at held none went =
          record { tries = tries; at = record { core = went; held = held } }
      numbered-at tries own (Some system) e core is at held none went =
          some (went_with later.own (all_done Some later.duties noted_core))
          (went-at (system ∷ tries) Called later.own (all_done Some later.duties noted_core) mild.sound
          (duties-at plan base fits doings now limit (system ∷ tries) Called later.duties noted_core mild.quiet
          (try-at plan base fits doings now limit tries Called number system drawn_core went refl untried number_is.1
          none)))
        where
          drawn_core : CoreStep
          drawn_core = keeps_drawn system (with_end (with_numbers (after_draw core.next.numbers) core.next) core)

          noted_core : CoreStep
          noted_core = noted Some (Try number system) drawn_core

          tried_own : OwnView
          tried_own =
              with_tried system (with_ledger (taken_up number system (waiting_text message) own.ledger).next own)

          later : ToolTurn
          later = sent_turn message tried_own e

          mild : IsMildTurn (Held (system ∷ tries)) later
          mild = sends (system ∷ tries) tried_own e (takes tries own system held)

          number_is : (core.next.numbers.next ≡ system) × (system < (after_draw core.next.numbers).next)
          number_is = drawn-is core.next.numbers system is

          untried : Has tries system → ⊥
          untried has = let below = at.turn.below system has in let same = number_is.0 in omega (arith, below, same)

          some : (went : NodeWent) → OnEither (NodeTried (system ∷ tries) Called)
              (NodeTried (system ∷ tries) Called) went
              → OnEither (SomeTried Called) (SomeTried Called) went
          some (Goes last) so = record { tries = system ∷ tries; at = so }
          some (Spent last) so = record { tries = system ∷ tries; at = so }

      draw-at :
          (tries : List ℕ) (own : OwnView) (core : CoreStep) → CoreAt tries Called core → Held tries own
          → NoneWaits tries core.next
          → let turn = tried_turn (next_number core.next.numbers) number message own (core_after Draw core.next) in
          OnEither (SomeTried Called) (SomeTried Called)
          (went_with turn.own (all_done Some ((λ e. Draw ∷ []) ∷ turn.duties) core))
      draw-at tries own core at held none =
          numbered-at tries own (next_number core.next.numbers) (core_after Draw core.next) core refl at held none
          (carry-at plan base fits doings now limit tries Called Draw core tt tt at)

      pub taking-at :
          (tries : List ℕ) (own : OwnView) (step : NodeStep) → CoreAt tries Called (core_step step) → Held tries own
          → own.tried ≡ newest_of tries
          → OnEither (SomeTried Called) (SomeTried Called)
          (after_turn Some (taking_turn (Some number) (Some message) own step.next.core) step)
      taking-at tries own step at held last = go own.tried (sym last)
        where
          none-has : (tries : List ℕ) → newest_of tries ≡ None → (system : ℕ) → Has tries system → ⊥
          none-has [] none system has = has
          none-has (first ∷ tries) none system has = absurd (cc)

          go : (last : Option ℕ) → newest_of tries ≡ last
              → OnEither (SomeTried Called) (SomeTried Called)
              (after_turn Some
              (stopped_turn last
              (λ later. leads Draw (tried_turn (next_number later.numbers) number message own) later) step.next.core)
              step)
          go None none =
              draw-at tries own (core_step step) at held
              (λ other primary waits has. none-has tries none other.system has)
          go (Some last) newest =
              draw-at tries own
              (waits
              (with_waiting step.next.core.outgoing
              (without_first (is_named true last) step.next.core.outgoing.waiting))
              (core_step step))
              (carry-at plan base fits doings now limit tries Called (Remove true last) (core_step step) tt tt at) held
              (removed-none plan base at.all step.next.core tries last at.is at.turn newest)

  -- ---- the line's turn

  offer-decided : (calls : List LineCall) → IsOffer now calls → AreDecidedAt now calls
  offer-decided [] is = tt
  offer-decided (LineCall.Resume at ∷ []) is = (is, tt)
  offer-decided (LineCall.Send block at ∷ []) is = (is, tt)
  offer-decided (LineCall.Resume at ∷ (call ∷ calls)) is = absurd is
  offer-decided (LineCall.Send block at ∷ (call ∷ calls)) is = absurd is
  offer-decided (LineCall.Cancel ∷ calls) is = absurd is
  offer-decided (LineCall.Take byte at ∷ calls) is = absurd is
  offer-decided (LineCall.Tick at ∷ calls) is = absurd is

  decided-both : (one two : List LineCall) → AreDecidedAt now one → AreDecidedAt now two → AreDecidedAt now (one ++ two)
  decided-both [] two first second = second
  decided-both (call ∷ one) two first second = (first.0, decided-both one two first.1 second)

  pub offer-keeps :
      {C : Type 0} (input : Input C) (tries : List ℕ)
      → Keeps tries (AreOfStep input now) (λ own e. led_turn (Offer now) (fixed_turn own []))
  offer-keeps input tries step at =
      led-at tries (AreOfStep input now) (Offer now) (fixed_turn step.next.own []) step
      (offer-at plan base fits doings now limit tries (AreOfStep input now) (AreOfStep input now) (core_step step)
      at.core
      (λ newer is. record {
        decided = newer ++ at.core.called.decided;
        are =
            ap (λ (cs : List LineCall). newer ++ cs) at.core.called.are
            ∙ sym (append_assoc newer at.core.called.decided (taking_calls input now));
        decisions = decided-both newer at.core.called.decided (offer-decided newer is) at.core.called.decisions;
      }))
      (record { quiet = ((λ e. tt), tt); sound = at.held })
