-- The parts of a step, one behind the other, keep the law.
use Rattle.std.proofs.Common.{◌≡◌, refl, sym, ap, subst, ◌∙◌, ◌<◌, ℕ, List, [], ◌∷◌, ◌++◌, Some, None}
use Rattle.std.proofs.lemmas.List.{append-nil, append_assoc}
use Rattle.line_end.specs.Plan.{LinePlanFits}
use Rattle.line_end.specs.Step.{LineCall}
use Rattle.trace_log.specs.Log.{Happening}
use Rattle.message_end.specs.Core.{Command, EndView, Step, Went, and_then, calls, carried, carry, offers, step_in, takes, with_asked}
use Rattle.message_end.specs.Core.Went.{Goes, Spent}
use Rattle.message_end.specs.Doings.{Doing, own_of}
use Rattle.message_end.specs.Duties.{Duty, all_done}
use Rattle.message_end.specs.Ends.{AreBegunOf, AreDecidedAt, AreOfStep, Input, taking_calls}
use Rattle.message_end.specs.Ends.Input.{Char, Command as Told, Time}
use Rattle.message_end.specs.History.{folds_of}
use Rattle.message_end.specs.LineCalls.{calls_in}
use Rattle.message_end.specs.Parts.{Node, Part, Turn, after_parts, after_turn, closes, core_step, went_with}
use Rattle.message_end.specs.Plan.{EndPlan}
use Rattle.message_end.proofs.CallingNone.{at-carried}
use Rattle.message_end.proofs.Limits.{carried-limit, carry-limit, limit_of}
use Rattle.message_end.proofs.Parts.{AreDueDuties, AreDueParts, AreQuietParts, IsCoreOf, IsDue, IsDueTurn, IsInputPart, IsLedBy, IsLedPart, IsLedTurn, IsQuietPart, IsStepOf, OnEither, commands-due, duties-due, either-less, either-then, of-either, parts-due, turn-due}
use Rattle.message_end.proofs.Steps.{IsAt, Laws}
use Rattle.message_end.proofs.Such.{at-offers, at-takes, at-tick}

-- ---- the calls of a step so far

-- none, and the timer's
abbrev IsNone : List LineCall → Type 0
IsNone made = made ≡ []

abbrev IsTicked : ℕ → List LineCall → Type 0
IsTicked now made = made ≡ LineCall.Tick now ∷ []

module _ {C : Type 0} (input : Input C) (now : ℕ) where
  pub begun-none : (made : List LineCall) → IsNone made → AreBegunOf input now made
  begun-none made none = record {
    later = taking_calls input now;
    whole = record {
      decided = [];
      are = ap (λ (cs : List LineCall). taking_calls input now ++ cs) none ∙ append-nil (taking_calls input now);
      decisions = tt;
    };
  }

  begun-ticked : (made : List LineCall) → IsTicked now made → AreBegunOf input now made
  begun-ticked made ticked = go input
    where
      go : (given : Input C) → AreBegunOf given now made
      go (Char byte) = record {
        later = LineCall.Take byte now ∷ [];
        whole = record {
          decided = [];
          are = ap (λ (cs : List LineCall). LineCall.Take byte now ∷ cs) ticked;
          decisions = tt;
        };
      }
      go Time = record { later = []; whole = record { decided = []; are = ticked; decisions = tt } }
      go (Told command) = record { later = []; whole = record { decided = []; are = ticked; decisions = tt } }

  begun-stepped : (made : List LineCall) → AreOfStep input now made → AreBegunOf input now made
  begun-stepped made of_step = record { later = []; whole = of_step }

  stepped-quiet :
      (made : List LineCall) → taking_calls input now ≡ LineCall.Tick now ∷ [] → IsTicked now made
      → AreOfStep input now made
  stepped-quiet made none ticked = record { decided = []; are = ticked ∙ sym none; decisions = tt }

-- ---- the parts of a step

-- the step has come to its end
abbrev pub step_ended : {S K : Type 0} → Step (Node S K) Happening → Step (Node S K) Happening
step_ended step = record {
  next = record step.next { core = with_asked None step.next.core };
  notes = step.notes ++ Happening.StepEnded ∷ [];
  written = step.written;
}

decided-both :
    (now : ℕ) (one two : List LineCall) → AreDecidedAt now one → AreDecidedAt now two → AreDecidedAt now (one ++ two)
decided-both now [] two first second = second
decided-both now (call ∷ one) two first second = (first.0, decided-both now one two first.1 second)

module _
    {S K : Type 0} (laws : Laws) (plan : EndPlan) (base : ℕ) (fits : LinePlanFits plan.line) (Sound : S → Type 0)
    (doings : List Doing) (now limit : ℕ) where
  abbrev pub IsAtNow : (List LineCall → Type 0) → Step (EndView K) Happening → Type 0
  IsAtNow Called step = IsAt plan base doings (λ at. at ≡ now) Called step

  -- the law is kept so far, with such calls, and the numbers that are left end here
  pub record CoreAt (Called : List LineCall → Type 0) (step : Step (EndView K) Happening) : Type 0 where
    pub at : IsAtNow Called step
    pub limit_is : limit_of step ≡ limit

  -- so it is, and what the end keeps beside its core is sound
  pub record NodeAt (Called : List LineCall → Type 0) (step : Step (Node S K) Happening) : Type 0 where
    pub core : CoreAt Called (core_step step)
    pub sound : Sound step.next.own

  pub core-of : {Called : List LineCall → Type 0} (step : Step (EndView K) Happening) → CoreAt Called step
      → IsCoreOf plan base step.next
  core-of step is = record { folds = folds_of (own_of plan (is.at.done ++ doings)); core = is.at.core }

  at-less :
      {Called Other : List LineCall → Type 0} (step : Step (EndView K) Happening)
      → ((made : List LineCall) → Called made → Other made) → CoreAt Called step → CoreAt Other step
  at-less step less is = record {
    at = record {
      done = is.at.done;
      called = less (calls_in is.at.done) is.at.called;
      drops = is.at.drops;
      course = is.at.course;
      received = is.at.received;
      core = is.at.core;
      steps = is.at.steps;
      unended = is.at.unended;
    };
    limit_is = is.limit_is;
  }

  at-went :
      (Called : List LineCall → Type 0) (went : Went (EndView K) Happening)
      → OnEither (IsAtNow Called) (IsAtNow Called) went → limit_of (step_in went) ≡ limit
      → OnEither (CoreAt Called) (CoreAt Called) went
  at-went Called (Goes step) is same = record { at = is; limit_is = same }
  at-went Called (Spent step) is same = record { at = is; limit_is = same }

  -- commands that are due
  at-commands :
      (Called : List LineCall → Type 0) (commands : List (Command K)) (step : Step (EndView K) Happening)
      → IsDue now commands → CoreAt Called step
      → OnEither (CoreAt Called) (CoreAt Called) (carried Some commands step)
  at-commands Called commands step due is =
      at-went Called (carried Some commands step)
      (of-either (IsAtNow Called) (carried Some commands step)
      (at-carried laws plan base fits doings (λ at. at ≡ now) Called commands step due.calls due.drops due.may is.at))
      (carried-limit commands step due.adds ∙ is.limit_is)

  -- ---- duties

  pub at-due-duties :
      (Called : List LineCall → Type 0) (duties : List (Duty K)) (step : Step (EndView K) Happening)
      → AreDueDuties plan base Sound now duties → CoreAt Called step
      → OnEither (CoreAt Called) (CoreAt Called) (all_done Some duties step)
  at-due-duties Called [] step due is = is
  at-due-duties Called (duty ∷ duties) step due is =
      let one = due.0 step.next (core-of step is) in
      either-then (CoreAt Called) (CoreAt Called) (CoreAt Called) (carried Some (duty step.next) step)
      (all_done Some duties)
      (at-commands Called (duty step.next) step one is)
      (λ next at. at-due-duties Called duties next due.1 at)

  at-led :
      {Called Other : List LineCall → Type 0} (lead : Command K) (turn : Turn S K)
      (step next : Step (EndView K) Happening)
      → IsLedTurn plan base Sound lead turn → CoreAt Called step → carry Some lead step ≡ Goes next → CoreAt Other next
      → OnEither (CoreAt Other) (CoreAt Other) (all_done Some turn.duties step)
  at-led {Called} {Other} lead turn step next led is goes at =
      subst (λ (duties : List (Duty K)). OnEither (CoreAt Other) (CoreAt Other) (all_done Some duties step))
      (sym led.are)
      (either-then (CoreAt Other) (CoreAt Other) (CoreAt Other) (carried Some (led.first step.next) step)
      (all_done Some led.others) first
      (λ last so. at-due-duties Other led.others last (duties-due plan base Sound now led.others led.quiet) so))
    where
      one : IsLedBy plan base Sound lead (led.first step.next)
      one = led.led step.next (core-of step is)

      due : IsDue now one.rest
      due = commands-due now one.rest one.quiet

      rest : OnEither (CoreAt Other) (CoreAt Other) (carried Some one.rest next)
      rest = at-commands Other one.rest next due at

      first : OnEither (CoreAt Other) (CoreAt Other) (carried Some (led.first step.next) step)
      first =
          subst (λ (commands : List (Command K)). OnEither (CoreAt Other) (CoreAt Other) (carried Some commands step))
          (sym one.is)
          (subst
          (λ (went : Went (EndView K) Happening). OnEither (CoreAt Other) (CoreAt Other)
          (and_then went (carried Some one.rest)))
          (sym goes) rest)

  -- ---- turns

  at-turn :
      (Called : List LineCall → Type 0) (own : S) (went : Went (EndView K) Happening) → Sound own
      → OnEither (CoreAt Called) (CoreAt Called) went → OnEither (NodeAt Called) (NodeAt Called) (went_with own went)
  at-turn Called own (Goes step) sound is = record { core = is; sound = sound }
  at-turn Called own (Spent step) sound is = record { core = is; sound = sound }

  pub at-due-turn :
      (Called : List LineCall → Type 0) (turn : Turn S K) (step : Step (Node S K) Happening)
      → IsDueTurn plan base Sound now turn → NodeAt Called step
      → OnEither (NodeAt Called) (NodeAt Called) (after_turn Some turn step)
  at-due-turn Called turn step due is =
      at-turn Called turn.own (all_done Some turn.duties (core_step step)) due.sound
      (at-due-duties Called turn.duties (core_step step) due.due is.core)

  -- parts that don't call the line, and others behind them
  pub at-due-parts :
      (Called : List LineCall → Type 0) (P Q : Step (Node S K) Happening → Type 0) (parts rest : List (Part S K))
      (step : Step (Node S K) Happening)
      → AreDueParts plan base Sound now parts → NodeAt Called step
      → ((last : Step (Node S K) Happening) → NodeAt Called last → Q last)
      → ((last : Step (Node S K) Happening) → NodeAt Called last → OnEither P Q (after_parts Some rest last))
      → OnEither P Q (after_parts Some (parts ++ rest) step)
  at-due-parts Called P Q [] rest step due is spent more = more step is
  at-due-parts Called P Q (part ∷ parts) rest step due is spent more =
      let turn = part step.next.own step.next.core in
      let so = due.0 step.next.own step.next.core is.sound (core-of (core_step step) is.core) in
      either-then (NodeAt Called) Q P (after_turn Some turn step) (after_parts Some (parts ++ rest))
      (either-less (NodeAt Called) (NodeAt Called) (NodeAt Called) Q (after_turn Some turn step)
      (at-due-turn Called turn step so is) (λ last at. at) spent)
      (λ last at. at-due-parts Called P Q parts rest last due.1 at spent more)

  -- ---- a step

  module _ {C : Type 0} (input : Input C) where
    abbrev pub Begun : Step (Node S K) Happening → Type 0
    Begun step = NodeAt (AreBegunOf input now) step

    abbrev pub Stepped : Step (Node S K) Happening → Type 0
    Stepped step = NodeAt (AreOfStep input now) step

    pub node-less :
        {Called Other : List LineCall → Type 0} (step : Step (Node S K) Happening)
        → ((made : List LineCall) → Called made → Other made) → NodeAt Called step → NodeAt Other step
    node-less step less is = record { core = at-less (core_step step) less is.core; sound = is.sound }

    -- behind all else the step has come to its end
    pub record Closed (step : Step (Node S K) Happening) : Type 0 where
      pub before : Step (Node S K) Happening
      pub stepped : Stepped before
      pub is : step ≡ step_ended before

    at-offer :
        (offer : Part S K) (step : Step (Node S K) Happening) → IsLedPart plan base Sound (Command.Offer now) offer
        → Stepped step → OnEither Closed Begun (after_parts Some (offer ∷ (closes ∷ [])) step)
    at-offer offer step led is =
        either-then Stepped Begun Closed (after_turn Some turn step) (after_parts Some (closes ∷ []))
        (either-less Stepped Stepped Stepped Begun (after_turn Some turn step)
        (at-turn (AreOfStep input now) turn.own (all_done Some turn.duties (core_step step)) so.sound
        (at-led (Command.Offer now) turn (core_step step) next so is.core refl offered))
        (λ last at. at) (λ last at. node-less last (begun-stepped input now) at))
        (λ last at. record { before = last; stepped = at; is = refl })
      where
        turn : Turn S K
        turn = offer step.next.own step.next.core

        so : IsLedTurn plan base Sound (Command.Offer now) turn
        so = led step.next.own step.next.core is.sound (core-of (core_step step) is.core)

        next : Step (EndView K) Happening
        next = offers step.next.core.line.phase step.next.core.line.held now (core_step step)

        offered : CoreAt (AreOfStep input now) next
        offered = record {
          at =
              at-offers laws plan base fits doings (λ at. at ≡ now) (AreOfStep input now) now (core_step step)
              step.next.core.line.phase step.next.core.line.held refl refl is.core.at
              (λ decided are. record {
                decided = decided ++ is.core.at.called.decided;
                are = ap (λ (cs : List LineCall). decided ++ cs) is.core.at.called.are
                    ∙ sym (append_assoc decided is.core.at.called.decided _);
                decisions = decided-both now decided is.core.at.called.decided are is.core.at.called.decisions;
              });
          limit_is = carry-limit (Command.Offer now) (core_step step) tt ∙ is.core.limit_is;
        }

    -- the last half of a step: parts without the line, its turn, and the end
    pub at-later :
        (later : List (Part S K)) (offer : Part S K) (step : Step (Node S K) Happening)
        → AreQuietParts plan base Sound later → IsLedPart plan base Sound (Command.Offer now) offer → Stepped step
        → OnEither Closed Begun (after_parts Some (later ++ offer ∷ (closes ∷ [])) step)
    at-later later offer step quiet led is =
        at-due-parts (AreOfStep input now) Closed Begun later (offer ∷ (closes ∷ [])) step
        (parts-due plan base Sound now later quiet) is
        (λ last at. node-less last (begun-stepped input now) at) (λ last at. at-offer offer last led at)

    at-quiet-input :
        (given : Part S K) (step : Step (Node S K) Happening) → taking_calls input now ≡ LineCall.Tick now ∷ []
        → IsQuietPart plan base Sound given → NodeAt (IsTicked now) step
        → OnEither Stepped Begun (after_turn Some (given step.next.own step.next.core) step)
    at-quiet-input given step none quiet is =
        either-less Stepped Stepped Stepped Begun (after_turn Some turn step)
        (at-due-turn (AreOfStep input now) turn step
        (turn-due plan base Sound now turn (quiet step.next.own step.next.core is.sound
        (core-of (core_step step) is.core)))
        (node-less step (λ made ticked. stepped-quiet input now made none ticked) is))
        (λ last at. at) (λ last at. node-less last (begun-stepped input now) at)
      where
        turn : Turn S K
        turn = given step.next.own step.next.core

    at-char :
        (byte : ℕ) (given : Part S K) (step : Step (Node S K) Happening) → input ≡ Char byte → byte < 256
        → IsLedPart plan base Sound (Command.Take byte now) given → NodeAt (IsTicked now) step
        → OnEither Stepped Begun (after_turn Some (given step.next.own step.next.core) step)
    at-char byte given step char below led is =
        either-less Stepped Stepped Stepped Begun (after_turn Some turn step)
        (at-turn (AreOfStep input now) turn.own (all_done Some turn.duties (core_step step)) so.sound
        (at-led (Command.Take byte now) turn (core_step step) (takes Some byte now (core_step step)) so is.core refl
        taken))
        (λ last at. at) (λ last at. node-less last (begun-stepped input now) at)
      where
        turn : Turn S K
        turn = given step.next.own step.next.core

        so : IsLedTurn plan base Sound (Command.Take byte now) turn
        so = led step.next.own step.next.core is.sound (core-of (core_step step) is.core)

        taken : CoreAt (AreOfStep input now) (takes Some byte now (core_step step))
        taken = record {
          at =
              at-takes laws plan base fits doings (λ at. at ≡ now) (AreOfStep input now) byte now (core_step step) below
              is.core.at
              (λ decided are. record {
                decided = decided;
                are = ap (λ (cs : List LineCall). decided ++ LineCall.Take byte now ∷ cs) is.core.at.called
                    ∙ ap (λ (i : Input C). decided ++ taking_calls i now) (sym char);
                decisions = are;
              });
          limit_is = carry-limit (Command.Take byte now) (core_step step) tt ∙ is.core.limit_is;
        }

    at-input :
        (given : Part S K) (step : Step (Node S K) Happening) (i : Input C) → input ≡ i
        → IsInputPart plan base Sound i now given → NodeAt (IsTicked now) step
        → OnEither Stepped Begun (after_turn Some (given step.next.own step.next.core) step)
    at-input given step (Char byte) is so at = at-char byte given step is so.0 so.1 at
    at-input given step Time is so at =
        at-quiet-input given step (ap (λ (i : Input C). taking_calls i now) is) so at
    at-input given step (Told command) is so at =
        at-quiet-input given step (ap (λ (i : Input C). taking_calls i now) is) so at

    at-given :
        (given : Part S K) (rest : List (Part S K)) (step : Step (Node S K) Happening)
        → IsInputPart plan base Sound input now given → NodeAt (IsTicked now) step
        → ((last : Step (Node S K) Happening) → Stepped last → OnEither Closed Begun (after_parts Some rest last))
        → OnEither Closed Begun (after_parts Some (given ∷ rest) step)
    at-given given rest step so is more =
        either-then Stepped Begun Closed (after_turn Some (given step.next.own step.next.core) step)
        (after_parts Some rest) (at-input given step input refl so is) more

    at-tick-part :
        (tick : Part S K) (rest : List (Part S K)) (step : Step (Node S K) Happening)
        → IsLedPart plan base Sound (Command.Tick now) tick → NodeAt IsNone step
        → ((last : Step (Node S K) Happening) → NodeAt (IsTicked now) last
        → OnEither Closed Begun (after_parts Some rest last))
        → OnEither Closed Begun (after_parts Some (tick ∷ rest) step)
    at-tick-part tick rest step led is more =
        either-then (NodeAt (IsTicked now)) Begun Closed (after_turn Some turn step) (after_parts Some rest)
        (either-less (NodeAt (IsTicked now)) (NodeAt (IsTicked now))
        (NodeAt (IsTicked now)) Begun (after_turn Some turn step)
        (at-turn (IsTicked now) turn.own (all_done Some turn.duties (core_step step)) so.sound
        (at-led (Command.Tick now) turn (core_step step) (calls (LineCall.Tick now) (core_step step)) so is.core refl
        ticked))
        (λ last at. at) (λ last at. node-less last (begun-ticked input now) at))
        more
      where
        turn : Turn S K
        turn = tick step.next.own step.next.core

        so : IsLedTurn plan base Sound (Command.Tick now) turn
        so = led step.next.own step.next.core is.sound (core-of (core_step step) is.core)

        ticked : CoreAt (IsTicked now) (calls (LineCall.Tick now) (core_step step))
        ticked = record {
          at =
              at-tick laws plan base fits doings (λ at. at ≡ now) (IsTicked now) now (core_step step) is.core.at
              (ap (λ (cs : List LineCall). LineCall.Tick now ∷ cs) is.core.at.called);
          limit_is = is.core.limit_is;
        }

    -- the first half of a step, up to the input, and parts behind it
    pub at-first :
        (first : List (Part S K)) (tick : Part S K) (due : List (Part S K)) (given : Part S K) (rest : List (Part S K))
        (step : Step (Node S K) Happening)
        → AreQuietParts plan base Sound first → IsLedPart plan base Sound (Command.Tick now) tick
        → AreDueParts plan base Sound now due → IsInputPart plan base Sound input now given
        → NodeAt (λ (made : List LineCall). made ≡ []) step
        → ((last : Step (Node S K) Happening) → Stepped last → OnEither Closed Begun (after_parts Some rest last))
        → OnEither Closed Begun (after_parts Some (first ++ tick ∷ (due ++ given ∷ rest)) step)
    at-first first tick due given rest step first_is tick_is due_is given_is is more =
        at-due-parts IsNone Closed Begun first (tick ∷ (due ++ given ∷ rest)) step
        (parts-due plan base Sound now first first_is) is (λ last at. node-less last (begun-none input now) at)
        (λ last at.
        at-tick-part tick (due ++ given ∷ rest) last tick_is at
        (λ next ticked.
        at-due-parts (IsTicked now) Closed Begun due (given ∷ rest) next due_is ticked
        (λ end ended. node-less end (begun-ticked input now) ended)
        (λ end ended. at-given given rest end given_is ended more)))

    pub at-step :
        (parts : List (Part S K)) (step : Step (Node S K) Happening)
        → IsStepOf plan base Sound input now parts → NodeAt IsNone step
        → OnEither Closed Begun (after_parts Some parts step)
    at-step parts step so is =
        subst (λ (all : List (Part S K)). OnEither Closed Begun (after_parts Some all step)) (sym so.are)
        (at-first so.first so.tick so.due so.given (so.later ++ so.offer ∷ (closes ∷ [])) step so.first_is so.tick_is
        so.due_is so.given_is is
        (λ last at. at-later so.later so.offer last so.later_is so.offer_is at))
