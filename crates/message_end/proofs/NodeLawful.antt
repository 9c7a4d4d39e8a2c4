-- A node whose steps are of such parts keeps the law of an end.
use Rattle.std.proofs.Common.{rules, ◌≡◌, ◌≢◌, ◌^◌, refl, sym, ap, subst, ◌∙◌, arith, ℕ, List, [], ◌∷◌, ◌++◌, Some}
use Rattle.std.proofs.lemmas.List.{append-nil, append_assoc}
use Rattle.line_end.specs.Plan.{LinePlanFits}
use Rattle.line_end.specs.Step.{LineCall}
use Rattle.trace_log.specs.Log.{Happening}
use Rattle.transact.specs.Numbers.{IsNumbers, NumbersView, numbers_from}
use Rattle.message_end.specs.Core.{EndView, MayNote, Step, Went, at_first}
use Rattle.message_end.specs.Core.Went.{Goes, Spent}
use Rattle.message_end.specs.Doings.{Doing, own_of}
use Rattle.message_end.specs.Doings.Doing.{Says}
use Rattle.message_end.specs.Ends.{AreBegunOf, AreOfStep, DoesMore, DoesStep, HasRestarted, HasStarted, Input, IsOfWorld, KeepsLaw, MayTake, OnStart}
use Rattle.message_end.specs.Ends.Input.{Time}
use Rattle.message_end.specs.History.{IsHistoryOf, noted_in, written_in}
use Rattle.message_end.specs.InStep.{EndsOnce, HasNoEnd}
use Rattle.message_end.specs.Laws.{new_end}
use Rattle.message_end.specs.Parts.{Design, Did, Node, after_parts, bare_started, machine_of, next_of}
use Rattle.message_end.specs.Ends.IsOfWorld.{of_power, of_wrote}
use Rattle.message_end.specs.Plan.{EndPlan}
use Rattle.message_end.specs.Starts.{bare_start}
use Rattle.message_end.proofs.Courses.{in-turn}
use Rattle.message_end.proofs.InSteps.{history-ends, quiet-note, steps-said}
use Rattle.message_end.proofs.Lawful as core
use Rattle.message_end.proofs.Parts.{IsStepOf, OnEither}
use Rattle.message_end.proofs.PartsKept.{Begun, Closed, NodeAt, at-step, step_ended}
use Rattle.message_end.proofs.Starts.{bare-start}
use Rattle.message_end.proofs.Steps.{Laws}

-- what the world notes of an end is of no message, and ends no step
pub world-may-note : (what : Happening) → IsOfWorld what → MayNote what
world-may-note _ (of_wrote characters) = tt
world-may-note _ of_power = tt

-- a start, and what the world notes of an end
pub begins-new :
    {S K : Type 0} (laws : Laws) (plan : EndPlan) (fits : LinePlanFits plan.line) (Sound : S → Type 0) (own : S)
    (numbers : NumbersView) → IsNumbers numbers → Sound own
    → Did {K = K} Sound plan numbers.next [] (record { own = own; core = new_end plan numbers })
begins-new {S} {K} laws plan fits Sound own numbers are sound =
    record { sound = sound; is = (core.lawful {K = K} laws).begins plan numbers fits are }

pub history-says :
    {K : Type 0} (plan : EndPlan) (base : ℕ) (doings : List Doing) (e : EndView K) (what : Happening)
    → IsHistoryOf plan base doings e → IsOfWorld what → IsHistoryOf plan base (Says what ∷ doings) e
history-says plan base doings e what is world = record {
  lawful = (
    (in-turn (own_of plan doings) (Says what) is.received, (quiet-note what (world-may-note what world)).plain),
    is.lawful,
  );
  line = is.line;
  received = is.received;
  core = is.core;
  steps = steps-said plan doings e.asked what (world-may-note what world) is.steps;
}

-- a node at the start of a step, and what it has done by its end
module _
    {S K : Type 0} (laws : Laws) (plan : EndPlan) (base : ℕ) (fits : LinePlanFits plan.line) (Sound : S → Type 0)
    (doings : List Doing) (now : ℕ) where
  pub begins-at :
      (s : Node S K) → Did Sound plan base doings s
      → NodeAt laws plan base fits Sound doings now s.core.numbers.end (λ (made : List LineCall). made ≡ [])
      (at_first s)
  begins-at s did = record {
    core = record {
      at = record {
        done = [];
        called = refl;
        drops = tt;
        received = did.is.received;
        course = record {
          lawful = did.is.lawful;
          line = did.is.line;
          notes = sym (append-nil (noted_in doings));
          written = sym (append-nil (written_in plan doings));
        };
        core = did.is.core;
        steps = did.is.steps;
        unended = tt;
      };
      limit_is = refl;
    };
    sound = did.sound;
  }

  pub does-more :
      (limit : ℕ) (Such : List LineCall → Type 0) (step : Step (Node S K) Happening)
      → NodeAt laws plan base fits Sound doings now limit Such step
      → DoesMore plan (Did Sound plan) base doings now Such HasNoEnd step
  does-more limit Such step at =
      let so = at.core.at in
      record {
        done = so.done;
        is = record {
          sound = at.sound;
          is = record {
            lawful = so.course.lawful;
            received = so.received;
            line = so.course.line;
            core = so.core;
            steps = so.steps;
          };
        };
        notes = so.course.notes;
        written = so.course.written;
        calls = so.called;
        drops = so.drops;
        ends = so.unended;
      }

  -- and with the end of the step
  pub does-all :
      (Such : List LineCall → Type 0) (step : Step (Node S K) Happening)
      → DoesMore plan (Did Sound plan) base doings now Such HasNoEnd step
      → DoesMore plan (Did Sound plan) base doings now Such EndsOnce (step_ended step)
  does-all Such step more = record {
    done = Says Happening.StepEnded ∷ more.done;
    is = record {
      sound = more.is.sound;
      is = history-ends plan base (more.done ++ doings) step.next.core more.is.is;
    };
    notes =
        ap (λ (ns : List Happening). ns ++ Happening.StepEnded ∷ []) more.notes
        ∙ append_assoc (noted_in doings) step.notes (Happening.StepEnded ∷ []);
    written = more.written;
    calls = more.calls;
    drops = more.drops;
    ends = record { rest = more.done; is = refl; unended = more.ends };
  }

module _
    {S K C : Type 0} (laws : Laws) (plan : EndPlan) (fits : LinePlanFits plan.line) (Sound : S → Type 0)
    (design : Design S K C) (takes_it : C → Type 0) where
  does-step :
      (base : ℕ) (doings : List Doing) (s : Node S K) (input : Input C) (now : ℕ)
      → IsStepOf plan base Sound input now (design.parts input now) → Did Sound plan base doings s
      → DoesStep plan (Did Sound plan) base doings input now ((machine_of design).act s input now)
  does-step base doings s input now of_step did =
      go (after_parts Some (design.parts input now) (at_first s))
      (at-step laws plan base fits Sound doings now s.core.numbers.end input (design.parts input now) (at_first s)
      of_step
      (begins-at laws plan base fits Sound doings now s did))
    where
      go :
          (went : Went (Node S K) Happening)
          → OnEither (Closed laws plan base fits Sound doings now s.core.numbers.end input)
          (Begun laws plan base fits Sound doings now s.core.numbers.end input) went
          → DoesStep plan (Did Sound plan) base doings input now went
      go (Goes step) at =
          subst (λ (last : Step (Node S K) Happening).
          DoesMore plan (Did Sound plan) base doings now (AreOfStep input now) EndsOnce last) (sym at.is)
          (does-all laws plan base fits Sound doings now (AreOfStep input now) at.before
          (does-more laws plan base fits Sound doings now s.core.numbers.end (AreOfStep input now) at.before
          at.stepped))
      go (Spent step) at =
          does-more laws plan base fits Sound doings now s.core.numbers.end (AreBegunOf input now) step at

  -- the numbers that are left are above all drawn
  restarts-above :
      (again : (own : S) → Sound own → Sound (design.again own)) (same : (own : S) → Sound own → design.plan own ≡ plan)
      (base : ℕ) (doings : List Doing) (s : Node S K) (now : ℕ) → Did Sound plan base doings s
      → OnStart (HasRestarted plan (Did Sound plan) base doings) ((machine_of design).restart s now)
  restarts-above again same base doings s now did = record {
    least = s.core.numbers.next;
    no_lower = did.is.core.numbers.least;
    above = did.is.core.numbers.above;
    started =
        subst
        (λ (p : EndPlan).
        HasStarted plan (Did Sound plan) s.core.numbers.next (bare_started {K = K} p (design.again s.own) s.core.numbers))
        (sym (same s.own did.sound))
        (record {
          base = s.core.numbers.next;
          note = bare_start plan.side s.core.numbers.next;
          said = [];
          is = record {
            sound = again s.own did.sound;
            is = (core.lawful {K = K} laws).begins plan s.core.numbers fits did.is.core.numbers.left;
          };
          above = omega arith;
          of_side = bare-start plan.side s.core.numbers.next;
          of_start = tt;
          notes = refl;
          written = refl;
        });
  }

  -- a node whose steps are such keeps the law of an end
  pub node-lawful :
      (own : S) → Sound own → ((own : S) → Sound own → Sound (design.again own))
      → ((own : S) → Sound own → design.plan own ≡ plan)
      → ((base : ℕ) (input : Input C) (now : ℕ) → MayTake takes_it input
      → IsStepOf plan base Sound input now (design.parts input now))
      → ((step : Step (Node S K) Happening)
      → (machine_of design).act (bare_started plan own (numbers_from 0 (2 ^ 32))).next Time 0 ≢ Spent step)
      → KeepsLaw plan (Did Sound plan) takes_it (Goes (bare_started plan own (numbers_from 0 (2 ^ 32))))
      (machine_of design)
  node-lawful own sound again same steps begins = record {
    fits = fits;
    starts = record {
      base = 0;
      note = bare_start plan.side 0;
      said = [];
      is = record {
        sound = sound;
        is = (core.lawful {K = K} laws).begins plan (numbers_from 0 (2 ^ 32)) fits all_left;
      };
      above = omega arith;
      of_side = bare-start plan.side 0;
      of_start = tt;
      notes = refl;
      written = refl;
    };
    begins = λ first step is spent. begins step (ap (λ (s : Node S K). (machine_of design).act s Time 0)
        (first-is first is) ∙ spent);
    stops = λ base doings s input now did may front has. absurd has;
    unended = λ base doings s input now did may front has. absurd has;
    keeps = λ base doings s did. record {
      lawful = did.is.lawful;
      line_is = did.is.line;
      received = did.is.received;
      replies = did.is.steps.replies;
    };
    goes_on = λ base doings s input now did may. does-step base doings s input now (steps base input now may) did;
    says = λ base doings s what did world.
        record { sound = did.sound; is = history-says plan base doings s.core what did.is world };
    restarts = λ base doings s now did. restarts-above again same base doings s now did;
    loses = λ base doings s input now did may loss has. absurd has;
  }
    where
      all_left : IsNumbers (numbers_from 0 (2 ^ 32))
      all_left = search rules

      first-is :
          (first : Step (Node S K) Happening) → Goes (bare_started plan own (numbers_from 0 (2 ^ 32))) ≡ Goes first
          → (bare_started {K = K} plan own (numbers_from 0 (2 ^ 32))).next ≡ first.next
      first-is first is =
          ap (λ (went : Went (Node S K) Happening). next_of went) is
