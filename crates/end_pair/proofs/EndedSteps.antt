-- Which doings are those of a step that goes on, and which of one that is cut short.
use Rattle.std.proofs.Common.{◌≡◌, refl, ap, ◌∙◌, ℕ, List, [], ◌∷◌, ◌++◌}
use Rattle.line_end.specs.Step.{LineCall}
use Rattle.line_end.specs.Step.LineCall.{Tick}
use Rattle.message_end.specs.Doings.{Doing}
use Rattle.message_end.specs.Doings.Doing.{Calls, Does, Gives, Says}
use Rattle.message_end.specs.Ends.{AreBegunOf, AreOfStep, Input, taking_calls}
use Rattle.message_end.specs.Ends.Input.{Char, Command, Time}
use Rattle.message_end.specs.History.{noted_in, notes_of_own}
use Rattle.message_end.specs.InStep.{EndsOnce, HasNoEnd, IsNoEnd, NoneEnds}
use Rattle.message_end.specs.LineCalls.{calls_in}
use Rattle.message_end.proofs.InSteps.{none-front}
use Rattle.trace_log.specs.Log.{Happening}
use Rattle.end_pair.specs.InSteps.{AreOfCutStep, AreOfWholeStep, with_wrote}

-- ---- which command it was doesn't count

abbrev pub plain : {C : Type 0} → Input C → Input (Unit {0})
plain (Char byte) = Char byte
plain Time = Time
plain (Command command) = Time

same-taking : {C : Type 0} (input : Input C) (now : ℕ) → taking_calls input now ≡ taking_calls (plain input) now
same-taking (Char byte) now = refl
same-taking Time now = refl
same-taking (Command command) now = refl

plain-step : {C : Type 0} (input : Input C) (now : ℕ) (calls : List LineCall) → AreOfStep input now calls
    → AreOfStep (plain input) now calls
plain-step input now calls of = record {
  decided = of.decided;
  are = of.are ∙ ap (λ (cs : List LineCall). of.decided ++ cs) (same-taking input now);
  decisions = of.decisions;
}

pub of-whole-step :
    {C : Type 0} (input : Input C) (now : ℕ) (made : List Doing) (written : List ℕ)
    → AreOfStep input now (calls_in made) → EndsOnce made → AreOfWholeStep now (with_wrote written made)
of-whole-step input now made written calls ends = record {
  input = plain input;
  made = made;
  calls = plain-step input now (calls_in made) calls;
  ends = ends;
  written = written;
  is = refl;
}

pub of-cut-step :
    {C : Type 0} (input : Input C) (now : ℕ) (done : List Doing) → AreBegunOf input now (calls_in done)
    → HasNoEnd done → AreOfCutStep now done
of-cut-step input now done begun unended = record {
  input = plain input;
  calls = record { later = begun.later; whole = plain-step input now (begun.later ++ calls_in done) begun.whole };
  unended = unended;
}

-- of which nothing is done yet
pub cut-at-once : (now : ℕ) → AreOfCutStep now []
cut-at-once now = record {
  input = Time;
  calls = record { later = Tick now ∷ []; whole = record { decided = []; are = refl; decisions = tt } };
  unended = tt;
}

-- ---- where nothing noted is an end, nothing done is one

none-last : (front : List Happening) (what : Happening) → NoneEnds (front ++ what ∷ []) → IsNoEnd what
none-last [] what none = none.0
none-last (first ∷ front) what none = none-last front what none.1

pub none-done : (done : List Doing) → NoneEnds (noted_in done) → HasNoEnd done
none-done [] none = tt
none-done (Does own ∷ before) none = none-done before (none-front (noted_in before) (notes_of_own own) none)
none-done (Gives place number block now ∷ before) none = none-done before none
none-done (Calls call ∷ before) none = none-done before none
none-done (Says what ∷ before) none = (
  none-last (noted_in before) what none,
  none-done before (none-front (noted_in before) (what ∷ []) none),
)
