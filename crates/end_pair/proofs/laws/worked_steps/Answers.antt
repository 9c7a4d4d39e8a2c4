-- The steps by the lemmas of `EndedSteps`; that two looks at the clock are of no step by the calls of one.

use Rattle.std.proofs.Common.{◌≡◌, refl, sym, ap, subst, ◌∙◌, ℕ, List, [], ◌∷◌, ◌++◌}
use Rattle.line_end.specs.Step.{LineCall}
use Rattle.line_end.specs.Step.LineCall.{Tick}
use Rattle.message_flow.specs.declared.message.Message.{Message}
use Rattle.message_end.specs.Doings.{Doing}
use Rattle.message_end.specs.Doings.Doing.{Does}
use Rattle.message_end.specs.Ends.{AreDecidedAt, AreOfStep, Input, IsDecidedAt, taking_calls}
use Rattle.message_end.specs.Ends.Input.{Char, Command, Time}
use Rattle.message_end.specs.InStep.{EndsOnce}
use Rattle.message_end.specs.LineCalls.{calls_in}
use Rattle.message_end.specs.Own.Own.{SentMessage}
use Rattle.end_pair.proofs.EndedSteps.{of-cut-step, of-whole-step}
use Rattle.end_pair.specs.InSteps.{AreOfWholeStep, with_wrote}
use Rattle.end_pair.specs.WorkedSteps.{asked_at, ended, replied, replied_late}
use Rattle.end_pair.proofs.laws.worked_steps.Goals as goal

-- the timer is looked at, and nothing is decided of the line
looks : AreOfStep {C = Unit {0}} Time 0 (Tick 0 ∷ [])
looks = record { decided = []; are = refl; decisions = tt }

replied-once : (asked reply : Message) → EndsOnce (ended (replied asked reply))
replied-once asked reply = record { rest = replied asked reply; is = refl; unended = tt }

-- a step that is noted as written, or as ended, isn't a reply's
no-reply : (reply : Message) (rest made : List Doing) (written : List ℕ) → Does (SentMessage reply) ∷ rest
    ≡ with_wrote written made → EndsOnce made → ⊥
no-reply reply rest made [] is ends = let same = is ∙ ends.is in absurd (cc)
no-reply reply rest made (byte ∷ bytes) is ends = absurd (cc)

two-ticks : (input : Input (Unit {0})) (decided : List LineCall)
    → Tick 0 ∷ Tick 0 ∷ [] ≡ decided ++ taking_calls input 0 → AreDecidedAt 0 decided → ⊥
two-ticks (Char byte) [] is are = absurd (cc)
two-ticks Time [] is are = absurd (cc)
two-ticks (Command command) [] is are = absurd (cc)
two-ticks input (call ∷ decided) is are =
    subst (IsDecidedAt 0) (sym (head (Tick 0) call (Tick 0 ∷ []) (decided ++ taking_calls input 0) is)) are.0
  where
    head : (a b : LineCall) (xs ys : List LineCall) → a ∷ xs ≡ b ∷ ys → a ≡ b
    head a b xs ys same = cc

same-made : (asked reply : Message) (made : List Doing) (written : List ℕ)
    → ended (replied_late asked reply) ≡ with_wrote written made → calls_in made ≡ Tick 0 ∷ Tick 0 ∷ []
same-made asked reply made [] is = sym (ap calls_in is)
same-made asked reply made (byte ∷ bytes) is = absurd (cc)

no-two : (asked reply : Message) → AreOfWholeStep 0 (ended (replied_late asked reply)) → ⊥
no-two asked reply step =
    two-ticks step.input step.calls.decided
    (sym (same-made asked reply step.made step.written step.is) ∙ step.calls.are) step.calls.decisions

pub returns : goal.returns
returns c = record {
  whole = λ asked reply.
      of-whole-step {C = Unit {0}} Time 0 (ended (replied asked reply)) [] looks (replied-once asked reply);
  wrote = λ asked reply.
      of-whole-step {C = Unit {0}} Time 0 (ended (replied asked reply)) (5 ∷ []) looks (replied-once asked reply);
  unended = λ asked reply step. no-reply reply (asked_at asked) step.made step.written step.is step.ends;
  two = no-two;
  cut = λ asked reply.
      of-cut-step {C = Unit {0}} Time 0 (replied asked reply) (record { later = []; whole = looks }) tt;
  cut_at_end = λ asked reply step. step.unended.0;
}
