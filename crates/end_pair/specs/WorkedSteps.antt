-- What is one step of an end and what isn't, in examples that can be followed by hand. The newest doing comes first.
use Rattle.std.specs.Prelude.{List, [], ◌∷◌}
use Rattle.line_end.specs.Step.LineCall.{Tick}
use Rattle.message_flow.specs.declared.message.Message.{Message}
use Rattle.message_end.specs.Doings.{Doing}
use Rattle.message_end.specs.Doings.Doing.{Calls, Does, Says}
use Rattle.message_end.specs.Own.Own.{ReceivedMessage, SentMessage}
use Rattle.trace_log.specs.Log.{Happening}
use Rattle.end_pair.specs.InSteps.{AreOfCutStep, AreOfWholeStep, with_wrote}

-- a message comes with a look at the clock, and is replied to
abbrev pub asked_at : Message → List Doing
asked_at asked = Does (ReceivedMessage asked) ∷ Calls (Tick 0) ∷ []

abbrev pub replied : Message → Message → List Doing
replied asked reply = Does (SentMessage reply) ∷ asked_at asked

-- it is replied to after one more look at the clock
abbrev pub replied_late : Message → Message → List Doing
replied_late asked reply = Does (SentMessage reply) ∷ Calls (Tick 0) ∷ asked_at asked

abbrev pub ended : List Doing → List Doing
ended done = Says Happening.StepEnded ∷ done

pub record StepsEndOnce : Type 0 where
  pub whole : (asked reply : Message) → AreOfWholeStep 0 (ended (replied asked reply))
  -- what it has written is noted behind its end
  pub wrote : (asked reply : Message) → AreOfWholeStep 0 (with_wrote (5 ∷ []) (ended (replied asked reply)))
  -- without its end it is none
  pub unended : (asked reply : Message) → AreOfWholeStep 0 (replied asked reply) → ⊥
  -- two steps aren't one, though they have one end together
  pub two : (asked reply : Message) → AreOfWholeStep 0 (ended (replied_late asked reply)) → ⊥
  -- a step may be cut short before its end, and not at its end
  pub cut : (asked reply : Message) → AreOfCutStep 0 (replied asked reply)
  pub cut_at_end : (asked reply : Message) → AreOfCutStep 0 (ended (replied asked reply)) → ⊥
