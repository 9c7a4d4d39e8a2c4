-- Replies in their steps and behind them, in examples that can be followed by hand. The newest doing comes first.
use Rattle.std.specs.Prelude.{◌≡◌, true, false, List, [], ◌∷◌}
use Rattle.gl_base.specs.declared.side.Side.{Side}
use Rattle.gl_base.specs.Side.{other_side}
use Rattle.message_flow.specs.declared.message.Message.{Message}
use Rattle.message_flow.specs.Blocks.{header_of}
use Rattle.message_flow.specs.Message.{is_primary}
use Rattle.message_end.specs.Doings.{Doing}
use Rattle.message_end.specs.Doings.Doing.{Does, Says}
use Rattle.message_end.specs.InStep.{EndsOnce, RepliesAreOfSteps, ReplyInTheirSteps}
use Rattle.message_end.specs.Own.{IsReplyTo}
use Rattle.message_end.specs.Own.Own.{ReceivedMessage, SentMessage}
use Rattle.message_end.specs.Plan.{EndPlan}
use Rattle.trace_log.specs.Log.{Happening}

-- the primary comes and is replied to; it is replied to in the next step; and it is replied to twice
abbrev pub replied : Message → Message → List Doing
replied asked reply =
    Says Happening.StepEnded ∷ Does (SentMessage reply) ∷ Does (ReceivedMessage asked) ∷ []

abbrev pub replied_late : Message → Message → List Doing
replied_late asked reply =
    Says Happening.StepEnded ∷ Does (SentMessage reply) ∷ Says Happening.StepEnded ∷ Does (ReceivedMessage asked) ∷ []

abbrev pub replied_twice : Message → Message → List Doing
replied_twice asked reply = Does (SentMessage reply) ∷ Does (SentMessage reply) ∷ Does (ReceivedMessage asked) ∷ []

-- the same as it is noted
abbrev pub notes_replied : Message → Message → List Happening
notes_replied asked reply = Happening.StepEnded ∷ Happening.Sent reply ∷ Happening.Received asked ∷ []

abbrev pub notes_late : Message → Message → List Happening
notes_late asked reply = Happening.Sent reply ∷ Happening.StepEnded ∷ Happening.Received asked ∷ []

abbrev pub notes_twice : Message → Message → List Happening
notes_twice asked reply = Happening.Sent reply ∷ Happening.Sent reply ∷ Happening.Received asked ∷ []

pub record StepsOfReplies : Type 0 where
  pub in_step :
      (plan : EndPlan) (asked reply : Message) → is_primary reply ≡ false → is_primary asked ≡ true
      → asked.wait ≡ true
      → IsReplyTo (other_side plan.side) asked (header_of plan.side 0 reply 1)
      → ReplyInTheirSteps plan (replied asked reply)
  pub ends : (asked reply : Message) → EndsOnce (replied asked reply)
  pub late :
      (plan : EndPlan) (asked reply : Message) → is_primary reply ≡ false
      → ReplyInTheirSteps plan (replied_late asked reply) → ⊥
  pub twice :
      (plan : EndPlan) (asked reply : Message) → is_primary reply ≡ false
      → ReplyInTheirSteps plan (replied_twice asked reply) → ⊥
  -- of two steps together no end is the only one
  pub two : (asked reply : Message) → EndsOnce (replied_late asked reply) → ⊥
  pub noted :
      (side : Side) (asked reply : Message) → is_primary reply ≡ false → is_primary asked ≡ true
      → asked.wait ≡ true
      → IsReplyTo (other_side side) asked (header_of side 0 reply 1)
      → RepliesAreOfSteps side (notes_replied asked reply)
  pub noted_late :
      (side : Side) (asked reply : Message) → is_primary reply ≡ false
      → RepliesAreOfSteps side (notes_late asked reply) → ⊥
  pub noted_twice :
      (side : Side) (asked reply : Message) → is_primary reply ≡ false
      → RepliesAreOfSteps side (notes_twice asked reply) → ⊥
