-- What an end does in the step that it makes, over its doings since its start: that a reply goes in the step in which
-- its primary was received, and how a step ends. The newest comes first.
use Rattle.std.specs.Prelude.{◌≡◌, true, false, List, [], ◌∷◌, Option, Some, None}
use Rattle.gl_base.specs.declared.side.Side.{Side}
use Rattle.gl_base.specs.Side.{other_side}
use Rattle.message_flow.specs.declared.message.Message.{Message}
use Rattle.message_flow.specs.Blocks.{header_of}
use Rattle.message_flow.specs.Message.{is_primary}
use Rattle.message_end.specs.Doings.{Doing}
use Rattle.message_end.specs.Doings.Doing.{Calls, Does, Gives, Says}
use Rattle.message_end.specs.Own.{IsReplyTo, Own, asked_after}
use Rattle.message_end.specs.Own.Own.{ReceivedMessage, SentMessage}
use Rattle.message_end.specs.Plan.{EndPlan}
use Rattle.trace_log.specs.InStep.{noted_in_step}
use Rattle.trace_log.specs.Log.{Happening}

-- ---- replies

-- the newest message received in this step, where no reply has been sent since
abbrev pub asked_by_own : Own → Option Message → Option Message
asked_by_own (SentMessage message) asked = asked_after (is_primary message) asked
asked_by_own (ReceivedMessage message) asked = Some message
asked_by_own _ asked = asked

abbrev pub asked_behind : Happening → Option Message → Option Message
asked_behind Happening.StepEnded asked = None
asked_behind _ asked = asked

abbrev pub asked_in_step : List Doing → Option Message
asked_in_step [] = None
asked_in_step (Does own ∷ before) = asked_by_own own (asked_in_step before)
asked_in_step (Gives place number block now ∷ before) = asked_in_step before
asked_in_step (Calls call ∷ before) = asked_in_step before
asked_in_step (Says what ∷ before) = asked_behind what (asked_in_step before)

-- a reply goes to the newest primary with W that was received in the same step, and one reply alone (SEMI E5,
-- transaction; the step is this profile's)
pub record IsReplyInStep (side : Side) (before : List Doing) (message : Message) : Type 0 where
  pub asked : Message
  pub newest : asked_in_step before ≡ Some asked
  pub primary : is_primary asked ≡ true
  pub wait : asked.wait ≡ true
  pub reply : IsReplyTo (other_side side) asked (header_of side 0 message 1)

abbrev pub RepliesInStep : Side → List Doing → Own → Type 0
RepliesInStep side before (SentMessage message) = is_primary message ≡ false → IsReplyInStep side before message
RepliesInStep side before _ = Unit {0}

abbrev pub IsInStep : Side → List Doing → Doing → Type 0
IsInStep side before (Does own) = RepliesInStep side before own
IsInStep side before (Gives place number block now) = Unit {0}
IsInStep side before (Calls call) = Unit {0}
IsInStep side before (Says what) = Unit {0}

-- each doing at those before it
abbrev pub ReplyInTheirSteps : EndPlan → List Doing → Type 0
ReplyInTheirSteps plan [] = Unit {0}
ReplyInTheirSteps plan (doing ∷ before) = IsInStep plan.side before doing × ReplyInTheirSteps plan before

-- ---- the same over the notes of an end

-- the newest message received among these, where no reply has been sent since
abbrev pub asked_among : List Happening → Option Message
asked_among [] = None
asked_among (Happening.Sent message ∷ before) = asked_after (is_primary message) (asked_among before)
asked_among (Happening.Received message ∷ before) = Some message
asked_among (_ ∷ before) = asked_among before

-- a reply is noted as sent in the step that has noted its primary, with W, as received, and is the only one to it
pub record IsReplyOfStep (side : Side) (before : List Happening) (message : Message) : Type 0 where
  pub asked : Message
  pub newest : asked_among (noted_in_step before) ≡ Some asked
  pub primary : is_primary asked ≡ true
  pub wait : asked.wait ≡ true
  pub reply : IsReplyTo (other_side side) asked (header_of side 0 message 1)

abbrev pub IsNotedInStep : Side → List Happening → Happening → Type 0
IsNotedInStep side before (Happening.Sent message) = is_primary message ≡ false → IsReplyOfStep side before message
IsNotedInStep side before _ = Unit {0}

-- each note at those before it
abbrev pub RepliesAreOfSteps : Side → List Happening → Type 0
RepliesAreOfSteps side [] = Unit {0}
RepliesAreOfSteps side (what ∷ before) = IsNotedInStep side before what × RepliesAreOfSteps side before

-- ---- the end of a step

abbrev pub IsNoEnd : Happening → Type 0
IsNoEnd Happening.StepEnded = ⊥
IsNoEnd _ = Unit {0}

-- among these doings no step ends
abbrev pub HasNoEnd : List Doing → Type 0
HasNoEnd [] = Unit {0}
HasNoEnd (Does own ∷ before) = HasNoEnd before
HasNoEnd (Gives place number block now ∷ before) = HasNoEnd before
HasNoEnd (Calls call ∷ before) = HasNoEnd before
HasNoEnd (Says what ∷ before) = IsNoEnd what × HasNoEnd before

-- nor among these notes
abbrev pub NoneEnds : List Happening → Type 0
NoneEnds [] = Unit {0}
NoneEnds (what ∷ rest) = IsNoEnd what × NoneEnds rest

-- of one step, or the first ones of it: at most the last of these is its end
abbrev pub AreOfOneStep : List Doing → Type 0
AreOfOneStep [] = Unit {0}
AreOfOneStep (doing ∷ before) = HasNoEnd before

-- of a step that goes on: its end is the last of these, and the only one
pub record EndsOnce (done : List Doing) : Type 0 where
  pub rest : List Doing
  pub is : done ≡ Says Happening.StepEnded ∷ rest
  pub unended : HasNoEnd rest
