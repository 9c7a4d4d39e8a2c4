-- What an end does since its start, with the calls of its line; its law over these. The newest comes first.
use Rattle.std.specs.Prelude.{◌≡◌, ℕ, Bool, true, false, List, [], ◌∷◌, Option, Some, None}
use Rattle.block_codec.specs.Block.{BlockView, IsBlock}
use Rattle.gl_base.specs.declared.side.Side.{Side}
use Rattle.line_end.specs.declared.event.LineEvent.{LineEvent}
use Rattle.line_end.specs.declared.event.LineEvent.TheVariants.{Arrived, Failed, Nothing, Refused, Sent}
use Rattle.line_end.specs.Runs.{CanCall}
use Rattle.line_end.specs.State.{LineState}
use Rattle.line_end.specs.Step.{LineCall, line_step}
use Rattle.line_end.specs.Step.LineCall.{Cancel, Resume, Send, Take, Tick}
use Rattle.line_order.specs.Characters.{writes_frame}
use Rattle.message_flow.specs.declared.message.Message.{Message}
use Rattle.message_flow.specs.History.{flow_after, met_of}
use Rattle.message_flow.specs.Receiver.{Receiver}
use Rattle.message_end.specs.Own.{Giving, MayDo, MayGive, IsUnanswered, Own, entries_in, given_in, sent_at, sent_in, whole_in}
use Rattle.message_end.specs.Own.Own.{GaveBlock, HeardBlock, ReceivedMessage, WroteFrame}
use Rattle.message_end.specs.Plan.{EndPlan, block_of, new_line_of, receiver_of}
use Rattle.trace_log.specs.Log.{Happening}

-- an end draws a number, sends or receives a message, or drops one by T4; gives a block of its own to its line; makes
-- another call of its line; or notes what no law of the line speaks of
pub data Doing : Type 0 where
  Does : (own : Own) → Doing
  Gives : (place number : ℕ) (block : BlockView) (now : ℕ) → Doing
  Calls : (call : LineCall) → Doing
  Says : (what : Happening) → Doing

-- ---- its line, and what it has done

abbrev pub line_of : EndPlan → List Doing → LineState
line_of plan [] = new_line_of plan
line_of plan (Does own ∷ before) = line_of plan before
line_of plan (Gives place number block now ∷ before) = (line_step (line_of plan before) (Send block now)).next
line_of plan (Calls call ∷ before) = (line_step (line_of plan before) call).next
line_of plan (Says what ∷ before) = line_of plan before

-- a frame is of the block that was given last
abbrev pub with_frame_of : List Giving → List Own → List Own
with_frame_of [] own = own
with_frame_of (giving ∷ before) own = WroteFrame giving.place giving.number ∷ own

abbrev pub with_frame : Bool → List Own → List Own
with_frame true own = with_frame_of (given_in own) own
with_frame false own = own

-- a block that arrives is heard at once
abbrev pub with_hearing : Receiver → LineEvent → ℕ → List Own → List Own
with_hearing receiver (Arrived block) now own =
    HeardBlock block now (flow_after receiver (met_of receiver (entries_in own)) block) ∷ own
with_hearing receiver Nothing now own = own
with_hearing receiver Sent now own = own
with_hearing receiver Failed now own = own
with_hearing receiver (Refused cause) now own = own

abbrev pub moment_of : LineCall → ℕ
moment_of (Send block now) = now
moment_of (Resume now) = now
moment_of Cancel = 0
moment_of (Take byte now) = now
moment_of (Tick now) = now

-- what a call of the line writes and tells is done with it
abbrev pub with_call : Receiver → LineCall → LineState → List Own → List Own
with_call receiver call line own =
    with_hearing receiver (line_step line call).event (moment_of call)
    (with_frame (writes_frame (line_step line call).written) own)

abbrev pub own_of : EndPlan → List Doing → List Own
own_of plan [] = []
own_of plan (Does own ∷ before) = own ∷ own_of plan before
own_of plan (Gives place number block now ∷ before) = GaveBlock place number ∷ own_of plan before
own_of plan (Calls call ∷ before) = with_call (receiver_of plan) call (line_of plan before) (own_of plan before)
own_of plan (Says what ∷ before) = own_of plan before

-- ---- the law

-- a message that is whole is received before anything else is done; but the block that the line holds may be dropped
-- before (this profile)
abbrev pub IsOfWhole : Doing → Type 0
IsOfWhole (Does (ReceivedMessage message)) = Unit {0}
IsOfWhole (Calls Cancel) = Unit {0}
IsOfWhole _ = ⊥

abbrev pub IsInTurn : Option Message → Doing → Type 0
IsInTurn None doing = Unit {0}
IsInTurn (Some whole) doing = IsOfWhole doing

-- a block is given where the end is idle and holds none, and is the one of its message
pub record MayGiveBlock
    (plan : EndPlan) (line : LineState) (own : List Own) (place number : ℕ) (block : BlockView) (now : ℕ)
    : Type 0 where
  pub in_turn : IsInTurn (whole_in own) (Gives place number block now)
  pub may : MayGive own place number
  pub is : (message : Message) → sent_at place (sent_in own) ≡ Some message → block ≡ block_of plan message number
  pub can : CanCall line (Send block now)
  pub in_block : IsBlock block

abbrev pub IsNoSend : LineCall → Type 0
IsNoSend (Send block now) = ⊥
IsNoSend (Resume now) = Unit {0}
IsNoSend Cancel = Unit {0}
IsNoSend (Take byte now) = Unit {0}
IsNoSend (Tick now) = Unit {0}

-- the frame that a call writes is of an unanswered message
abbrev pub IsFrameUnanswered : Side → List Giving → List Own → Type 0
IsFrameUnanswered side [] own = Unit {0}
IsFrameUnanswered side (giving ∷ before) own = IsUnanswered side own giving.place

abbrev pub MayWriteFrame : Side → Bool → List Own → Type 0
MayWriteFrame side true own = IsFrameUnanswered side (given_in own) own
MayWriteFrame side false own = Unit {0}

pub record MayCall (side : Side) (line : LineState) (own : List Own) (call : LineCall) : Type 0 where
  pub in_turn : IsInTurn (whole_in own) (Calls call)
  pub no_send : IsNoSend call
  pub can : CanCall line call
  pub frame : MayWriteFrame side (writes_frame (line_step line call).written) own

-- what no law of messages speaks of
abbrev pub IsPlain : Happening → Type 0
IsPlain (Happening.Sent message) = ⊥
IsPlain (Happening.Received message) = ⊥
IsPlain (Happening.EquipmentStarted found base) = ⊥
IsPlain (Happening.HostStarted journal) = ⊥
IsPlain _ = Unit {0}

-- what is done next agrees with all that was done before
abbrev pub IsLawful : EndPlan → ℕ → List Doing → Doing → Type 0
IsLawful plan base before (Does own) =
    IsInTurn (whole_in (own_of plan before)) (Does own) × MayDo (receiver_of plan) base (own_of plan before) own
IsLawful plan base before (Gives place number block now) =
    MayGiveBlock plan (line_of plan before) (own_of plan before) place number block now
IsLawful plan base before (Calls call) = MayCall plan.side (line_of plan before) (own_of plan before) call
IsLawful plan base before (Says what) = IsInTurn (whole_in (own_of plan before)) (Says what) × IsPlain what

-- each doing at what was done before it
abbrev pub AreLawful : EndPlan → ℕ → List Doing → Type 0
AreLawful plan base [] = Unit {0}
AreLawful plan base (doing ∷ before) = IsLawful plan base before doing × AreLawful plan base before
