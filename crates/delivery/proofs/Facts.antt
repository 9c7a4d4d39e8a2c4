-- What holds of two ends at all times. It says less after a power loss, so nothing has to be shown there.
use Rattle.std.specs.Prelude.{refl, ◌≡◌, ◌<◌, ◌≤◌, true, false, List, [], ◌∷◌, length, Option, Some, None}
use Rattle.std.proofs.Common.{sym, ap, ◌∙◌}
use Rattle.block_codec.specs.Block.{BlockView}
use Rattle.block_codec.specs.declared.header.Header.{Header}
use Rattle.gl_base.specs.declared.side.Side.{Side}
use Rattle.gl_base.specs.declared.side.Side.TheVariants.{Equipment, Host}
use Rattle.gl_base.specs.Side.{other_side}
use Rattle.message_end.specs.Own.{Has, IsReplyTo}
use Rattle.message_end.specs.Plan.{EndPlan, receiver_of}
use Rattle.message_flow.specs.Blocks.{block_count, header_of}
use Rattle.message_flow.specs.Entries.{FlowEntry, blocks_in}
use Rattle.message_flow.specs.History.{last_given, met_of}
use Rattle.message_flow.specs.Message.{is_primary}
use Rattle.message_flow.specs.Receiver.{Receiver}
use Rattle.delivery.proofs.Tags.{TaggedBlock, TaggedEnd, TaggedHearing, TaggedMessage, TaggedWhole, view_of}

-- ---- an end that sends

pub record IsOfSent (ever : List TaggedMessage) (block : TaggedBlock) : Type 0 where
  pub sent : Has ever block.of
  pub first : 1 ≤ block.number
  pub last : block.number ≤ block_count block.of.message

-- the frame is of a message of the present start
pub record IsFrameOf (sent : List TaggedMessage) (given : List TaggedBlock) (block : TaggedBlock) : Type 0 where
  pub is_given : Has given block
  pub of_sent : Has sent block.of

pub record IsSending (sent ever : List TaggedMessage) (given frames : List TaggedBlock) : Type 0 where
  pub placed : (m : TaggedMessage) → Has ever m → m.place < length ever
  pub fresh :
      (m n : TaggedMessage) → Has ever m → Has ever n → is_primary m.message ≡ true → is_primary n.message ≡ true
      → m.message.system ≡ n.message.system → m ≡ n
  pub ever_sent : (m : TaggedMessage) → Has sent m → Has ever m
  pub given_are : (b : TaggedBlock) → Has given b → IsOfSent ever b
  pub places : (b : TaggedBlock) → Has given b → b.place < length given
  pub same : (a b : TaggedBlock) → Has given a → Has given b → a.place ≡ b.place → a ≡ b
  pub once : (a b : TaggedBlock) → Has given a → Has given b → a.of ≡ b.of → a.number ≡ b.number → a ≡ b
  pub frames_are : (b : TaggedBlock) → Has frames b → IsFrameOf sent given b

-- ---- what an end hears of the other one, which has this plan and has given these

pub record IsHearingOf (plan : EndPlan) (given : List TaggedBlock) (h : TaggedHearing) : Type 0 where
  pub is_given : Has given h.block
  pub is : h.view ≡ view_of plan h.block

abbrev pub newest_of : List TaggedHearing → Option Header
newest_of [] = None
newest_of (h ∷ before) = Some h.view.header

-- no place is above a newer one
abbrev pub Rise : List TaggedHearing → Type 0
Rise [] = Unit {0}
Rise (h ∷ before) = ((k : TaggedHearing) → Has before k → k.block.place ≤ h.block.place) × Rise before

pub record IsViewIn (heard : List TaggedHearing) (view : BlockView) : Type 0 where
  pub hearing : TaggedHearing
  pub has : Has heard hearing
  pub is : view ≡ hearing.view

pub record IsHearing
    (plan : EndPlan) (given : List TaggedBlock) (receiver : Receiver) (heard : List TaggedHearing)
    (entries : List FlowEntry)
    : Type 0 where
  pub heard_are : (h : TaggedHearing) → Has heard h → IsHearingOf plan given h
  pub last : last_given (met_of receiver entries) ≡ newest_of heard
  pub rise : Rise heard
  pub entered : (view : BlockView) → Has (blocks_in entries) view → IsViewIn heard view

-- ---- the messages of which the receiver's present start may hear or has heard a block

pub data IsLive (sent : List TaggedMessage) (heard : List TaggedHearing) (m : TaggedMessage) : Type 0 where
  present : Has sent m → IsLive sent heard m
  past : (h : TaggedHearing) → Has heard h → h.block.of ≡ m → IsLive sent heard m

-- no two of these have both the same system bytes and parity
abbrev pub AreApart : List TaggedMessage → List TaggedHearing → Type 0
AreApart sent heard =
    (a b : TaggedMessage) → IsLive sent heard a → IsLive sent heard b → a.message.system ≡ b.message.system
    → is_primary a.message ≡ is_primary b.message → a ≡ b

-- ---- what an end receives

-- the message is as it was sent, and the block is its last one
pub record IsMade (heard : List TaggedHearing) (whole : TaggedWhole) : Type 0 where
  pub hearing : TaggedHearing
  pub has : Has heard hearing
  pub block : hearing.block ≡ whole.block
  pub message : whole.message ≡ whole.block.of.message
  pub last : whole.block.number ≡ block_count whole.block.of.message

-- the block was heard last
abbrev pub IsNewest : List TaggedHearing → TaggedBlock → Type 0
IsNewest [] block = ⊥
IsNewest (h ∷ before) block = h.block ≡ block

pub record IsReceiving
    (heard : List TaggedHearing) (received : List TaggedWhole) (whole : Option TaggedWhole)
    : Type 0 where
  pub received_are : (w : TaggedWhole) → Has received w → IsMade heard w
  pub whole_is : (w : TaggedWhole) → whole ≡ Some w → IsMade heard w
  pub newest : (w : TaggedWhole) → whole ≡ Some w → IsNewest heard w.block
  pub later :
      (w : TaggedWhole) → whole ≡ Some w → (r : TaggedWhole) → Has received r → r.block.place < w.block.place

-- ---- what an end answers

-- it went out from the side as a reply to a primary of the other end
pub record IsAsked (side : Side) (primaries : List TaggedMessage) (message : TaggedMessage) : Type 0 where
  pub asker : TaggedMessage
  pub sent : Has primaries asker
  pub primary : is_primary asker.message ≡ true
  pub system : message.message.system ≡ asker.message.system
  pub reply : IsReplyTo (other_side side) asker.message (header_of side 0 message.message 1)

-- a primary that was received has its system bytes
pub record IsReplied (received : List TaggedWhole) (message : TaggedMessage) : Type 0 where
  pub whole : TaggedWhole
  pub has : Has received whole
  pub primary : is_primary whole.block.of.message ≡ true
  pub system : message.message.system ≡ whole.block.of.message.system

-- no reply to it was sent in this start
pub record IsPending (sent : List TaggedMessage) (received : List TaggedWhole) (w : TaggedWhole) : Type 0 where
  pub has : Has received w
  pub none :
      is_primary w.block.of.message ≡ true → (m : TaggedMessage) → Has sent m → is_primary m.message ≡ false
      → m.message.system ≡ w.block.of.message.system → ⊥

-- the block that was heard is of a secondary with the message's system bytes
pub record IsOfSecondary (message : TaggedMessage) (hearing : TaggedHearing) : Type 0 where
  pub secondary : is_primary hearing.block.of.message ≡ false
  pub system : hearing.block.of.message.system ≡ message.message.system

-- where the block is of a primary, what the other end has heard of replies to it was sent in this start
abbrev pub IsFree : List TaggedMessage → List TaggedHearing → TaggedBlock → Type 0
IsFree sent heard block =
    is_primary block.of.message ≡ true → (h : TaggedHearing) → Has heard h → IsOfSecondary block.of h
    → Has sent h.block.of

-- the end answers the other one, which has sent the primaries, heard this and written these frames
pub record IsAnswering
    (side : Side) (sent ever : List TaggedMessage) (received : List TaggedWhole) (whole asked : Option TaggedWhole)
    (primaries : List TaggedMessage) (heard : List TaggedHearing) (frames : List TaggedBlock)
    : Type 0 where
  pub secondaries : (m : TaggedMessage) → Has ever m → is_primary m.message ≡ false → IsAsked side primaries m
  pub replied : (m : TaggedMessage) → Has sent m → is_primary m.message ≡ false → IsReplied received m
  pub pending : (w : TaggedWhole) → asked ≡ Some w → IsPending sent received w
  pub free_asked : (w : TaggedWhole) → asked ≡ Some w → IsFree sent heard w.block
  pub free_whole : (w : TaggedWhole) → whole ≡ Some w → IsFree sent heard w.block
  pub free_frames : (b : TaggedBlock) → Has frames b → IsFree sent heard b
  pub after :
      (u : TaggedMessage) → Has primaries u → is_primary u.message ≡ true → (h : TaggedHearing) → Has heard h
      → IsOfSecondary u h → u.place < h.after

-- ---- one direction, and both

-- what goes from one end to the other
pub data WayFact : Type 0 where
  Hearing : WayFact
  Apart : WayFact
  Receiving : WayFact
  Answering : WayFact

abbrev pub HoldsOnWay : WayFact → TaggedEnd → TaggedEnd → Type 0
HoldsOnWay Hearing x y = IsHearing x.plan x.given (receiver_of y.plan) y.heard y.entries
HoldsOnWay Apart x y = AreApart x.sent y.heard
HoldsOnWay Receiving x y = IsReceiving y.heard y.received y.whole
HoldsOnWay Answering x y =
    IsAnswering x.plan.side x.sent x.ever x.received x.whole x.asked y.ever y.heard y.frames

pub data Fact : Type 0 where
  Sides : Fact
  HereSends : Fact
  ThereSends : Fact
  Out : (fact : WayFact) → Fact
  Back : (fact : WayFact) → Fact

abbrev pub HoldsOf : Fact → TaggedEnd → TaggedEnd → Type 0
HoldsOf Sides x y = x.plan.side ≡ other_side y.plan.side
HoldsOf HereSends x y = IsSending x.sent x.ever x.given x.frames
HoldsOf ThereSends x y = IsSending y.sent y.ever y.given y.frames
HoldsOf (Out fact) x y = HoldsOnWay fact x y
HoldsOf (Back fact) x y = HoldsOnWay fact y x

-- each of them by itself, so that what a doing leaves as it was is passed on in one line
abbrev pub IsSound : TaggedEnd → TaggedEnd → Type 0
IsSound x y = (fact : Fact) → HoldsOf fact x y

other-twice : (side : Side) → other_side (other_side side) ≡ side
other-twice Equipment = refl
other-twice Host = refl

pub turned : (x y : TaggedEnd) → IsSound x y → IsSound y x
turned x y is Sides = sym (other-twice y.plan.side) ∙ ap other_side (sym (is Sides))
turned x y is HereSends = is ThereSends
turned x y is ThereSends = is HereSends
turned x y is (Out fact) = is (Back fact)
turned x y is (Back fact) = is (Out fact)

-- ---- what follows for a message that an end is about to receive

-- the other end sent it, its last block is the newest heard, and of those received in this start none has its system
-- bytes and parity, and none ended with a later block
pub record IsDelivered (here there : TaggedEnd) (w : TaggedWhole) : Type 0 where
  pub message : w.message ≡ w.block.of.message
  pub sent : Has there.ever w.block.of
  pub given : Has there.given w.block
  pub last : w.block.number ≡ block_count w.block.of.message
  pub newest : IsNewest here.heard w.block
  pub once :
      (r : TaggedWhole) → Has here.received r → is_primary r.message ≡ is_primary w.message
      → r.message.system ≡ w.message.system → ⊥
  pub order : (r : TaggedWhole) → Has here.received r → r.block.place < w.block.place
