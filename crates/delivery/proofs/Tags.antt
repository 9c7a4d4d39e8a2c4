-- The two ends as the proof sees them: each message and each block has its place, counted from 0 over all starts of its
-- end. Lists have the newest first.
use Rattle.std.specs.Prelude.{◌≡◌, ◌≢◌, ◌≤◌, ℕ, true, false, List, [], ◌∷◌, length, Option, Some, None, if◌then◌else◌}
use Rattle.block_codec.specs.Block.{BlockView}
use Rattle.block_codec.specs.declared.header.Header.{Header}
use Rattle.gl_base.specs.declared.side.Side.{Side}
use Rattle.gl_base.specs.Side.{other_side}
use Rattle.message_end.specs.Own.{Has, IsReplyTo, whole_of}
use Rattle.message_end.specs.Plan.{EndPlan, block_of, receiver_of}
use Rattle.message_flow.specs.declared.flow.Flow.{Flow}
use Rattle.message_flow.specs.declared.message.Message.{Message}
use Rattle.message_flow.specs.Blocks.{block_count, header_of}
use Rattle.message_flow.specs.Entries.{FlowEntry}
use Rattle.message_flow.specs.Entries.FlowEntry.{Dropped, Given}
use Rattle.message_flow.specs.History.{flow_after, met_of}
use Rattle.message_flow.specs.Message.{is_primary}

-- a message that an end has sent
pub record TaggedMessage : Type 0 where
  pub place : ℕ
  pub message : Message

-- a block that an end has given to its line, the message that it is of, and its number there
pub record TaggedBlock : Type 0 where
  pub place : ℕ
  pub of : TaggedMessage
  pub number : ℕ

-- a block that an end has heard, what it says, and how many messages the end had sent before
pub record TaggedHearing : Type 0 where
  pub block : TaggedBlock
  pub view : BlockView
  pub after : ℕ

-- a message that became whole, and the block with which it did
pub record TaggedWhole : Type 0 where
  pub message : Message
  pub block : TaggedBlock

abbrev pub view_of : EndPlan → TaggedBlock → BlockView
view_of plan block = block_of plan block.of.message block.number

-- of the end's present start: the messages sent, the blocks heard, what the receiver has met, the messages received,
-- the whole one that isn't received yet, and the newest received where no reply has been sent since. Over all its
-- starts: the messages sent and the blocks given. Since the last power loss of either end: the blocks whose frames it
-- has written
pub record TaggedEnd : Type 0 where
  pub plan : EndPlan
  pub sent : List TaggedMessage
  pub heard : List TaggedHearing
  pub entries : List FlowEntry
  pub received : List TaggedWhole
  pub whole : Option TaggedWhole
  pub asked : Option TaggedWhole
  pub ever : List TaggedMessage
  pub given : List TaggedBlock
  pub frames : List TaggedBlock

pub data TaggedDoing : Type 0 where
  SentOne : (message : TaggedMessage) → TaggedDoing
  ReceivedOne : (whole : TaggedWhole) → TaggedDoing
  GaveOne : (block : TaggedBlock) → TaggedDoing
  WroteOne : (block : TaggedBlock) → TaggedDoing
  HeardOne : (block : TaggedBlock) (view : BlockView) (now : ℕ) (flow : Flow) → TaggedDoing
  DroppedOne : (header : Header) (now : ℕ) → TaggedDoing

-- ---- what a doing leaves

abbrev pub with_block : TaggedBlock → Option Message → Option TaggedWhole
with_block block None = None
with_block block (Some message) = Some (record { message = message; block = block })

abbrev pub done : TaggedDoing → TaggedEnd → TaggedEnd
done (SentOne message) x = record x {
  sent = message ∷ x.sent;
  asked = if is_primary message.message then x.asked else None;
  ever = message ∷ x.ever;
}
done (ReceivedOne whole) x = record x { received = whole ∷ x.received; whole = None; asked = Some whole }
done (GaveOne block) x = record x { given = block ∷ x.given }
done (WroteOne block) x = record x { frames = block ∷ x.frames }
done (HeardOne block view now flow) x = record x {
  heard = record { block = block; view = view; after = length x.ever } ∷ x.heard;
  entries = Given view now ∷ x.entries;
  whole = with_block block (whole_of flow);
}
done (DroppedOne header now) x = record x { entries = Dropped header now ∷ x.entries }

-- the end has lost its power, and starts anew
abbrev pub restarted : TaggedEnd → TaggedEnd
restarted x = record x {
  sent = [];
  heard = [];
  entries = [];
  received = [];
  whole = None;
  asked = None;
  frames = [];
}

-- the other end has
abbrev pub emptied : TaggedEnd → TaggedEnd
emptied x = record x { frames = [] }

-- an end that has never done anything
abbrev pub new_end : EndPlan → TaggedEnd
new_end plan = record {
  plan = plan;
  sent = [];
  heard = [];
  entries = [];
  received = [];
  whole = None;
  asked = None;
  ever = [];
  given = [];
  frames = [];
}

-- ---- what may be done

-- a message that goes out from the side is a reply to the newest that was received
pub record AnswersAsked (side : Side) (asked : Option TaggedWhole) (message : TaggedMessage) : Type 0 where
  pub whole : TaggedWhole
  pub is : asked ≡ Some whole
  pub primary : is_primary whole.message ≡ true
  pub reply : IsReplyTo (other_side side) whole.message (header_of side 0 message.message 1)

pub record MaySendOne
    (side : Side) (ever : List TaggedMessage) (asked : Option TaggedWhole) (message : TaggedMessage)
    : Type 0 where
  pub place : message.place ≡ length ever
  pub new :
      is_primary message.message ≡ true → (m : TaggedMessage) → Has ever m → is_primary m.message ≡ true
      → m.message.system ≢ message.message.system
  pub reply : is_primary message.message ≡ false → AnswersAsked side asked message

pub record MayGiveOne (sent : List TaggedMessage) (given : List TaggedBlock) (block : TaggedBlock) : Type 0 where
  pub place : block.place ≡ length given
  pub of_sent : Has sent block.of
  pub first : 1 ≤ block.number
  pub last : block.number ≤ block_count block.of.message
  pub once : (b : TaggedBlock) → Has given b → b.of ≡ block.of → b.number ≡ block.number → ⊥

pub record MayWriteOne
    (side : Side) (sent : List TaggedMessage) (given : List TaggedBlock) (heard : List TaggedHearing)
    (block : TaggedBlock)
    : Type 0 where
  pub is_given : Has given block
  pub of_sent : Has sent block.of
  pub unanswered :
      is_primary block.of.message ≡ true → (h : TaggedHearing) → Has heard h
      → IsReplyTo side block.of.message h.view.header → h.after ≤ block.of.place

-- a block arrives whose frame the other end has written since the last loss, unchanged, and no block that was given
-- after it has arrived before
pub record Arrives
    (plan : EndPlan) (frames : List TaggedBlock) (heard : List TaggedHearing) (block : TaggedBlock) (view : BlockView)
    : Type 0 where
  pub written : Has frames block
  pub is : view ≡ view_of plan block
  pub order : (h : TaggedHearing) → Has heard h → h.block.place ≤ block.place

-- it is done by the end here, with the other one there
abbrev pub MayDoOne : TaggedEnd → TaggedEnd → TaggedDoing → Type 0
MayDoOne here there (SentOne message) = MaySendOne here.plan.side here.ever here.asked message
MayDoOne here there (ReceivedOne whole) = here.whole ≡ Some whole
MayDoOne here there (GaveOne block) = MayGiveOne here.sent here.given block
MayDoOne here there (WroteOne block) = MayWriteOne here.plan.side here.sent here.given here.heard block
MayDoOne here there (HeardOne block view now flow) =
    Arrives there.plan there.frames here.heard block view
    × (flow ≡ flow_after (receiver_of here.plan) (met_of (receiver_of here.plan) here.entries) view)
MayDoOne here there (DroppedOne header now) = Unit {0}
