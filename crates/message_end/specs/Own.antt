-- What an end has done and heard since its start, and the law that it keeps. The newest comes first.
use Rattle.std.specs.Prelude.{◌≡◌, ◌≢◌, ◌⊎◌, ◌<◌, ◌≤◌, ◌==◌, ◌+◌, ℕ, Bool, true, false, List, [], ◌∷◌, length, Option, Some, None, if◌then◌else◌}
use Rattle.block_codec.specs.Block.{BlockView}
use Rattle.block_codec.specs.declared.header.Header.{Header}
use Rattle.gl_base.specs.declared.side.Side.{Side}
use Rattle.gl_base.specs.Side.{other_side}
use Rattle.message_flow.specs.declared.flow.Flow.{Flow}
use Rattle.message_flow.specs.declared.flow.Flow.TheVariants.{Part, Whole, Duplicate, Foreign, Unexpected, TooLong, Crowded}
use Rattle.message_flow.specs.declared.message.Message.{Message}
use Rattle.message_flow.specs.Blocks.{block_count, header_of}
use Rattle.message_flow.specs.Deadlines.{dropped_after}
use Rattle.message_flow.specs.Entries.{FlowEntry}
use Rattle.message_flow.specs.Entries.FlowEntry.{Dropped, Given}
use Rattle.message_flow.specs.History.{met_of}
use Rattle.message_flow.specs.Message.{is_primary}
use Rattle.message_flow.specs.Receiver.{Receiver}
use Rattle.transact.specs.Matching.{matches}

-- a message is named by its place among those that the end has sent since its start, from 0; a block by its message's
-- place and its number, from 1
pub data Own : Type 0 where
  DrewNumber : (number : ℕ) → Own
  SentMessage : (message : Message) → Own
  GaveBlock : (place number : ℕ) → Own
  WroteFrame : (place number : ℕ) → Own
  HeardBlock : (block : BlockView) (now : ℕ) (flow : Flow) → Own
  DroppedMessage : (header : Header) (now : ℕ) → Own
  ReceivedMessage : (message : Message) → Own

-- a member of a list
abbrev pub Has : {X : Type 0} → List X → X → Type 0
Has [] x = ⊥
Has (y ∷ ys) x = (x ≡ y) ⊎ Has ys x

-- ---- what is read off it

-- the numbers drawn
abbrev pub drawn_in : List Own → List ℕ
drawn_in [] = []
drawn_in (DrewNumber number ∷ before) = number ∷ drawn_in before
drawn_in (_ ∷ before) = drawn_in before

-- the messages sent
abbrev pub sent_in : List Own → List Message
sent_in [] = []
sent_in (SentMessage message ∷ before) = message ∷ sent_in before
sent_in (_ ∷ before) = sent_in before

-- the message at a place
abbrev pub sent_at : ℕ → List Message → Option Message
sent_at place [] = None
sent_at place (message ∷ before) = if place == length before then Some message else sent_at place before

-- a block that was given to the line
pub record Giving : Type 0 where
  pub place : ℕ
  pub number : ℕ

abbrev pub given_in : List Own → List Giving
given_in [] = []
given_in (GaveBlock place number ∷ before) = record { place = place; number = number } ∷ given_in before
given_in (_ ∷ before) = given_in before

-- how many blocks of the message at a place are among these
abbrev pub given_of : ℕ → List Giving → ℕ
given_of place [] = 0
given_of place (giving ∷ before) = if place == giving.place then given_of place before + 1 else given_of place before

-- the header of a block that was heard, and how many messages had been sent before
pub record Heard : Type 0 where
  pub header : Header
  pub after : ℕ

abbrev pub heard_in : List Own → List Heard
heard_in [] = []
heard_in (HeardBlock block now flow ∷ before) =
    record { header = block.header; after = length (sent_in before) } ∷ heard_in before
heard_in (_ ∷ before) = heard_in before

-- what the receiver has met
abbrev pub entries_in : List Own → List FlowEntry
entries_in [] = []
entries_in (HeardBlock block now flow ∷ before) = Given block now ∷ entries_in before
entries_in (DroppedMessage header now ∷ before) = Dropped header now ∷ entries_in before
entries_in (_ ∷ before) = entries_in before

-- the message that the newest block made whole, where it isn't received yet
abbrev pub whole_of : Flow → Option Message
whole_of (Whole message check) = Some message
whole_of Part = None
whole_of Duplicate = None
whole_of (Foreign address) = None
whole_of Unexpected = None
whole_of TooLong = None
whole_of Crowded = None

abbrev pub whole_in : List Own → Option Message
whole_in [] = None
whole_in (HeardBlock block now flow ∷ before) = whole_of flow
whole_in (ReceivedMessage message ∷ before) = None
whole_in (_ ∷ before) = whole_in before

-- the messages received
abbrev pub received_in : List Own → List Message
received_in [] = []
received_in (ReceivedMessage message ∷ before) = message ∷ received_in before
received_in (_ ∷ before) = received_in before

-- the newest message received, where no reply has been sent since
abbrev pub asked_after : Bool → Option Message → Option Message
asked_after true asked = asked
asked_after false asked = None

abbrev pub asked_in : List Own → Option Message
asked_in [] = None
asked_in (SentMessage message ∷ before) = asked_after (is_primary message) (asked_in before)
asked_in (ReceivedMessage message ∷ before) = Some message
asked_in (_ ∷ before) = asked_in before

-- ---- the law

-- the header is of a block of a reply to a message that has gone out from this side (SEMI E5, transaction)
abbrev pub IsReplyTo : Side → Message → Header → Type 0
IsReplyTo side message header = matches (header_of side 0 message 1) header ≡ true

-- numbers are fresh: a number is drawn above all before it, and none below the first of the start (SEMI E5, system
-- bytes)
pub record MayDraw (base : ℕ) (own : List Own) (number : ℕ) : Type 0 where
  pub least : base ≤ number
  pub above : (drawn : ℕ) → Has (drawn_in own) drawn → drawn < number

-- a primary is sent with a number drawn, and no other one with it
pub record MaySendPrimary (own : List Own) (message : Message) : Type 0 where
  pub drawn : Has (drawn_in own) message.system
  pub new : (sent : Message) → Has (sent_in own) sent → is_primary sent ≡ true → sent.system ≢ message.system

-- a reply is sent to the newest message received, a primary with W, and one reply alone (SEMI E5, transaction)
pub record MaySendReply (side : Side) (own : List Own) (message : Message) : Type 0 where
  pub asked : Message
  pub newest : asked_in own ≡ Some asked
  pub primary : is_primary asked ≡ true
  pub wait : asked.wait ≡ true
  pub reply : IsReplyTo (other_side side) asked (header_of side 0 message 1)

pub record MaySend (side : Side) (own : List Own) (message : Message) : Type 0 where
  pub primary : is_primary message ≡ true → MaySendPrimary own message
  pub reply : is_primary message ≡ false → MaySendReply side own message

-- a block goes to the line that is of a message sent, the next one of it, and each block once (SEMI E4, multi-block
-- message)
pub record MayGive (own : List Own) (place number : ℕ) : Type 0 where
  pub message : Message
  pub sent : sent_at place (sent_in own) ≡ Some message
  pub next : number ≡ given_of place (given_in own) + 1
  pub last : number ≤ block_count message
  pub once : Has (given_in own) (record { place = place; number = number }) → ⊥

-- silence after a reply's first block: no block of a reply to the message at a place was heard since it was sent (this
-- profile)
abbrev pub IsUnanswered : Side → List Own → ℕ → Type 0
IsUnanswered side own place =
    (message : Message) → sent_at place (sent_in own) ≡ Some message → is_primary message ≡ true
    → (heard : Heard) → Has (heard_in own) heard → IsReplyTo side message heard.header → heard.after ≤ place

-- what an end does by itself agrees with all that it did before: it receives the message that the newest block made
-- whole, and drops the one on which T4 has run out (SEMI E4, receive and T4). All else comes of calls of its line
abbrev pub MayDo : Receiver → ℕ → List Own → Own → Type 0
MayDo receiver base own (DrewNumber number) = MayDraw base own number
MayDo receiver base own (SentMessage message) = MaySend receiver.side own message
MayDo receiver base own (DroppedMessage header now) =
    dropped_after receiver (met_of receiver (entries_in own)) now ≡ Some header
MayDo receiver base own (ReceivedMessage message) = whole_in own ≡ Some message
MayDo receiver base own _ = ⊥
