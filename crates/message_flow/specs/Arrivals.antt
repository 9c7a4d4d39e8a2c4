-- How the blocks of one message come to a receiver. Entries have the newest first here.
use Rattle.std.specs.Prelude.{◌≡◌, ◌<◌, ◌≤◌, ◌⊎◌, ℕ, zero, suc, Bool, true, false, ◌+◌, ◌==◌, ◌&&◌, ◌||◌, not, List, [], ◌∷◌, All, length, if◌then◌else◌}
use Rattle.block_codec.specs.Block.{BlockView}
use Rattle.block_codec.specs.declared.header.Header.{Header}
use Rattle.gl_base.specs.declared.side.Side.{Side}
use Rattle.message_flow.specs.declared.flow.Flow.{Flow}
use Rattle.message_flow.specs.declared.flow.Flow.TheVariants.{Part}
use Rattle.message_flow.specs.declared.message.Message.{Message}
use Rattle.message_flow.specs.Assembly.{whole_with}
use Rattle.message_flow.specs.Blocks.{block_count, header_of, numbered_block}
use Rattle.message_flow.specs.Entries.{FlowEntry, blocks_in}
use Rattle.message_flow.specs.Entries.FlowEntry.{Dropped, Given}
use Rattle.message_flow.specs.History.{last_given, met_of, open_blocks, open_firsts}
use Rattle.message_flow.specs.Key.{is_given, same_key}
use Rattle.message_flow.specs.Receiver.{Receiver, is_foreign}

-- a message can begin: no block of its key is open, the block that was given last isn't its first one, fewer than 16
-- messages are open or it has one block only, the receiver takes so much text, and R and device are the receiver's
pub record CanBegin
    (receiver : Receiver) (side : Side) (device : ℕ) (message : Message) (before : List FlowEntry)
    : Type 0 where
  pub none_open : open_blocks (header_of side device message 1) (met_of receiver before) ≡ []
  pub not_given : is_given (last_given (met_of receiver before)) (header_of side device message 1) ≡ false
  pub room : (length (open_firsts (met_of receiver before)) < 16) ⊎ (block_count message ≡ 1)
  pub fits : length message.body ≤ receiver.max_body
  pub own : is_foreign receiver (header_of side device message 1) ≡ false

-- an entry of another key than a header's
abbrev pub IsOfOther : Header → FlowEntry → Type 0
IsOfOther header (Given block now) = same_key block.header header ≡ false
IsOfOther header (Dropped dropped now) = same_key dropped header ≡ false

-- the blocks of a message have come up to this number: in order, each with any number of immediate repeats, and with
-- entries of other keys between. `just` is true where the newest entry is the block of that number
pub data HaveCome
    (receiver : Receiver) (side : Side) (device : ℕ) (message : Message)
    : List FlowEntry → ℕ → Bool → Type 0 where
  start : (before : List FlowEntry) (now : ℕ) → CanBegin receiver side device message before
      → HaveCome receiver side device message (Given (numbered_block side device message 1) now ∷ before) 1 true
  next : (before : List FlowEntry) (number : ℕ) (just : Bool) (now : ℕ)
      → HaveCome receiver side device message before number just → number < block_count message
      → HaveCome receiver side device message
      (Given (numbered_block side device message (number + 1)) now ∷ before) (number + 1) true
  again : (before : List FlowEntry) (number : ℕ) (now : ℕ) → HaveCome receiver side device message before number true
      → HaveCome receiver side device message
      (Given (numbered_block side device message number) now ∷ before) number true
  between : (before : List FlowEntry) (number : ℕ) (just : Bool) (entry : FlowEntry)
      → HaveCome receiver side device message before number just → IsOfOther (header_of side device message 1) entry
      → HaveCome receiver side device message (entry ∷ before) number false

-- what the block of this number is where those before it have come
abbrev pub part_or_whole : Message → ℕ → Flow
part_or_whole message number = if number == block_count message then whole_with message else Part

-- a block of a header's key with this number stands among those of its key that were given since number 1 of the key
-- was given last, that one too
abbrev pub is_given_since : Header → ℕ → List FlowEntry → Bool
is_given_since header number [] = false
is_given_since header number (Given block now ∷ before) =
    if same_key block.header header
    then (block.header.number == number) || (not (block.header.number == 1) && is_given_since header number before)
    else is_given_since header number before
is_given_since header number (Dropped dropped now ∷ before) = is_given_since header number before

-- a block is one of this message
pub record IsBlockOf (side : Side) (device : ℕ) (message : Message) (block : BlockView) : Type 0 where
  pub number : ℕ
  pub first : 1 ≤ number
  pub last : number ≤ block_count message
  pub is : block ≡ numbered_block side device message number

-- all blocks with a header's key that were given are of this message
abbrev pub AreBlocksOf : Side → ℕ → Message → Header → List FlowEntry → Type 0
AreBlocksOf side device message header entries =
    All (λ block. same_key block.header header ≡ true → IsBlockOf side device message block) (blocks_in entries)

-- the first blocks of a message up to this number, the newest first
abbrev pub first_blocks : Side → ℕ → Message → ℕ → List BlockView
first_blocks side device message zero = []
first_blocks side device message (suc number) =
    numbered_block side device message (number + 1) ∷ first_blocks side device message number
