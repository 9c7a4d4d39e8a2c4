-- What holds of all messages, and of all that a receiver has met.
use Rattle.std.specs.Prelude.{◌≡◌, ◌≢◌, ◌<◌, ◌≤◌, ◌↔◌, ◌⊎◌, ℕ, Bool, true, false, ◌+◌, All, List, [], ◌∷◌, length, map, min, reverse, slice_get, Option, Some, None}
use Rattle.std.specs.List.{find, flat_map, reduce}
use Rattle.block_codec.specs.Block.{BlockView, IsBlock}
use Rattle.block_codec.specs.Protocol.{longest_body}
use Rattle.block_codec.specs.declared.header.Header.{Header}
use Rattle.gl_base.specs.declared.side.Side.{Side}
use Rattle.message_flow.specs.declared.flow.Flow.TheVariants.{Duplicate, Whole}
use Rattle.message_flow.specs.declared.message.Message.{Message}
use Rattle.message_flow.specs.declared.partial.Partial.{Partial}
use Rattle.message_flow.specs.Arrivals.{AreBlocksOf, CanBegin, HaveCome, IsBlockOf, first_blocks, is_given_since, part_or_whole}
use Rattle.message_flow.specs.Assembly.{AssemblyView, body_so_far, check_so_far, flow_to, has_key, header_so_far, is_due, with_block, without_due}
use Rattle.message_flow.specs.Blocks.{block_count, blocks_of, header_of, numbered_block}
use Rattle.message_flow.specs.Deadlines.{IsDeadlineAfter, IsDeadlineAt, deadline_of, dropped_after, dropped_at}
use Rattle.message_flow.specs.Entries.{FlowEntry, StandsFor, blocks_in, kept_after}
use Rattle.message_flow.specs.Entries.FlowEntry.{Dropped, Given}
use Rattle.message_flow.specs.History.{flow_after, flow_at, last_given, met_of, newest_header, open_blocks, open_firsts, text_check, text_of}
use Rattle.message_flow.specs.Key.{is_given, same_key}
use Rattle.message_flow.specs.Message.{IsMessage}
use Rattle.message_flow.specs.Receiver.{IsReceiver, Receiver}
use Rattle.secs_items.specs.Checking.{Checking, check_of}

-- the blocks of a message are numbered from 1 in their order (SEMI E4, block number)
pub record BlocksAreNumbered : Type 0 where
  pub count :
      (side : Side) (device : ℕ) (message : Message)
      → length (blocks_of side device message) ≡ block_count message
  pub each :
      (side : Side) (device : ℕ) (message : Message) (place : ℕ) → place < block_count message
      → slice_get (blocks_of side device message) place ≡ Some (numbered_block side device message (place + 1))

-- the blocks of a message carry its text: joined in order it is the message's, each block has 244 bytes of it but the
-- last one, which has at most so many, and at least one unless the text is empty; the last block alone has the E bit
-- (SEMI E4, multi-block message)
pub record CarriesText (side : Side) (device : ℕ) (message : Message) : Type 0 where
  pub joined : flat_map (λ block. block.body) (blocks_of side device message) ≡ message.body
  pub full :
      (number : ℕ) → 1 ≤ number → number < block_count message
      → length (numbered_block side device message number).body ≡ longest_body
  pub last_at_most : length (numbered_block side device message (block_count message)).body ≤ longest_body
  pub last_at_least : message.body ≢ [] → 1 ≤ length (numbered_block side device message (block_count message)).body
  pub last :
      (number : ℕ)
      → ((numbered_block side device message number).header.last ≡ true) ↔ (number ≡ block_count message)

abbrev pub BlocksCarryText : Type 0
BlocksCarryText = (side : Side) (device : ℕ) (message : Message) → CarriesText side device message

-- the moment at which T4 runs out on a kept message
abbrev pub deadline_so_far : Option Partial → Option ℕ
deadline_so_far None = None
deadline_so_far (Some partial) = Some partial.deadline

-- message by message, in the order in which they were opened, the kept one has the key of the first block
abbrev pub AreFirsts : List Partial → List Header → Type 0
AreFirsts [] [] = Unit {0}
AreFirsts [] (header ∷ headers) = ⊥
AreFirsts (partial ∷ partials) [] = ⊥
AreFirsts (partial ∷ partials) (header ∷ headers) = (same_key partial.header header ≡ true) × AreFirsts partials headers

-- what is kept of the entries is what is looked back for: the header that was given last; of each key the header and
-- the text of its open blocks, the check of that text, and the moment at which T4 runs out on it; the messages in the
-- order of the first blocks of open ones; the deadline of them all; and at each moment the message that is dropped then
-- (SEMI E4, receive and T4)
pub record IsLookedBackFor (receiver : Receiver) (entries : List FlowEntry) : Type 0 where
  pub last : (kept_after receiver entries).last ≡ last_given (met_of receiver (reverse entries))
  pub headers :
      (header : Header)
      → header_so_far (find (has_key header) (kept_after receiver entries).partials)
      ≡ newest_header (open_blocks header (met_of receiver (reverse entries)))
  pub texts :
      (header : Header)
      → body_so_far (find (has_key header) (kept_after receiver entries).partials)
      ≡ text_of (open_blocks header (met_of receiver (reverse entries)))
  pub checks :
      (header : Header)
      → check_so_far (find (has_key header) (kept_after receiver entries).partials)
      ≡ text_check (open_blocks header (met_of receiver (reverse entries)))
  pub deadlines :
      (header : Header)
      → deadline_so_far (find (has_key header) (kept_after receiver entries).partials)
      ≡ deadline_of receiver header (met_of receiver (reverse entries))
  pub order : AreFirsts (kept_after receiver entries).partials (open_firsts (met_of receiver (reverse entries)))
  pub count : length (kept_after receiver entries).partials ≡ length (open_firsts (met_of receiver (reverse entries)))
  pub deadline :
      IsDeadlineAt receiver entries
      (reduce min (map (λ partial. partial.deadline) (kept_after receiver entries).partials))
  pub due :
      (now : ℕ)
      → header_so_far (find (is_due now) (kept_after receiver entries).partials) ≡ dropped_at receiver entries now

abbrev pub KeptIsLookedBackFor : Type 0
KeptIsLookedBackFor = (receiver : Receiver) (entries : List FlowEntry) → IsLookedBackFor receiver entries

-- a message whose blocks are given in order to a receiver where it can begin, each with immediate repeats, and with
-- nothing between but entries of other keys: each block is a part when it is first given, and the last one the whole
-- message; each immediate repeat is a duplicate (SEMI E4, receive)
pub record ComesWhole (receiver : Receiver) (side : Side) (device : ℕ) (message : Message) : Type 0 where
  pub first :
      (before : List FlowEntry) → CanBegin receiver side device message before
      → flow_at receiver (reverse before) (numbered_block side device message 1) ≡ part_or_whole message 1
  pub next :
      (before : List FlowEntry) (number : ℕ) (just : Bool) → HaveCome receiver side device message before number just
      → number < block_count message
      → flow_at receiver (reverse before) (numbered_block side device message (number + 1))
      ≡ part_or_whole message (number + 1)
  pub again :
      (before : List FlowEntry) (number : ℕ) → HaveCome receiver side device message before number true
      → flow_at receiver (reverse before) (numbered_block side device message number) ≡ Duplicate

abbrev pub MessagesComeWhole : Type 0
MessagesComeWhole =
    (receiver : Receiver) (side : Side) (device : ℕ) (message : Message) → ComesWhole receiver side device message

-- the open blocks of a key are numbered from 1 in their order, and the block that makes a message whole has the
-- number behind theirs; or it is the only one, with number 0 (SEMI E4, block number). Entries and blocks have the
-- newest first
abbrev pub AreNumbered : List BlockView → Type 0
AreNumbered [] = Unit {0}
AreNumbered (block ∷ before) = (block.header.number ≡ length before + 1) × AreNumbered before

abbrev pub IsNextNumber : List BlockView → BlockView → Type 0
IsNextNumber before block = (block.header.number ≡ length before + 1) ⊎ ((block.header.number ≡ 0) × (before ≡ []))

pub record WholeIsNumbered : Type 0 where
  pub parts :
      (receiver : Receiver) (before : List FlowEntry) (header : Header)
      → AreNumbered (open_blocks header (met_of receiver before))
  pub whole :
      (receiver : Receiver) (before : List FlowEntry) (block : BlockView) (whole : Message) (check : Checking)
      → flow_at receiver (reverse before) block ≡ Whole whole check
      → IsNextNumber (open_blocks block.header (met_of receiver before)) block

-- a block is the last of a whole message only where each number up to its own was given since number 1 of its key
-- was; so, as long as a block of a message is left out, none of its blocks makes it whole (SEMI E4, receive). Entries
-- have the newest first
pub record LeftOutIsMissed : Type 0 where
  pub each_given :
      (receiver : Receiver) (before : List FlowEntry) (block : BlockView) (now : ℕ) (whole : Message) (check : Checking)
      → flow_at receiver (reverse before) block ≡ Whole whole check
      → (number : ℕ) → 1 ≤ number → number ≤ block.header.number
      → is_given_since block.header number (Given block now ∷ before) ≡ true
  pub left_out :
      (receiver : Receiver) (before : List FlowEntry) (side : Side) (device : ℕ) (message : Message)
      (number missed now : ℕ)
      → 1 ≤ missed → missed ≤ block_count message
      → is_given_since (header_of side device message 1) missed
      (Given (numbered_block side device message number) now ∷ before)
      ≡ false
      → (whole : Message) (check : Checking)
      → flow_at receiver (reverse before) (numbered_block side device message number) ≢ Whole whole check

-- what an assembly stands for goes on with each call, and its answers are what is looked back for. Entries have the
-- newest first here, so that a list of them grows in front
pub record GoesOn (assembly : AssemblyView) (entries : List FlowEntry) : Type 0 where
  pub flow :
      (block : BlockView)
      → flow_to assembly block ≡ flow_after assembly.receiver (met_of assembly.receiver entries) block
  pub given :
      (block : BlockView) (now : ℕ)
      → StandsFor (with_block assembly block now) (reverse (Given block now ∷ entries))
  pub checked :
      (header : Header)
      → check_so_far (find (has_key header) assembly.partials)
      ≡ text_check (open_blocks header (met_of assembly.receiver entries))
  pub due :
      (now : ℕ)
      → header_so_far (find (is_due now) assembly.partials)
      ≡ dropped_after assembly.receiver (met_of assembly.receiver entries) now
  pub dropped :
      (now : ℕ) (header : Header) → dropped_after assembly.receiver (met_of assembly.receiver entries) now ≡ Some header
      → StandsFor (without_due now assembly) (reverse (Dropped header now ∷ entries))
  pub deadline :
      IsDeadlineAfter assembly.receiver (met_of assembly.receiver entries)
      (reduce min (map (λ partial. partial.deadline) assembly.partials))

abbrev pub StandingGoesOn : Type 0
StandingGoesOn =
    (assembly : AssemblyView) (entries : List FlowEntry) → StandsFor assembly (reverse entries)
    → GoesOn assembly entries

-- a message that is whole has a stream, a function, system bytes and bytes of text as blocks have them, and no more
-- text than the receiver takes; so it can be sent again (SEMI E4, header; the limit is this profile's)
abbrev pub WholeMessagesFit : Type 0
WholeMessagesFit =
    (receiver : Receiver) (entries : List FlowEntry) (block : BlockView) (whole : Message) (check : Checking)
    → IsReceiver receiver → All IsBlock (blocks_in entries) → IsBlock block
    → flow_after receiver (met_of receiver entries) block ≡ Whole whole check
    → IsMessage whole × (length whole.body ≤ receiver.max_body)

-- the blocks of a message are blocks (SEMI E4, block)
abbrev pub MessagesGoInBlocks : Type 0
MessagesGoInBlocks =
    (side : Side) (device : ℕ) (message : Message) (number : ℕ) → device < 32768 → IsMessage message → 1 ≤ number
    → number ≤ block_count message → IsBlock (numbered_block side device message number)

-- where all blocks of a key that were given are of one message, the open ones are its first ones in order; and a
-- block of it with which a message is whole is its last one, gives the message as it was sent and the check of its
-- text, and isn't the block that was given last (SEMI E4, receive)
pub record MakesMessage
    (receiver : Receiver) (entries : List FlowEntry) (side : Side) (device : ℕ) (message : Message)
    : Type 0 where
  pub open_are :
      (header : Header) → AreBlocksOf side device message header entries
      → let blocks = open_blocks header (met_of receiver entries) in
      blocks ≡ first_blocks side device message (length blocks)
  pub whole_is :
      (block : BlockView) (whole : Message) (check : Checking) → IsBlockOf side device message block
      → AreBlocksOf side device message block.header entries
      → flow_after receiver (met_of receiver entries) block ≡ Whole whole check
      → (whole ≡ message) × (block ≡ numbered_block side device message (block_count message))
      × (is_given (last_given (met_of receiver entries)) block.header ≡ false)
      × (check ≡ check_of message.body)

abbrev pub BlocksMakeMessages : Type 0
BlocksMakeMessages =
    (receiver : Receiver) (entries : List FlowEntry) (side : Side) (device : ℕ) (message : Message)
    → MakesMessage receiver entries side device message
