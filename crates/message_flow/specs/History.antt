-- What an arrived block is, looked back for in all that the receiver has met.
use Rattle.std.specs.Prelude.{ℕ, Bool, true, false, ◌&&◌, not, reverse, List, [], ◌∷◌, ◌++◌, length, filter, Option, Some, None, if◌then◌else◌}
use Rattle.std.specs.List.{before_first, filter_map}
use Rattle.block_codec.specs.Block.{BlockView}
use Rattle.block_codec.specs.declared.header.Header.{Header}
use Rattle.message_flow.specs.declared.flow.Flow.{Flow}
use Rattle.message_flow.specs.declared.flow.Flow.TheVariants.{Part, Whole, Duplicate, Foreign, Unexpected, TooLong, Crowded}
use Rattle.message_flow.specs.Assembly.{flow_behind}
use Rattle.message_flow.specs.Entries.{FlowEntry}
use Rattle.message_flow.specs.Entries.FlowEntry.{Dropped, Given}
use Rattle.message_flow.specs.Key.{is_given, same_key}
use Rattle.message_flow.specs.Receiver.{Receiver, address_of, is_foreign}
use Rattle.secs_items.specs.Checking.{Checking, check_of}

-- a block with its moment and what it was; or the header and the moment of a drop by T4. Lists of these have the
-- newest first
pub data Met : Type 0 where
  Arrived : (block : BlockView) (now : ℕ) (flow : Flow) → Met
  TimedOut : (header : Header) (now : ℕ) → Met

-- the header of the block that was given last (SEMI E4, duplicate block)
abbrev pub last_given : List Met → Option Header
last_given [] = None
last_given (Arrived block now flow ∷ before) = Some block.header
last_given (TimedOut header now ∷ before) = last_given before

-- a block that is whole, unexpected or too long ends the message of its key (SEMI E4, receive; too long is this
-- profile's)
abbrev pub is_end : Flow → Bool
is_end Part = false
is_end (Whole message check) = true
is_end Duplicate = false
is_end (Foreign address) = false
is_end Unexpected = true
is_end TooLong = true
is_end Crowded = false

abbrev pub is_part : Flow → Bool
is_part Part = true
is_part (Whole message check) = false
is_part Duplicate = false
is_part (Foreign address) = false
is_part Unexpected = false
is_part TooLong = false
is_part Crowded = false

-- the entry is a cut for a header's key: T4 drops the message with that key, or a block with it ends the message (SEMI
-- E4, T4 and receive)
abbrev pub is_cut : Header → Met → Bool
is_cut header (Arrived block now flow) = same_key block.header header && is_end flow
is_cut header (TimedOut dropped now) = same_key dropped header

-- the block of an entry that is a part of a message of a header's key
abbrev pub part_of : Header → Met → Option BlockView
part_of header (Arrived block now flow) = if same_key block.header header && is_part flow then Some block else None
part_of header (TimedOut dropped now) = None

-- the open blocks of a header's key, the newest first: the parts with that key that no cut for it follows (SEMI E4,
-- receive)
abbrev pub open_blocks : Header → List Met → List BlockView
open_blocks header met = filter_map (part_of header) (before_first (is_cut header) met)

-- the header of the newest of them, if there are any; their text in order, empty where there are none; and its check,
-- if there are any
abbrev pub newest_header : List BlockView → Option Header
newest_header [] = None
newest_header (block ∷ before) = Some block.header

abbrev pub text_of : List BlockView → List ℕ
text_of [] = []
text_of (block ∷ before) = text_of before ++ block.body

abbrev pub text_check : List BlockView → Option Checking
text_check [] = None
text_check (block ∷ before) = Some (check_of (text_of (block ∷ before)))

-- a part with no open block of its key before it opens a message
abbrev pub first_part : Bool → Header → List BlockView → List Header
first_part false header before = []
first_part true header [] = header ∷ []
first_part true header (block ∷ before) = []

abbrev pub first_of : Met → List Met → List Header
first_of (TimedOut dropped now) before = []
first_of (Arrived block now flow) before = first_part (is_part flow) block.header (open_blocks block.header before)

-- the headers of the first blocks of the open messages, in the order in which these were opened: those whose key has
-- had no cut since (SEMI E4, receive)
abbrev pub open_firsts : List Met → List Header
open_firsts [] = []
open_firsts (entry ∷ before) = filter (λ first. not (is_cut first entry)) (open_firsts before) ++ first_of entry before

-- what a block is after all this
abbrev pub flow_after : Receiver → List Met → BlockView → Flow
flow_after receiver met block =
    if is_given (last_given met) block.header then Duplicate
    else if is_foreign receiver block.header then Foreign (address_of block.header)
    else flow_behind receiver (newest_header (open_blocks block.header met)) (text_of (open_blocks block.header met))
    (length (open_firsts met)) block

-- entries with what their blocks were, the newest first in both
abbrev pub met_of : Receiver → List FlowEntry → List Met
met_of receiver [] = []
met_of receiver (Given block now ∷ before) =
    Arrived block now (flow_after receiver (met_of receiver before) block) ∷ met_of receiver before
met_of receiver (Dropped header now ∷ before) = TimedOut header now ∷ met_of receiver before

-- what a block is after these entries, the oldest first (SEMI E4, receive)
abbrev pub flow_at : Receiver → List FlowEntry → BlockView → Flow
flow_at receiver entries block = flow_after receiver (met_of receiver (reverse entries)) block

-- the check of the text so far of a header's key after these entries, the oldest first; none exactly where no block of
-- the key is open (this profile)
abbrev pub checked_at : Receiver → List FlowEntry → Header → Option Checking
checked_at receiver entries header = text_check (open_blocks header (met_of receiver (reverse entries)))
