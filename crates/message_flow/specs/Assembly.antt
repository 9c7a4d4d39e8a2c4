-- The messages that come in, as they are kept block by block.
use Rattle.std.specs.Prelude.{◌≡◌, ℕ, Bool, false, ◌+◌, ◌≤◌, ◌==◌, ◌&&◌, ◌||◌, nat_lt, nat_le, List, [], ◌∷◌, ◌++◌, length, set, slice_index_or, All, Option, Some, None, Result, IfOk, if◌then◌else◌}
use Rattle.std.specs.List.{find, position_or_len, remove}
use Rattle.std.specs.Option.{option_map}
use Rattle.block_codec.specs.Block.{BlockView}
use Rattle.block_codec.specs.Header.{Fits}
use Rattle.block_codec.specs.declared.header.Header.{Header}
use Rattle.message_flow.specs.declared.flow.Flow.{Flow}
use Rattle.message_flow.specs.declared.flow.Flow.TheVariants.{Part, Whole, Duplicate, Foreign, Unexpected, TooLong, Crowded}
use Rattle.message_flow.specs.declared.message.Message.{Message}
use Rattle.message_flow.specs.declared.partial.Partial.{Partial}
use Rattle.message_flow.specs.Key.{is_given, same_key}
use Rattle.message_flow.specs.Message.{MessageFits}
use Rattle.message_flow.specs.Receiver.{IsReceiver, Receiver, address_of, is_foreign}
use Rattle.secs_items.specs.Checking.{Checking, check_of}

-- a message with this key and this text
abbrev pub message_of : Header → List ℕ → Message
message_of header body = record {
  stream = header.stream;
  function = header.function;
  wait = header.wait;
  system = header.system;
  body = body;
}

-- a message of which this block is the first
abbrev pub new_partial : BlockView → ℕ → Partial
new_partial block deadline = record {
  header = block.header;
  deadline = deadline;
  body = block.body;
  check = check_of block.body;
}

-- the next block of a message has come
abbrev pub next_partial : Partial → BlockView → ℕ → Partial
next_partial partial block deadline = record {
  header = block.header;
  deadline = deadline;
  body = partial.body ++ block.body;
  check = check_of (partial.body ++ block.body);
}

-- a message with the key of a header
abbrev pub has_key : Header → Partial → Bool
has_key header partial = same_key partial.header header

-- the header of the last block, the text so far, and its check
abbrev pub header_so_far : Option Partial → Option Header
header_so_far None = None
header_so_far (Some partial) = Some partial.header

abbrev pub body_so_far : Option Partial → List ℕ
body_so_far None = []
body_so_far (Some partial) = partial.body

abbrev pub check_so_far : Option Partial → Option Checking
check_so_far found = option_map (λ partial. partial.check) found

-- a block is the next of its message: its number follows that of the block before it, and the first one has number 1,
-- or 0 where it is the only one (SEMI E4, block number)
abbrev pub is_next : Option Header → Header → Bool
is_next None header = (header.number == 1) || ((header.number == 0) && header.last)
is_next (Some before) header = header.number == before.number + 1

-- a message would be opened where 16 are open (this profile)
abbrev pub is_crowded : Option Header → ℕ → Bool
is_crowded None count = nat_le 16 count
is_crowded (Some before) count = false

-- a message that is whole, with the check of its text
abbrev pub whole_with : Message → Flow
whole_with message = Whole message (check_of message.body)

-- what a block of this receiver is that is no duplicate, from the block of its key before it, the text so far and how
-- many messages are open: the first that applies (SEMI E4, receive; the limits are this profile's)
abbrev pub flow_behind : Receiver → Option Header → List ℕ → ℕ → BlockView → Flow
flow_behind receiver before body count block =
    if is_next before block.header then
    (if nat_lt receiver.max_body (length body + length block.body) then TooLong
    else if block.header.last then whole_with (message_of block.header (body ++ block.body))
    else if is_crowded before count then Crowded
    else Part)
    else Unexpected

-- what an arrived block is, from the header of the block that came last and the messages that are open
abbrev pub flow_of : Receiver → Option Header → List Partial → BlockView → Flow
flow_of receiver last partials block =
    if is_given last block.header then Duplicate
    else if is_foreign receiver block.header then Foreign (address_of block.header)
    else flow_behind receiver (header_so_far (find (has_key block.header) partials))
    (body_so_far (find (has_key block.header) partials)) (length partials) block

-- the open messages without the one of this key
abbrev pub without_key : Header → List Partial → List Partial
without_key header partials = remove partials (position_or_len (has_key header) partials)

-- the open messages with this block, at the end where it is the first of its message
abbrev pub with_part : Option Partial → List Partial → BlockView → ℕ → List Partial
with_part None partials block deadline = partials ++ new_partial block deadline ∷ []
with_part (Some found) partials block deadline =
    set partials (position_or_len (has_key block.header) partials) (next_partial found block deadline)

-- the open messages after a block that was this: a part opens a message or goes on with it, and puts its end at T4
-- from now; whole, unexpected and too long end it (SEMI E4, T4 and receive)
abbrev pub partials_after : List Partial → BlockView → ℕ → Flow → List Partial
partials_after partials block deadline Part = with_part (find (has_key block.header) partials) partials block deadline
partials_after partials block deadline (Whole message check) = without_key block.header partials
partials_after partials block deadline Duplicate = partials
partials_after partials block deadline (Foreign address) = partials
partials_after partials block deadline Unexpected = without_key block.header partials
partials_after partials block deadline TooLong = without_key block.header partials
partials_after partials block deadline Crowded = partials

-- the same, with the message of the block's key open at this place
abbrev pub after_next : List Partial → ℕ → Partial → BlockView → ℕ → Flow → List Partial
after_next partials place found block deadline Part = set partials place (next_partial found block deadline)
after_next partials place found block deadline (Whole message check) = remove partials place
after_next partials place found block deadline Duplicate = partials
after_next partials place found block deadline (Foreign address) = partials
after_next partials place found block deadline Unexpected = remove partials place
after_next partials place found block deadline TooLong = remove partials place
after_next partials place found block deadline Crowded = partials

-- the same, with no message of the block's key open
abbrev pub after_first : List Partial → BlockView → ℕ → Flow → List Partial
after_first partials block deadline Part = partials ++ new_partial block deadline ∷ []
after_first partials block deadline (Whole message check) = partials
after_first partials block deadline Duplicate = partials
after_first partials block deadline (Foreign address) = partials
after_first partials block deadline Unexpected = partials
after_first partials block deadline TooLong = partials
after_first partials block deadline Crowded = partials

-- the receiver, the header of the block that came last, and the open messages in the order in which they were opened
pub record AssemblyView : Type 0 where
  pub receiver : Receiver
  pub last : Option Header
  pub partials : List Partial

-- at most 16 messages are open, none with more text than the receiver takes (this profile), each with the check of its
-- text, and their headers fit
pub record IsAssembly (assembly : AssemblyView) : Type 0 where
  pub receiver : IsReceiver assembly.receiver
  pub few : length assembly.partials ≤ 16
  pub bodies : All (λ partial. length partial.body ≤ assembly.receiver.max_body) assembly.partials
  pub checks : All (λ partial. partial.check ≡ check_of partial.body) assembly.partials
  pub headers : All (λ partial. Fits partial.header) assembly.partials

-- what an arrived block is to an assembly
abbrev pub flow_to : AssemblyView → BlockView → Flow
flow_to assembly block = flow_of assembly.receiver assembly.last assembly.partials block

-- the assembly after a block that arrives now: it is the last one, and the open messages are as what it was says
abbrev pub with_block : AssemblyView → BlockView → ℕ → AssemblyView
with_block assembly block now = record {
  receiver = assembly.receiver;
  last = Some block.header;
  partials = partials_after assembly.partials block (now + assembly.receiver.t4) (flow_to assembly block);
}

-- a block that arrives now is this, and this is the assembly then
abbrev pub IsAccepted : AssemblyView → BlockView → ℕ → AssemblyView → Flow → Type 0
IsAccepted old block now new flow = (flow ≡ flow_to old block) × (new ≡ with_block old block now)

-- the assembly after a block that was this, but for the block that came last
abbrev pub with_flow : AssemblyView → BlockView → ℕ → Flow → AssemblyView
with_flow assembly block now flow = record assembly {
  partials = partials_after assembly.partials block (now + assembly.receiver.t4) flow;
}

-- where the block's message is open at this place: what the block is, and the assembly then
abbrev pub FlowsNext : {E : Type 0} → AssemblyView → ℕ → BlockView → Result Flow E → Type 0
FlowsNext old place block result =
    (partial : Partial) → partial ≡ slice_index_or old.partials place partial
    → IfOk result (λ flow.
    flow ≡ flow_behind old.receiver (Some partial.header) partial.body (length old.partials) block)

abbrev pub IsNextAfter : {E : Type 0} → AssemblyView → AssemblyView → ℕ → BlockView → ℕ → Result Flow E → Type 0
IsNextAfter old new place block now result =
    (partial : Partial) → partial ≡ slice_index_or old.partials place partial
    → IfOk result (λ flow. new ≡ record old {
      partials = after_next old.partials place partial block (now + old.receiver.t4) flow;
    })

-- where it isn't open: what the block is, and the assembly after one that was this
abbrev pub first_flow : AssemblyView → BlockView → Flow
first_flow assembly block = flow_behind assembly.receiver None [] (length assembly.partials) block

abbrev pub with_first : AssemblyView → BlockView → ℕ → Flow → AssemblyView
with_first assembly block now flow = record assembly {
  partials = after_first assembly.partials block (now + assembly.receiver.t4) flow;
}

-- T4 has run out on a message at this moment (SEMI E4, T4)
abbrev pub is_due : ℕ → Partial → Bool
is_due now partial = nat_le partial.deadline now

-- the assembly without the first message on which T4 has run out; as it is where there is none
abbrev pub without_due : ℕ → AssemblyView → AssemblyView
without_due now assembly = record {
  receiver = assembly.receiver;
  last = assembly.last;
  partials = remove assembly.partials (position_or_len (is_due now) assembly.partials);
}

-- a whole message fits, and has no more text than this
abbrev pub WholeFits : ℕ → Flow → Type 0
WholeFits max_body (Whole message check) = MessageFits message × (length message.body ≤ max_body)
WholeFits max_body _ = Unit {0}

-- the check that comes with a whole message is that of its text
abbrev pub WholeIsChecked : Flow → Type 0
WholeIsChecked (Whole message check) = check ≡ check_of message.body
WholeIsChecked _ = Unit {0}
