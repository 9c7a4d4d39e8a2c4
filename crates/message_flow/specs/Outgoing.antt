-- The messages of one side that wait to go out.
use Rattle.std.specs.Prelude.{◌≡◌, ℕ, Bool, ◌+◌, ◌<◌, ◌≤◌, ◌==◌, not, List, [], ◌∷◌, ◌++◌, length, All, Result, Ok, Err, Option, Some, None, if◌then◌else◌}
use Rattle.std.specs.List.{after_last, before_last, position_or_len, remove, suffix_len}
use Rattle.block_codec.specs.Block.{BlockView}
use Rattle.block_codec.specs.declared.header.Header.{Header}
use Rattle.gl_base.specs.declared.side.Side.{Side}
use Rattle.message_flow.specs.declared.message.Message.{Message}
use Rattle.message_flow.specs.declared.outgoing.Pushing.{Pushing}
use Rattle.message_flow.specs.declared.outgoing.Pushing.TheVariants.{NoMemory, QueueFull}
use Rattle.message_flow.specs.declared.waiting.Waiting.{Waiting}
use Rattle.message_flow.specs.Blocks.{block_count, header_of, numbered_block}
use Rattle.message_flow.specs.Key.{same_header}
use Rattle.message_flow.specs.Waiting.{IsWaiting}

-- the side that sends, its device, and the messages in the order in which their next blocks go
pub record OutgoingView : Type 0 where
  pub side : Side
  pub device : ℕ
  pub waiting : List Waiting

-- at most 128 messages wait (this profile)
pub record IsOutgoing (outgoing : OutgoingView) : Type 0 where
  pub device : outgoing.device < 32768
  pub waiting : All IsWaiting outgoing.waiting
  pub few : length outgoing.waiting ≤ 128

-- what goes out, with these messages waiting
abbrev pub with_waiting : OutgoingView → List Waiting → OutgoingView
with_waiting outgoing waiting = record outgoing { waiting = waiting }

-- a message joins the others behind them, with no block gone
abbrev pub with_message : List Waiting → Message → List Waiting
with_message waiting message = waiting ++ record { message = message; gone = 0 } ∷ []

-- a refused message is handed back; full exactly where 128 messages wait
abbrev pub PushAnswer : OutgoingView → Message → Result (Unit {0}) Pushing → Type 0
PushAnswer old message (Ok done) = length old.waiting < 128
PushAnswer old message (Err (QueueFull refused)) = (length old.waiting ≡ 128) × (refused ≡ message)
PushAnswer old message (Err (NoMemory refused)) = (length old.waiting < 128) × (refused ≡ message)

-- a message one of whose blocks goes is last in turn then, and waits no longer where no block of it is left (this
-- profile)
abbrev pub after_block : Waiting → List Waiting → List Waiting
after_block first rest =
    if first.gone + 1 == block_count first.message then rest
    else rest ++ record first { gone = first.gone + 1 } ∷ []

-- the next block of the first message, and the messages in turn then (SEMI E4, multi-block message; the turn is this
-- profile's)
abbrev pub next_block_of : Side → ℕ → List Waiting → Option BlockView × List Waiting
next_block_of side device [] = (None, [])
next_block_of side device (first ∷ rest) =
    (Some (numbered_block side device first.message (first.gone + 1)), after_block first rest)

-- what waits after that block
abbrev pub next_turn : OutgoingView → OutgoingView
next_turn outgoing =
    with_waiting outgoing (next_block_of outgoing.side outgoing.device outgoing.waiting).1

-- a list without the first element that passes
abbrev pub without_first : {X : Type 0} → (X → Bool) → List X → List X
without_first test xs = remove xs (position_or_len test xs)

-- the block with this header is the one of this message that went last
abbrev pub is_source_of : OutgoingView → Header → Waiting → Bool
is_source_of outgoing header waiting =
    same_header (header_of outgoing.side outgoing.device waiting.message waiting.gone) header

-- the place of the last element that passes, and none where none does
abbrev pub IsLastPlace : {X : Type 0} → (X → Bool) → List X → Option ℕ → Type 0
IsLastPlace test xs (Some place) = place + 1 + suffix_len (λ x. not (test x)) xs ≡ length xs
IsLastPlace test xs None = suffix_len (λ x. not (test x)) xs ≡ length xs

-- a list without the last element that passes
abbrev pub without_last : {X : Type 0} → (X → Bool) → List X → List X
without_last test xs = before_last test xs ++ after_last test xs

-- without the message whose block with this header has failed: the last in turn of those of which that block went last
-- (this profile)
abbrev pub without_source : OutgoingView → Header → OutgoingView
without_source outgoing header =
    with_waiting outgoing (without_last (is_source_of outgoing header) outgoing.waiting)

-- the header of a message's last block
abbrev pub last_header : OutgoingView → Waiting → Header
last_header outgoing waiting =
    header_of outgoing.side outgoing.device waiting.message (block_count waiting.message)
