-- A message that waits to go out.
use Rattle.std.specs.Prelude.{ℕ, Bool, ◌<◌, ◌==◌, ◌&&◌}
use Rattle.std.specs.Bool.{beq}
use Rattle.message_flow.specs.declared.waiting.Waiting.{Waiting}
use Rattle.message_flow.specs.Blocks.{block_count}
use Rattle.message_flow.specs.Message.{MessageFits, is_primary}

-- a block at least is left to go
pub record IsWaiting (waiting : Waiting) : Type 0 where
  pub fits : MessageFits waiting.message
  pub left : waiting.gone < block_count waiting.message

-- a primary, or a secondary, with these system bytes
abbrev pub is_named : Bool → ℕ → Waiting → Bool
is_named primary system waiting =
    beq (is_primary waiting.message) primary && (waiting.message.system == system)
