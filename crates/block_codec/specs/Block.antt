-- A block of a message, as contracts see it.
use Rattle.std.specs.Prelude.{ℕ, ◌<◌, ◌≤◌, List, length, All}
use Rattle.block_codec.specs.declared.header.Header.{Header}
use Rattle.block_codec.specs.Header.{IsHeader}
use Rattle.block_codec.specs.Protocol.{longest_body}

-- a header and a part of a message's text (SEMI E4, block)
pub record BlockView : Type 0 where
  pub header : Header
  pub body : List ℕ

-- its header fits, and its body is of at most 244 bytes (SEMI E4, block)
pub record IsBlock (block : BlockView) : Type 0 where
  pub header : IsHeader block.header
  pub at_most_244 : length block.body ≤ longest_body
  pub bytes : All (λ byte. byte < 256) block.body
