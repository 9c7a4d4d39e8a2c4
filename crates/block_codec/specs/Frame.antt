-- The bytes of a block on the line.
use Rattle.std.specs.Prelude.{◌≡◌, ◌≤◌, ℕ, ◌+◌, ◌%◌, List, ◌∷◌, ◌++◌, length, take, drop, sum}
use Rattle.std.specs.Int.{w16, to_be_bytes}
use Rattle.block_codec.specs.Block.{BlockView}
use Rattle.block_codec.specs.Header.{header_bytes, header_in}
use Rattle.block_codec.specs.Protocol.{header_length, most_counted}

-- what the length byte counts and the checksum sums: header and body (SEMI E4, block)
abbrev pub counted_bytes : BlockView → List ℕ
counted_bytes block = header_bytes block.header ++ block.body

-- the block whose header and body such bytes are (SEMI E4, block)
abbrev pub counted_block : List ℕ → BlockView
counted_block counted = record { header = header_in (take header_length counted); body = drop header_length counted }

-- the sum of the bytes modulo 65,536 (SEMI E4, checksum)
abbrev pub checksum : List ℕ → ℕ
checksum bytes = sum bytes % 65536

-- length byte, header, body, and the checksum with its high byte first (SEMI E4, block)
abbrev pub frame_bytes : BlockView → List ℕ
frame_bytes block =
    (header_length + length block.body) ∷ counted_bytes block ++ to_be_bytes w16 (checksum (counted_bytes block))

-- the bytes are a length byte from 10 to 254, as many bytes, and two more (SEMI E4, block)
pub record IsSplit (bytes counted sent : List ℕ) : Type 0 where
  pub whole : bytes ≡ length counted ∷ counted ++ sent
  pub at_least_10 : header_length ≤ length counted
  pub at_most_254 : length counted ≤ most_counted
  pub two : length sent ≡ 2
