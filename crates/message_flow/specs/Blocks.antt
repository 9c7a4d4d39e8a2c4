-- The blocks of a message.
use Rattle.std.specs.Prelude.{ℕ, ◌+◌, ◌-◌, ◌*◌, ◌/◌, ◌==◌, List, length, take, drop, map, max}
use Rattle.std.specs.List.{range_with_len}
use Rattle.block_codec.specs.Block.{BlockView}
use Rattle.block_codec.specs.Protocol.{longest_body}
use Rattle.block_codec.specs.declared.header.Header.{Header}
use Rattle.gl_base.specs.declared.side.Side.{Side}
use Rattle.gl_base.specs.Side.{r_bit_of}
use Rattle.message_flow.specs.declared.message.Message.{Message}

-- how many blocks carry the message: 244 bytes of its text each, and one where the text is empty (SEMI E4,
-- multi-block message)
abbrev pub block_count : Message → ℕ
block_count message = max ((length message.body + (longest_body - 1)) / longest_body) 1

-- the header of the block of this number; the last block has the E bit (SEMI E4, header)
abbrev pub header_of : Side → ℕ → Message → ℕ → Header
header_of side device message number = record {
  from_equipment = r_bit_of side;
  device = device;
  wait = message.wait;
  stream = message.stream;
  function = message.function;
  last = number == block_count message;
  number = number;
  system = message.system;
}

-- the block of this number: the next 244 bytes of the text after those of the blocks before it, or what is left of it
-- (SEMI E4, multi-block message)
abbrev pub numbered_block : Side → ℕ → Message → ℕ → BlockView
numbered_block side device message number = record {
  header = header_of side device message number;
  body = take longest_body (drop (longest_body * (number - 1)) message.body);
}

-- the blocks of a message, numbered from 1 (SEMI E4, multi-block message)
abbrev pub blocks_of : Side → ℕ → Message → List BlockView
blocks_of side device message = map (numbered_block side device message) (range_with_len 1 (block_count message))
