-- The block that stands in the characters of a frame.
use Rattle.std.specs.Prelude.{ℕ, Bool, List, take, drop, slice_index}
use Rattle.std.specs.Int.{w16, from_be_bytes}
use Rattle.std.specs.Str.{bytes_eq}
use Rattle.block_codec.specs.Block.{BlockView}
use Rattle.block_codec.specs.Frame.{checksum, counted_block, frame_bytes}
use Rattle.line_end.specs.declared.event.LineCause.{LineCause}
use Rattle.line_end.specs.declared.event.LineCause.TheVariants.{Sum}

-- what the length byte counts, and what stands behind it (SEMI E4, block)
abbrev pub counted_in : List ℕ → List ℕ
counted_in frame = take (slice_index frame 0) (drop 1 frame)

abbrev pub sent_in : List ℕ → List ℕ
sent_in frame = drop (slice_index frame 0) (drop 1 frame)

-- the block whose header and body stand at their places, whatever the sum (SEMI E4, block)
unfoldable pub block_in : List ℕ → BlockView
block_in frame = counted_block (counted_in frame)

-- the characters are the frame of the block that stands in them (SEMI E4, block)
unfoldable pub is_frame : List ℕ → Bool
is_frame characters = bytes_eq characters (frame_bytes (block_in characters))

-- the sum that came, and that of the bytes that it is for (SEMI E4, checksum)
unfoldable pub sum_cause : List ℕ → LineCause
sum_cause frame = Sum (from_be_bytes w16 (sent_in frame)) (checksum (counted_in frame))
