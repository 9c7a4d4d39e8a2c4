-- The law, by the lemmas of `Frames`.

use Rattle.block_codec.proofs.Frames.{drop-frame_bytes, take-frame_bytes}
use Rattle.block_codec.proofs.laws.length_byte_tells.Goals as goal

pub returns : goal.returns
returns c = λ block after. (take-frame_bytes block after, drop-frame_bytes block after)
