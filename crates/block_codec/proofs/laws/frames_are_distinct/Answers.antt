-- The law, by the lemmas of `Frames`.

use Rattle.block_codec.proofs.Frames.{frame_bytes-same}
use Rattle.block_codec.proofs.laws.frames_are_distinct.Goals as goal

pub returns : goal.returns
returns c = frame_bytes-same
