-- The law, by the lemmas of `Frames`.

use Rattle.block_codec.proofs.Frames.{length-frame_bytes}
use Rattle.block_codec.proofs.laws.frames_are_longer.Goals as goal

pub returns : goal.returns
returns c = length-frame_bytes
