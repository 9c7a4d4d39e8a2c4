-- The law, by the lemmas of `Parts`.

use Rattle.block_codec.proofs.Parts.{faultless-frame}
use Rattle.block_codec.proofs.laws.faultless_bytes_are_frames.Goals as goal

pub returns : goal.returns
returns c = faultless-frame
