-- The law, by the lemmas of `Frames`.

use Rattle.block_codec.proofs.Frames.{fault_of-frame_bytes}
use Rattle.block_codec.proofs.laws.frames_have_no_fault.Goals as goal

pub returns : goal.returns
returns c = fault_of-frame_bytes
