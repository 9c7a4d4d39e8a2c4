-- The runs, computed down to the sum of the frame.

use Rattle.std.proofs.Common.{refl}
use Rattle.line_end.specs.Frames.{block_in, is_frame, sum_cause}
use Rattle.end_pair.proofs.laws.worked_runs.Goals as goal

pub returns : goal.returns
unfolding block_in is_frame sum_cause
returns c = record { carried = refl; steps = refl; slipped = refl; ended = refl }
