-- The run, computed down to the sum of the frame.

use Rattle.std.proofs.Common.{refl, rules}
use Rattle.line_end.specs.Frames.{block_in, is_frame, sum_cause}
use Rattle.message_end.proofs.laws.worked_run.Goals as goal

pub returns : goal.returns
unfolding block_in is_frame sum_cause
returns c = record { fits = search rules; may = search rules; held_before = refl; held_after = refl; notes = refl }
