use Rattle.std.proofs.Common.{refl}
use Rattle.line_end.specs.Frames.{block_in, is_frame, sum_cause}
use Rattle.spool_file.specs.Sizes.{slots_for}
use Rattle.tool_step.specs.Sampling.{sample_parts}
use Rattle.tool_step.specs.Step.{late_parts}
use Rattle.tool_step.proofs.laws.worked_losses.Goals as goal

pub returns : goal.returns
unfolding block_in is_frame late_parts sample_parts slots_for sum_cause
returns c = record { fronts = refl; new = refl; filled = refl }
