-- The worked steps whose numbers are spent, computed.
use Rattle.std.specs.Prelude.{refl}
use Rattle.spool_file.specs.Sizes.{slots_for}
use Rattle.tool_law.specs.Putting.{late_puts, sample_puts}
use Rattle.tool_step.specs.Sampling.{sample_parts}
use Rattle.tool_step.specs.Step.{late_parts}
use Rattle.tool_law.specs.WorkedSpent.{NumbersEnd}

pub numbers-end : NumbersEnd
unfolding late_parts late_puts sample_parts sample_puts slots_for
numbers-end = record { puts = refl; marked = refl; spooled = refl; enough = refl; wanting = refl; ends = refl }
