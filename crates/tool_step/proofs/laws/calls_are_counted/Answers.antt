use Rattle.tool_step.specs.Disk.{standing_in, works_of}
use Rattle.spool_works.proofs.Counted.{works-long, works-written}
use Rattle.tool_step.proofs.laws.calls_are_counted.Goals as goal

pub returns : goal.returns
returns c = λ s input now. (
  works-long (standing_in s) (works_of s input now),
  works-written (standing_in s) (works_of s input now),
)
