use Rattle.tool_law.proofs.SpentRuns.{numbers-end}
use Rattle.tool_law.proofs.laws.worked_spent_steps.Goals as goal

pub returns : goal.returns
returns c = numbers-end
