use Rattle.tool_step.proofs.LossCalls.{losses-counted}
use Rattle.tool_step.proofs.laws.losses_are_counted.Goals as goal

pub returns : goal.returns
returns c = losses-counted
