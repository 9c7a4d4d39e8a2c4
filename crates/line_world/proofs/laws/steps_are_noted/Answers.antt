-- The law, by the lemmas of `NotedSteps`.

use Rattle.line_world.proofs.NotedSteps.{have-steps}
use Rattle.line_world.proofs.laws.steps_are_noted.Goals as goal

pub returns : goal.returns
returns c = have-steps
