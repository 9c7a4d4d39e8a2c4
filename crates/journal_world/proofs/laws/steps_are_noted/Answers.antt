-- The law, by the lemmas of `SoFar`.

use Rattle.journal_world.proofs.SoFar.{have-steps}
use Rattle.journal_world.proofs.laws.steps_are_noted.Goals as goal

pub returns : goal.returns
returns c = have-steps
