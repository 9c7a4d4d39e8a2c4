-- The law, by the lemmas of `Small`.

use Rattle.line_end.proofs.Small.{step_facts}
use Rattle.line_end.proofs.laws.steps_are_small.Goals as goal

pub returns : goal.returns
returns c = step_facts
