-- The law, by the lemmas of `Causes`.

use Rattle.end_pair.proofs.Causes.{by-cause}
use Rattle.end_pair.proofs.laws.steps_end_by_cause.Goals as goal

pub returns : goal.returns
returns g c = λ machine side now reach choice input s ways. by-cause machine side now reach choice input s ways
