-- The law, by the lemmas of `Outcomes`.

use Rattle.end_pair.proofs.Outcomes.{runs-bounded}
use Rattle.end_pair.proofs.laws.runs_are_bounded.Goals as goal

pub returns : goal.returns
returns g c = runs-bounded g.E.End.State g.H.End.State
