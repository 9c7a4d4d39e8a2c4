-- The law, by the lemmas of `TurnCauses`.

use Rattle.end_pair.proofs.TurnCauses.{turns-by-cause}
use Rattle.end_pair.proofs.laws.turns_end_by_cause.Goals as goal

pub returns : goal.returns
returns g c = turns-by-cause
