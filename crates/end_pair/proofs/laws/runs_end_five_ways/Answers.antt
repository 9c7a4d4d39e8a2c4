-- The law, by the lemmas of `FiveWays`.

use Rattle.end_pair.proofs.FiveWays.{five-ways}
use Rattle.end_pair.proofs.laws.runs_end_five_ways.Goals as goal

pub returns : goal.returns
returns g c = λ e h equipment host events. five-ways e h equipment host events
