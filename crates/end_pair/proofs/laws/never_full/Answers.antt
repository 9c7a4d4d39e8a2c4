-- The law, by the lemmas of `FiveWays`.

use Rattle.end_pair.proofs.FiveWays.{not-full}
use Rattle.end_pair.proofs.laws.never_full.Goals as goal

pub returns : goal.returns
returns g c = λ e h equipment host events none none_there. not-full e h equipment host events none none_there
