-- The law, by the lemmas of `Noting`.

use Rattle.end_pair.proofs.Noting.{entries-noted}
use Rattle.end_pair.proofs.laws.entries_are_of_courses.Goals as goal

pub returns : goal.returns
returns g c = λ e h equipment host events. entries-noted e h equipment host events
