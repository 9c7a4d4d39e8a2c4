-- The law, by the lemmas of `Tables`.

use Rattle.setup_law.proofs.Tables.{kept_holds}
use Rattle.setup_law.proofs.laws.kept_setup_holds.Goals as goal

pub returns : goal.returns
returns c = kept_holds c.reports_go_by_what_stands.ensures c.kept_tells_the_same.ensures
