-- The law, by the lemmas of `KeptSetup`.

use Rattle.equipment_tables.proofs.KeptSetup.{tells_the_same}
use Rattle.equipment_tables.proofs.laws.kept_tells_the_same.Goals as goal

pub returns : goal.returns
returns c = tells_the_same c.reports_go_by_what_stands.ensures
