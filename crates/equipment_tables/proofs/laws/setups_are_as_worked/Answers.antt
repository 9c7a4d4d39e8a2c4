-- The law, by the lemmas of `WorkedSetup`.

use Rattle.equipment_tables.proofs.WorkedSetup.{as_worked}
use Rattle.equipment_tables.proofs.laws.setups_are_as_worked.Goals as goal

pub returns : goal.returns
returns c = as_worked
