-- The runs, by the lemmas of `WorkedSetups`.

use Rattle.setup_law.proofs.WorkedSetups.{as_worked}
use Rattle.setup_law.proofs.laws.worked_setups.Goals as goal

pub returns : goal.returns
returns c = as_worked
