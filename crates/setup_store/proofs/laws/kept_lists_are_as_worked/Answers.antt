-- The law, by the lemmas of `WorkedLists`.

use Rattle.setup_store.proofs.WorkedLists.{as_worked}
use Rattle.setup_store.proofs.laws.kept_lists_are_as_worked.Goals as goal

pub returns : goal.returns
returns c = as_worked
