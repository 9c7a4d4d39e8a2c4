-- The law, by the lemmas of `WorkedFiles`.

use Rattle.spool_file.proofs.WorkedFiles.{as_worked}
use Rattle.spool_file.proofs.laws.files_are_as_worked.Goals as goal

pub returns : goal.returns
returns c = as_worked
