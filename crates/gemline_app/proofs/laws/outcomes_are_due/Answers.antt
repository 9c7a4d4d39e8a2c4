-- The law, by the lemmas of `Due`.

use Rattle.gemline_app.proofs.Due.{due_outcome}
use Rattle.gemline_app.proofs.laws.outcomes_are_due.Goals as goal

pub returns : goal.returns
returns c = due_outcome
