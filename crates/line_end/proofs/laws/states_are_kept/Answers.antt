-- The law, by the lemmas of `Kept`.

use Rattle.line_end.proofs.Kept.{kept, kept-new}
use Rattle.line_end.proofs.laws.states_are_kept.Goals as goal

pub returns : goal.returns
returns c = record { new = kept-new; next = kept }
