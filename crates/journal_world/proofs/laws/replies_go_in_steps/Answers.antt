-- The law, by the lemmas of `SoFar`.

use Rattle.journal_world.proofs.SoFar.{replies-in-steps}
use Rattle.journal_world.proofs.laws.replies_go_in_steps.Goals as goal

pub returns : goal.returns
returns c = replies-in-steps
