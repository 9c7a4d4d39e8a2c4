-- The law, by the lemmas of `Missed`.

use Rattle.message_flow.proofs.Missed.{left-out}
use Rattle.message_flow.proofs.laws.left_out_is_missed.Goals as goal

pub returns : goal.returns
returns c = left-out
