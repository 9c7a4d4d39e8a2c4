-- The law, by the lemmas of `Missed`.

use Rattle.message_flow.proofs.Missed.{whole-numbered}
use Rattle.message_flow.proofs.laws.whole_is_numbered.Goals as goal

pub returns : goal.returns
returns c = whole-numbered
