-- The law, by the lemmas of `Making`.

use Rattle.message_flow.proofs.Making.{whole-fit}
use Rattle.message_flow.proofs.laws.whole_messages_fit.Goals as goal

pub returns : goal.returns
returns c = whole-fit
