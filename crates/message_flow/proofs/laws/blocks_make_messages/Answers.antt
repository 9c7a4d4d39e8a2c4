-- The law, by the lemmas of `Making`.

use Rattle.message_flow.proofs.Making.{make-messages}
use Rattle.message_flow.proofs.laws.blocks_make_messages.Goals as goal

pub returns : goal.returns
returns c = make-messages
