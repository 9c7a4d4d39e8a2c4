-- The law, by the lemmas of `Making`.

use Rattle.message_flow.proofs.Making.{go-in-blocks}
use Rattle.message_flow.proofs.laws.messages_go_in_blocks.Goals as goal

pub returns : goal.returns
returns c = go-in-blocks
