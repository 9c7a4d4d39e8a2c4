-- The law, by the lemmas of `Arrivals`.

use Rattle.message_flow.proofs.Arrivals.{comes-whole}
use Rattle.message_flow.proofs.laws.messages_come_whole.Goals as goal

pub returns : goal.returns
returns c = comes-whole
