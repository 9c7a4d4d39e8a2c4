-- The law, by the lemmas of `Delivers`.

use Rattle.delivery.proofs.Delivers.{deliver}
use Rattle.delivery.proofs.laws.ends_deliver.Goals as goal

pub returns : goal.returns
returns c = deliver c.blocks_make_messages.ensures
