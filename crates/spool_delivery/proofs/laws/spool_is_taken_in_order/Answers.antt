-- The law, by the lemmas of `Ends`.

use Rattle.spool_delivery.proofs.Ends.{takes-in-order}
use Rattle.spool_delivery.proofs.laws.spool_is_taken_in_order.Goals as goal

pub returns : goal.returns
returns c = takes-in-order c.ends_deliver.ensures
