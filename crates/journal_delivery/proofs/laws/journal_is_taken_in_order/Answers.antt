-- The law, by the lemmas of `Ends`.

use Rattle.journal_delivery.proofs.Ends.{lists-in-order}
use Rattle.journal_delivery.proofs.laws.journal_is_taken_in_order.Goals as goal

pub returns : goal.returns
returns c = lists-in-order c.ends_deliver.ensures
