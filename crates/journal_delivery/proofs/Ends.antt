-- Two ends that keep their laws list what was put into the spool in order.
use Rattle.delivery.specs.Laws.{Deliver, EndsDeliver}
use Rattle.message_end.specs.Log.{log_of}
use Rattle.spool_delivery.proofs.Claimed.{spool-is-taken}
use Rattle.journal_delivery.specs.Laws.{JournalIsTakenInOrder}
use Rattle.journal_delivery.specs.Listed.{listed_log}
use Rattle.journal_delivery.proofs.Moves.{journal-facts}

pub lists-in-order : EndsDeliver → JournalIsTakenInOrder
lists-in-order ends_deliver policy plans moves fits other_fits no_slip laws =
    spool-is-taken policy (listed_log (log_of moves))
    (journal-facts policy plans moves laws.spool.ends laws.spool.notes laws.spool.tries laws.stored laws.listing
    it.delivered it.in_order)
  where
    it : Deliver plans moves
    it = ends_deliver plans moves fits other_fits no_slip laws.spool.ends
