-- Two ends that keep their laws take what was put into the spool in order.
use Rattle.delivery.specs.Laws.{Deliver, EndsDeliver}
use Rattle.message_end.specs.Log.{log_of}
use Rattle.spool_delivery.specs.Laws.{SpoolIsTakenInOrder}
use Rattle.spool_delivery.proofs.Claimed.{spool-is-taken}
use Rattle.spool_delivery.proofs.Worlds.{facts-are}

pub takes-in-order : EndsDeliver → SpoolIsTakenInOrder
takes-in-order ends_deliver policy plans moves fits other_fits no_slip laws =
    spool-is-taken policy (log_of moves) (facts-are policy plans moves laws.ends laws.notes laws.tries it.delivered
    it.in_order)
  where
    it : Deliver plans moves
    it = ends_deliver plans moves fits other_fits no_slip laws.ends
