-- That two ends deliver.
use Rattle.std.specs.Prelude.{List}
use Rattle.line_end.specs.Plan.{TimesFit}
use Rattle.line_order.specs.Acts.{HasNoSlip}
use Rattle.line_order.specs.Line.{new_line}
use Rattle.message_end.specs.Log.{log_of}
use Rattle.message_end.specs.Moves.{KeepLaws, LinePlans, Move, deeds_of}
use Rattle.trace_log.specs.Delivered.{Delivered}
use Rattle.delivery.specs.Order.{AreInOrder}

-- each message received was sent by the other end, whole, and none of its system bytes and parity was received in the
-- same start; the system bytes of primaries are new over all starts; and messages are received in order
pub record Deliver (plans : LinePlans) (moves : List Move) : Type 0 where
  pub delivered : Delivered (log_of moves)
  pub in_order : AreInOrder plans moves

-- two ends of which each keeps its law deliver, up to the first slip, whatever becomes of characters, time and the
-- power of either end (this profile)
abbrev pub EndsDeliver : Type 0
EndsDeliver =
    (plans : LinePlans) (moves : List Move) → TimesFit plans.equipment.times → TimesFit plans.host.times
    → HasNoSlip (new_line plans.equipment.times plans.host.times) (deeds_of moves) → KeepLaws plans moves
    → Deliver plans moves
