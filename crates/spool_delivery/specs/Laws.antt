-- That the spool is kept, and taken in order.
use Rattle.std.specs.Prelude.{List}
use Rattle.line_end.specs.Plan.{TimesFit}
use Rattle.line_order.specs.Acts.{HasNoSlip}
use Rattle.line_order.specs.Line.{new_line}
use Rattle.message_end.specs.Log.{log_of}
use Rattle.message_end.specs.Moves.{KeepLaws, LinePlans, Move, deeds_of}
use Rattle.trace_log.specs.Log.{Entry}
use Rattle.spool_law.specs.Shelf.{KeepsSpool, Policy}
use Rattle.spool_law.specs.Tries.{KeepsTries}
use Rattle.spool_delivery.specs.Claims.{SpoolIsKept, TakenInOrder, equipment_notes}

-- both ends keep their laws, and the equipment those of its spool: over its notes, and over what it sends
pub record KeepSpoolLaws (policy : Policy) (plans : LinePlans) (moves : List Move) : Type 0 where
  pub ends : KeepLaws plans moves
  pub notes : KeepsSpool policy (equipment_notes (log_of moves))
  pub tries : KeepsTries plans moves

pub record IsSpoolTaken (policy : Policy) (log : List Entry) : Type 0 where
  pub kept : SpoolIsKept policy log
  pub taken : TakenInOrder log

-- whatever becomes of characters, time and the power of either end, up to the first slip (this profile)
abbrev pub SpoolIsTakenInOrder : Type 0
SpoolIsTakenInOrder =
    (policy : Policy) (plans : LinePlans) (moves : List Move) → TimesFit plans.equipment.times
    → TimesFit plans.host.times
    → HasNoSlip (new_line plans.equipment.times plans.host.times) (deeds_of moves) → KeepSpoolLaws policy plans moves
    → IsSpoolTaken policy (log_of moves)
