-- That what a host lists in its journal is taken in order, whatever becomes of the power of either end.
use Rattle.std.specs.Prelude.{List}
use Rattle.line_end.specs.Plan.{TimesFit}
use Rattle.line_order.specs.Acts.{HasNoSlip}
use Rattle.line_order.specs.Line.{new_line}
use Rattle.message_end.specs.Log.{log_of}
use Rattle.message_end.specs.Moves.{LinePlans, Move, deeds_of}
use Rattle.spool_law.specs.Listing.{AllStoredAreSpoolable, KeepsListing}
use Rattle.spool_law.specs.Shelf.{Policy}
use Rattle.spool_delivery.specs.Claims.{equipment_notes}
use Rattle.spool_delivery.specs.Laws.{IsSpoolTaken, KeepSpoolLaws}
use Rattle.journal_delivery.specs.Listed.{listed_log}

-- both ends keep their laws, and the equipment those of its spool; it puts nothing else there than what the host lists,
-- and the host lists all of that before anything else goes on
pub record KeepJournalLaws (policy : Policy) (plans : LinePlans) (moves : List Move) : Type 0 where
  pub spool : KeepSpoolLaws policy plans moves
  pub stored : AllStoredAreSpoolable (equipment_notes (log_of moves))
  pub listing : KeepsListing plans moves

-- what is claimed of a spool holds where what is listed counts as taken: what leaves as confirmed is listed, and the
-- journal lists what was put in order and skips nothing that wasn't purged or overwritten. Whatever becomes of
-- characters, time and the power of either end, up to the first slip (this profile)
abbrev pub JournalIsTakenInOrder : Type 0
JournalIsTakenInOrder =
    (policy : Policy) (plans : LinePlans) (moves : List Move) → TimesFit plans.equipment.times
    → TimesFit plans.host.times
    → HasNoSlip (new_line plans.equipment.times plans.host.times) (deeds_of moves)
    → KeepJournalLaws policy plans moves
    → IsSpoolTaken policy (listed_log (log_of moves))
