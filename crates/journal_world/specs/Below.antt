-- What the crates below promise of an equipment, of a host with a journal, and of a line.
use Rattle.journal_delivery.specs.Laws.{JournalIsTakenInOrder}
use Rattle.journal_law.specs.Kept.{JournalsAreKept}
use Rattle.journal_law.specs.Turns.{JournalsWriteInTurn}
use Rattle.line_world.specs.Below as below

-- all that the claims of a log rest on
pub record LawsHold : Type 0 where
  pub line : below.LawsHold
  pub list : JournalIsTakenInOrder
  pub journals : JournalsAreKept
  pub turns : JournalsWriteInTurn
