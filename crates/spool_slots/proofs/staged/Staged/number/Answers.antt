-- What rests on the disk is the list in hand.

use Rattle.std.proofs.Common.{◌≡◌, Some, subst}
use Rattle.disk_base.specs.Story.{Story}
use Rattle.spool_slots.specs.Spool.{Rests, StagedView, known_of}
use Rattle.spool_slots.proofs.staged.Staged.number.Goals as goal

pub returns-clause-rests : goal.returns-clause-rests
returns-clause-rests g c =
    subst (λ (v : StagedView g.row.D.Denot). (s : Story) → g.D.Disk.told v.spool.disk ≡ Some s → Rests s (known_of v.spool))
    c.self.view_is c.self.invariant.spool.rests
