-- The cell was read, and the spool is as it was.

use Rattle.spool_slots.proofs.Looking.{looked_on}
use Rattle.spool_slots.proofs.spool.Spool.area_cell.Goals as goal

pub invariant_of-self : goal.invariant_of-self
invariant_of-self g c =
    looked_on g.D.Disk c.self.inside.disk c.read_at.new.disk c.self.inside.known c.self.invariant c.read_at.ensures.told
    c.read_at.ensures.row.made.size
