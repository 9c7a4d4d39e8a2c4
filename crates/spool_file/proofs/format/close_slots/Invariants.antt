-- The slots so far are closed, with one call and one byte each, and nothing was attached.

use Rattle.std.proofs.Common.{◌≡◌}
use Rattle.disk_base.specs.Faults.{IsUsed}
use Rattle.disk_base.specs.SameDisk.{IsSameDisk}
use Rattle.spool_file.specs.Added.{OnlyAdds, WritesOrSyncs}
use Rattle.spool_file.specs.Format.{ClosesTo}
use Rattle.spool_file.proofs.format.close_slots.Given as goal

abbrev pub invariant-loop-slot : goal.invariant-loop-slot
invariant-loop-slot g l =
    ClosesTo (g.D.Disk.told l.fn.disk) (g.D.Disk.told l.disk) l.slot
    × (g.D.Disk.size_is l.disk ≡ g.D.Disk.size_is l.fn.disk)
    × IsSameDisk g.D.Disk l.fn.disk l.disk
    × IsUsed (g.D.Disk.health l.fn.disk) (g.D.Disk.health l.disk) l.slot l.slot
    × OnlyAdds WritesOrSyncs (g.D.Disk.calls l.fn.disk) (g.D.Disk.calls l.disk)
