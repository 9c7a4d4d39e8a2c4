-- The parts so far are zeros, with one call and 16,384 bytes each, and nothing was attached.

use Rattle.std.proofs.Common.{◌≡◌, ◌*◌}
use Rattle.disk_base.specs.Faults.{IsUsed}
use Rattle.disk_base.specs.SameDisk.{IsSameDisk}
use Rattle.spool_file.specs.Added.{OnlyAdds, WritesOrSyncs}
use Rattle.spool_file.specs.Format.{ClearsTo}
use Rattle.spool_file.proofs.setup.clear_area.Given as goal

abbrev pub invariant-loop-part : goal.invariant-loop-part
invariant-loop-part g l =
    ClearsTo (g.D.Disk.told l.fn.disk) (g.D.Disk.told l.disk) l.fn.slots l.part
    × (g.D.Disk.size_is l.disk ≡ g.D.Disk.size_is l.fn.disk)
    × IsSameDisk g.D.Disk l.fn.disk l.disk
    × IsUsed (g.D.Disk.health l.fn.disk) (g.D.Disk.health l.disk) l.part (16384 * l.part)
    × OnlyAdds WritesOrSyncs (g.D.Disk.calls l.fn.disk) (g.D.Disk.calls l.disk)
