-- No slot so far breaks, and those that stand are counted; each was read once, and the disk is as it was.

use Rattle.std.proofs.Common.{◌≡◌, Some, None}
use Rattle.disk_base.specs.declared.disk.DiskAnswer.TheVariants.{Done}
use Rattle.disk_base.specs.Story.{Story}
use Rattle.disk_base.specs.SameDisk.{IsSameDisk}
use Rattle.spool_file.specs.Area.{first_at}
use Rattle.spool_file.specs.Logs.{MakesAll}
use Rattle.spool_file.specs.Reading.{HasRoom, scan_of}
use Rattle.spool_file.specs.Reads.{HasRead, start_looks}
use Rattle.spool_file.specs.Slot.{in_slot, slot_break, slot_in}
use Rattle.spool_file.proofs.slots.scan_slots.Given as goal

abbrev pub invariant-loop-slot : goal.invariant-loop-slot
invariant-loop-slot g l =
    ((s : Story) → g.D.Disk.told l.fn.disk ≡ Some s →
    (first_at (λ k. in_slot k (slot_break l.fn.frame k (slot_in s.now.bytes k))) l.slot ≡ None)
    × (l.scan ≡ scan_of l.fn.frame.floor (slot_in s.now.bytes) l.slot))
    × (g.D.Disk.told l.disk ≡ g.D.Disk.told l.fn.disk)
    × (g.D.Disk.size_is l.disk ≡ g.D.Disk.size_is l.fn.disk)
    × IsSameDisk g.D.Disk l.fn.disk l.disk
    × HasRead (g.D.Disk.health l.fn.disk) (g.D.Disk.health l.disk) (g.D.Disk.calls l.fn.disk) (g.D.Disk.calls l.disk)
    l.slot Done
    × MakesAll (g.D.Disk.health l.fn.disk) (g.D.Disk.health l.disk) (g.D.Disk.calls l.fn.disk) (g.D.Disk.calls l.disk)
    (start_looks l.slot) Done
    × HasRoom l.fn.frame.version l.slot l.scan
