-- No slot so far is ahead; each was read once, and the disk is as it was.

use Rattle.std.proofs.Common.{◌≡◌, Some, None}
use Rattle.disk_base.specs.declared.disk.DiskAnswer.TheVariants.{Done}
use Rattle.disk_base.specs.Story.{Story}
use Rattle.disk_base.specs.SameDisk.{IsSameDisk}
use Rattle.spool_file.specs.Area.{first_at}
use Rattle.spool_file.specs.Reads.{HasRead}
use Rattle.spool_file.specs.Breaks.{ahead_break}
use Rattle.spool_file.specs.Slot.{in_slot, slot_in}
use Rattle.spool_file.proofs.slots.check_slots.Given as goal

abbrev pub invariant-loop-slot : goal.invariant-loop-slot
invariant-loop-slot g l =
    ((s : Story) → g.D.Disk.told l.fn.disk ≡ Some s →
    first_at (λ k. in_slot k (ahead_break l.fn.floor l.fn.end (slot_in s.now.bytes k))) l.slot ≡ None)
    × (g.D.Disk.told l.disk ≡ g.D.Disk.told l.fn.disk)
    × (g.D.Disk.size_is l.disk ≡ g.D.Disk.size_is l.fn.disk)
    × IsSameDisk g.D.Disk l.fn.disk l.disk
    × HasRead (g.D.Disk.health l.fn.disk) (g.D.Disk.health l.disk) (g.D.Disk.calls l.fn.disk) (g.D.Disk.calls l.disk)
    l.slot Done
