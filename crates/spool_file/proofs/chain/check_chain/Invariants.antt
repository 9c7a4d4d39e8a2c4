-- The window is that of this place, and no slot whose turn has been is alone; each was read, and the disk is as it was.

use Rattle.std.proofs.Common.{◌≡◌, ◌-◌, Some, None}
use Rattle.disk_base.specs.declared.disk.DiskAnswer.TheVariants.{Done}
use Rattle.disk_base.specs.Story.{Story}
use Rattle.disk_base.specs.SameDisk.{IsSameDisk}
use Rattle.spool_file.specs.Area.{first_at}
use Rattle.spool_file.specs.Logs.{MakesAll}
use Rattle.spool_file.specs.Reads.{HasRead, look_back, looks_at, slot_behind}
use Rattle.spool_file.specs.Slot.{slot_in}
use Rattle.spool_file.proofs.Windows.{IsWindow, lone}
use Rattle.spool_file.proofs.chain.check_chain.Given as goal

abbrev pub invariant-loop-place : goal.invariant-loop-place
invariant-loop-place g l =
    ((s : Story) → g.D.Disk.told l.fn.disk ≡ Some s →
    IsWindow l.fn.frame (slot_in s.now.bytes) l.window l.place
    × (first_at (lone l.fn.frame (slot_in s.now.bytes) l.fn.least) (l.place - look_back l.fn.frame.slots) ≡ None))
    × (g.D.Disk.told l.disk ≡ g.D.Disk.told l.fn.disk)
    × (g.D.Disk.size_is l.disk ≡ g.D.Disk.size_is l.fn.disk)
    × IsSameDisk g.D.Disk l.fn.disk l.disk
    × HasRead (g.D.Disk.health l.fn.disk) (g.D.Disk.health l.disk) (g.D.Disk.calls l.fn.disk) (g.D.Disk.calls l.disk)
    l.place Done
    × MakesAll (g.D.Disk.health l.fn.disk) (g.D.Disk.health l.disk) (g.D.Disk.calls l.fn.disk) (g.D.Disk.calls l.disk)
    (looks_at (slot_behind l.fn.frame.slots) l.place) Done
