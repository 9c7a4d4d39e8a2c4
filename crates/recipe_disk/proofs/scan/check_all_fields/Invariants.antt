-- The fields of no slot so far break, and their hints are taken down; the disk is as it was.
use Rattle.std.proofs.Common.{◌≡◌, None, Some, length}
use Rattle.disk_base.specs.Story.{Story}
use Rattle.disk_base.specs.declared.disk.DiskAnswer.TheVariants.{Done}
use Rattle.spool_file.specs.Area.{first_at}
use Rattle.recipe_disk.specs.File.{fields_at}
use Rattle.recipe_disk.specs.Hints.{KnowsSlots}
use Rattle.recipe_disk.specs.Reading.{HasLooked}
use Rattle.recipe_disk.specs.Slot.{slot_in}
use Rattle.recipe_disk.proofs.scan.check_all_fields.Given as goal

abbrev pub invariant-loop-slot : goal.invariant-loop-slot
invariant-loop-slot g l =
    ((s : Story) → g.D.Disk.told l.fn.disk ≡ Some s → first_at (fields_at (slot_in s.now.bytes)) l.slot ≡ None)
    × HasLooked g.D.Disk l.fn.disk l.disk Done
    × (g.D.Disk.size_is l.disk ≡ g.D.Disk.size_is l.fn.disk)
    × KnowsSlots (g.D.Disk.told l.fn.disk) l.slot l.hints
    × (length l.hints ≡ 4096)
