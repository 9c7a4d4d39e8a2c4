-- No slot so far has the number of an earlier one, and the names are counted; the disk is as it was.
use Rattle.std.proofs.Common.{◌≡◌, ◌≤◌, None, Some}
use Rattle.std.specs.FinMap.{len}
use Rattle.disk_base.specs.Story.{Story}
use Rattle.disk_base.specs.declared.disk.DiskAnswer.TheVariants.{Done}
use Rattle.spool_file.specs.Area.{first_at}
use Rattle.recipe_disk.specs.File.{number_at}
use Rattle.recipe_disk.specs.Map.{recipes_below}
use Rattle.recipe_disk.specs.Reading.{HasLooked}
use Rattle.recipe_disk.specs.Slot.{slot_in}
use Rattle.recipe_disk.proofs.scan.count_names.Given as goal

abbrev pub invariant-loop-slot : goal.invariant-loop-slot
invariant-loop-slot g l =
    ((s : Story) → g.D.Disk.told l.fn.disk ≡ Some s →
    (first_at (number_at (slot_in s.now.bytes)) l.slot ≡ None) × (l.names ≡ len (recipes_below (slot_in s.now.bytes) l.slot)))
    × HasLooked g.D.Disk l.fn.disk l.disk Done
    × (g.D.Disk.size_is l.disk ≡ g.D.Disk.size_is l.fn.disk)
    × (l.names ≤ l.slot)
