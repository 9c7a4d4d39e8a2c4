-- None of the slots so far is such a one; the disk is as it was.
use Rattle.std.proofs.Common.{◌≡◌, None, Some}
use Rattle.disk_base.specs.Story.{Story}
use Rattle.disk_base.specs.declared.disk.DiskAnswer.TheVariants.{Done}
use Rattle.recipe_disk.specs.Hints.{first_there}
use Rattle.recipe_disk.specs.Reading.{HasLooked}
use Rattle.recipe_disk.proofs.sought.first_sought.Given as goal

abbrev pub invariant-loop-slot : goal.invariant-loop-slot
invariant-loop-slot g l =
    ((s : Story) → g.D.Disk.told l.fn.disk ≡ Some s → first_there l.fn.sought s.now.bytes l.slot ≡ None)
    × HasLooked g.D.Disk l.fn.disk l.disk Done
    × (g.D.Disk.size_is l.disk ≡ g.D.Disk.size_is l.fn.disk)
