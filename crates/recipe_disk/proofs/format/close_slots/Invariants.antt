-- The slots so far are closed.
use Rattle.std.proofs.Common.{◌≡◌}
use Rattle.disk_base.specs.declared.disk.DiskAnswer.TheVariants.{Done}
use Rattle.spool_file.specs.Added.{WritesOrSyncs}
use Rattle.recipe_disk.specs.Opening.{ClosesTo}
use Rattle.recipe_disk.specs.Reading.{HasMade}
use Rattle.recipe_disk.proofs.format.close_slots.Given as goal

abbrev pub invariant-loop-slot : goal.invariant-loop-slot
invariant-loop-slot g l =
    ClosesTo (g.D.Disk.told l.fn.disk) (g.D.Disk.told l.disk) l.slot
    × HasMade WritesOrSyncs g.D.Disk l.fn.disk l.disk Done
    × (g.D.Disk.size_is l.disk ≡ g.D.Disk.size_is l.fn.disk)
