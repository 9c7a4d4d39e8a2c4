-- The disk is as it was.
use Rattle.std.proofs.Common.{◌≡◌}
use Rattle.disk_base.specs.declared.disk.DiskAnswer.TheVariants.{Done}
use Rattle.recipe_disk.specs.Reading.{HasLooked}
use Rattle.recipe_disk.proofs.sought.one_sought.Given as goal

abbrev pub invariant-loop-place : goal.invariant-loop-place
invariant-loop-place g l =
    HasLooked g.D.Disk l.fn.disk l.disk Done × (g.D.Disk.size_is l.disk ≡ g.D.Disk.size_is l.fn.disk)
