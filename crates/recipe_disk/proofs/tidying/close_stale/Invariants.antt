-- The slots so far are closed, but those that are the newest of their names; every crash leaves the recipes.
use Rattle.std.proofs.Common.{◌≡◌}
use Rattle.disk_base.specs.declared.disk.DiskAnswer.TheVariants.{Done}
use Rattle.recipe_disk.specs.Hints.{KnowsSlots}
use Rattle.recipe_disk.specs.Opening.{IsTidyCall, TidiesTo}
use Rattle.recipe_disk.specs.Reading.{HasMade}
use Rattle.recipe_disk.proofs.tidying.close_stale.Given as goal

abbrev pub invariant-loop-slot : goal.invariant-loop-slot
invariant-loop-slot g l =
    TidiesTo (g.D.Disk.told l.fn.disk) (g.D.Disk.told l.disk) l.fn.slots l.slot Done
    × HasMade IsTidyCall g.D.Disk l.fn.disk l.disk Done
    × (g.D.Disk.size_is l.disk ≡ g.D.Disk.size_is l.fn.disk)
    × KnowsSlots (g.D.Disk.told l.disk) l.fn.slots l.hints
