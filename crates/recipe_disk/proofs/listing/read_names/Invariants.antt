-- The names of the slots so far, in any order; the disk is as it was.
use Rattle.std.proofs.Common.{◌≡◌, All, Some}
use Rattle.std.specs.List.Sorted.{IsPermutation}
use Rattle.disk_base.specs.Story.{Story}
use Rattle.disk_base.specs.declared.disk.DiskAnswer.TheVariants.{Done}
use Rattle.gem_recipes.specs.Recipes.{IsPpid, names_of}
use Rattle.recipe_disk.specs.Map.{recipes_below}
use Rattle.recipe_disk.specs.Reading.{HasLooked}
use Rattle.recipe_disk.specs.Slot.{slot_in}
use Rattle.recipe_disk.proofs.listing.read_names.Given as goal

abbrev pub invariant-loop-slot : goal.invariant-loop-slot
invariant-loop-slot g l =
    ((s : Story) → g.D.Disk.told l.fn.disk ≡ Some s → IsPermutation l.names.items (names_of (recipes_below (slot_in s.now.bytes) l.slot)))
    × HasLooked g.D.Disk l.fn.disk l.disk Done
    × (g.D.Disk.size_is l.disk ≡ g.D.Disk.size_is l.fn.disk)
    × All IsPpid l.names.items
