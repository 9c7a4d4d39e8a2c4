-- The store can be asked.
use Rattle.recipe_disk.specs.Opening.{IsReady}
use Rattle.recipe_timing.proofs.clears.Given as goal

abbrev pub invariant-loop-name : goal.invariant-loop-name
invariant-loop-name g l = IsReady g.D.Disk l.store
