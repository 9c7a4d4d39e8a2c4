-- The store can be asked.
use Rattle.recipe_disk.specs.Opening.{IsReady}
use Rattle.recipe_timing.proofs.fills.Given as goal

abbrev pub invariant-loop-number : goal.invariant-loop-number
invariant-loop-number g l = IsReady g.D.Disk l.store
