-- The store can be asked.
use Rattle.recipe_disk.specs.Opening.{IsReady}
use Rattle.recipe_timing.proofs.puts_all.Given as goal

abbrev pub invariant-loop-turn : goal.invariant-loop-turn
invariant-loop-turn g l = IsReady g.D.Disk l.store
