-- So many are off so far.
use Rattle.spool_drop.proofs.Drops.{SoFar}
use Rattle.spool_drop.proofs.dropping.drop_first.Given as goal

abbrev pub invariant-loop-off : goal.invariant-loop-off
invariant-loop-off g l = SoFar g.D.Disk l.fn.spool l.spool l._off
