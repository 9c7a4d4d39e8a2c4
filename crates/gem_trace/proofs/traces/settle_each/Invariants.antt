-- The traces up to this place are settled.

use Rattle.std.specs.Prelude.{vec_capacity}
use Rattle.gem_trace.proofs.Settling.{AreSettled}
use Rattle.gem_trace.proofs.traces.settle_each.Given as goal

abbrev pub invariant-loop-i : goal.invariant-loop-i
invariant-loop-i l = AreSettled l.now l.fn.running l.i l.running l.bodies.items (vec_capacity l.bodies)
