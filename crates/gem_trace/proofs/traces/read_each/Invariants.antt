-- The traces up to this place are read.

use Rattle.std.proofs.Common.{◌≡◌, ◌++◌, drop, map, take}
use Rattle.gem_trace.specs.Kept.{with_reading}
use Rattle.gem_trace.proofs.traces.read_each.Given as goal

abbrev pub invariant-loop-i : goal.invariant-loop-i
invariant-loop-i l = l.running ≡ map (with_reading l.vars l.now) (take l.i l.fn.running) ++ drop l.i l.fn.running
