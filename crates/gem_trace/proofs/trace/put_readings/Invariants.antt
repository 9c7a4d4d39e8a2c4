-- The values so far stand behind the others.

use Rattle.std.proofs.Common.{◌≡◌, ◌++◌, take}
use Rattle.gem_trace.specs.Traces.{readings}
use Rattle.gem_trace.proofs.trace.put_readings.Given as goal

abbrev pub invariant-loop-svid : goal.invariant-loop-svid
invariant-loop-svid l = l.values ≡ l.fn.values ++ readings l.vars (take l.svid-index l.svids)
