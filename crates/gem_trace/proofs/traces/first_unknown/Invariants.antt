-- The variables that are left decide.

use Rattle.std.proofs.Common.{◌≡◌, drop}
use Rattle.gem_trace.specs.Settings.{first_unknown}
use Rattle.gem_trace.proofs.traces.first_unknown.Given as goal

abbrev pub invariant-loop-svid : goal.invariant-loop-svid
invariant-loop-svid l =
    first_unknown l.vars (drop l.svid-index l.svids) ≡ first_unknown l.vars l.svids
