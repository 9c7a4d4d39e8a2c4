-- The bytes so far were written.

use Rattle.std.proofs.Common.{◌≤◌, ◌-◌, length, take}
use Rattle.gl_base.specs.Sending.{WroteText}
use Rattle.gl_base.specs.Told.{sink_told}
use Rattle.gl_base.proofs.copying.copy_out.Given as goal

abbrev pub invariant-loop-at : goal.invariant-loop-at
invariant-loop-at g l = (l.at ≤ length l.bytes) × WroteText (sink_told g.W.Sink l.fn.out l.out) (take l.at l.bytes)

abbrev pub decreases-loop-at : goal.decreases-loop-at
decreases-loop-at g l = length l.bytes - l.at
