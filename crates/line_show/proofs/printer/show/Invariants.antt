-- The lines of the pieces so far are put, and the receivers have met their blocks.

use Rattle.std.proofs.Common.{◌-◌, length}
use Rattle.gl_base.specs.Told.{sink_told}
use Rattle.line_show.proofs.Showing.{IsAt}
use Rattle.line_show.proofs.printer.show.Given as goal

abbrev pub invariant-pieces : goal.invariant-pieces
invariant-pieces g l = IsAt l.capture l.at l.receivers l.page.bytes.items (sink_told g.W.Sink l.fn.out l.out)

abbrev pub decreases-pieces : goal.decreases-pieces
decreases-pieces g l = length l.capture - l.at
