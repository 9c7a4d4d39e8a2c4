-- The lines so far are counted, and with those that are left all are.

use Rattle.std.proofs.Common.{◌≡◌, length}
use Rattle.line_schedule.specs.Lines.{lines_of}
use Rattle.line_world.specs.Counting.{with_lines}
use Rattle.line_world.proofs.counting.count_lines.Given as goal

abbrev pub invariant-lines : goal.invariant-lines
invariant-lines l = with_lines l.counted (lines_of l.rest) ≡ with_lines l.fn.counts (lines_of l.text)

abbrev pub decreases-lines : goal.decreases-lines
decreases-lines l = length l.rest
