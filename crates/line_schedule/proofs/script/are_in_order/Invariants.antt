-- The lines that are left are in order behind those so far exactly where all are.

use Rattle.std.proofs.Common.{◌≡◌, length}
use Rattle.line_schedule.specs.Script.{are_in_order}
use Rattle.line_schedule.proofs.script.are_in_order.Given as goal

abbrev pub invariant-rows : goal.invariant-rows
invariant-rows l = are_in_order l.least l.rest ≡ are_in_order 0 l.lines

abbrev pub decreases-rows : goal.decreases-rows
decreases-rows l = length l.rest
