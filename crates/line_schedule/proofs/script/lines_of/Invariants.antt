-- The lines so far are those before the rest.

use Rattle.std.proofs.Common.{length}
use Rattle.line_schedule.specs.Reading.{script_reader}
use Rattle.line_schedule.specs.Script.{most_script_lines}
use Rattle.line_schedule.proofs.Telling.{IsAt}
use Rattle.line_schedule.proofs.script.lines_of.Given as goal

abbrev pub invariant-rows : goal.invariant-rows
invariant-rows l = IsAt (script_reader l.side) most_script_lines l.text l.lines l.number l.least l.rest

abbrev pub decreases-rows : goal.decreases-rows
decreases-rows l = length l.rest
