-- The events so far are those of the lines before the rest.

use Rattle.std.proofs.Common.{length}
use Rattle.line_schedule.specs.Reading.{schedule_reader}
use Rattle.line_schedule.specs.Schedule.{most_lines}
use Rattle.line_schedule.proofs.Telling.{IsAt}
use Rattle.line_schedule.proofs.schedule.read_lines.Given as goal

abbrev pub invariant-lines : goal.invariant-lines
invariant-lines l = IsAt (schedule_reader l.host_loses) most_lines l.text l.events l.number 0 l.rest

abbrev pub decreases-lines : goal.decreases-lines
decreases-lines l = length l.rest
