-- What is promised of a schedule, from what the loop over its lines has found.

use Rattle.line_schedule.proofs.ScheduleLaws.{fits, found, line_named, only, outside_refused}
use Rattle.line_schedule.proofs.schedule.events_of.Goals as goal

pub returns-clause-found : goal.returns-clause-found
returns-clause-found c = found c.args.host_loses c.args.text.now c.read_lines.result c.read_lines.ensures

pub returns-clause-fits : goal.returns-clause-fits
returns-clause-fits c = fits c.args.host_loses c.args.text.now c.read_lines.result c.read_lines.ensures

pub returns-clause-only : goal.returns-clause-only
returns-clause-only c = only c.args.host_loses c.args.text.now c.read_lines.result c.read_lines.ensures

pub returns-clause-line : goal.returns-clause-line
returns-clause-line c = line_named c.args.host_loses c.args.text.now c.read_lines.result c.read_lines.ensures

pub returns-clause-outside : goal.returns-clause-outside
returns-clause-outside c = outside_refused c.args.host_loses c.args.text.now c.read_lines.result c.read_lines.ensures
