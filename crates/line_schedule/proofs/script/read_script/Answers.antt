-- What is promised of a script, from what the loop over its lines has found.

use Rattle.line_schedule.proofs.ScriptLaws.{fits, found, line_named, only, outside_refused}
use Rattle.line_schedule.proofs.script.read_script.Goals as goal

pub returns-clause-found : goal.returns-clause-found
returns-clause-found c = found c.args.side c.args.text.now c.lines_of.result c.lines_of.ensures

pub returns-clause-fits : goal.returns-clause-fits
returns-clause-fits c = fits c.args.side c.args.text.now c.lines_of.result c.lines_of.ensures

pub returns-clause-only : goal.returns-clause-only
returns-clause-only c = only c.args.side c.args.text.now c.lines_of.result c.lines_of.ensures

pub returns-clause-line : goal.returns-clause-line
returns-clause-line c = line_named c.args.side c.args.text.now c.lines_of.result c.lines_of.ensures

pub returns-clause-outside : goal.returns-clause-outside
returns-clause-outside c = outside_refused c.args.side c.args.text.now c.lines_of.result c.lines_of.ensures
