-- The first rows stand for no history.

use Rattle.gem_reports.proofs.Entering.{first_stands}
use Rattle.gem_reports.proofs.reports.Reports.new.Goals as goal

pub returns : goal.returns
returns c = first_stands _ _ c.args.events.now c.in_ok-events.ensures c.new-standing.ensures
