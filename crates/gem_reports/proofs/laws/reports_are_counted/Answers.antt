-- The law, by the lemmas of `Counted`.

use Rattle.gem_reports.proofs.Counted.{counted}
use Rattle.gem_reports.proofs.laws.reports_are_counted.Goals as goal

pub returns : goal.returns
returns c = counted
