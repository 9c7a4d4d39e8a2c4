-- The law, by the lemmas of `Accepted`.

use Rattle.gem_reports.proofs.Accepted.{all_vids}
use Rattle.gem_reports.proofs.laws.reports_have_variables.Goals as goal

pub returns : goal.returns
returns c = all_vids
