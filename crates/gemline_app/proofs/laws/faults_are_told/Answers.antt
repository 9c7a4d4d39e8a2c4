-- The law, by the lemmas of `FaultsTold`.

use Rattle.gemline_app.proofs.FaultsTold.{faults_told}
use Rattle.gemline_app.proofs.laws.faults_are_told.Goals as goal

pub returns : goal.returns
returns c = faults_told
