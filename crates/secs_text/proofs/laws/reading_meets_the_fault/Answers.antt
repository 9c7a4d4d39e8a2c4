-- The law, by the lemmas of `FaultLaws` and `TextLaws`.

use Rattle.secs_text.proofs.FaultLaws.{met_fault}
use Rattle.secs_text.proofs.TextLaws.{no_fault}
use Rattle.secs_text.proofs.laws.reading_meets_the_fault.Goals as goal

pub returns-clause-fault : goal.returns-clause-fault
returns-clause-fault c = met_fault

pub returns-clause-none : goal.returns-clause-none
returns-clause-none c = no_fault
