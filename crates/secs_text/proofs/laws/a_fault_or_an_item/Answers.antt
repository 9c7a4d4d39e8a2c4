-- The law, by the lemmas of `FaultLaws` and `FaultPlaces`.

use Rattle.secs_text.proofs.FaultLaws.{fault_or_item, no_fault_read}
use Rattle.secs_text.proofs.FaultPlaces.{one_fault}
use Rattle.secs_text.proofs.laws.a_fault_or_an_item.Goals as goal

pub returns-clause-either : goal.returns-clause-either
returns-clause-either c = fault_or_item

pub returns-clause-alone : goal.returns-clause-alone
returns-clause-alone c = no_fault_read

pub returns-clause-once : goal.returns-clause-once
returns-clause-once c = one_fault
