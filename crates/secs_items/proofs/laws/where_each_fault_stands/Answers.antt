-- The law, by the lemmas of `FaultPlaces`.

use Rattle.secs_items.proofs.FaultPlaces.{fault_stands, short_is, trailing_is}
use Rattle.secs_items.proofs.laws.where_each_fault_stands.Goals as goal

pub returns-clause-stands : goal.returns-clause-stands
returns-clause-stands c = fault_stands

pub returns-clause-short : goal.returns-clause-short
returns-clause-short c = short_is

pub returns-clause-trailing : goal.returns-clause-trailing
returns-clause-trailing c = trailing_is
