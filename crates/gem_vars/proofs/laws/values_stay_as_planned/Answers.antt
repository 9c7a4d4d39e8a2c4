-- The law, by the lemmas of `Accepted`.

use Rattle.gem_vars.proofs.Accepted.{constant_as_planned, value_as_planned}
use Rattle.gem_vars.proofs.laws.values_stay_as_planned.Goals as goal

pub returns : goal.returns
returns c = record { variable = value_as_planned; constant = constant_as_planned }
