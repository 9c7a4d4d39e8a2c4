-- The law, from the one that each end keeps.

use Rattle.message_end.proofs.Fronts.{stops-lawful}
use Rattle.message_end.proofs.laws.stops_are_lawful.Goals as goal

pub returns : goal.returns
returns g c =
    let e = g.E.End in
    λ plan store fits holds.
    stops-lawful (e.plan_of plan) (e.did plan) e.takes (e.start plan store) e.machine
    (g.met.E.End.lawful plan store fits holds)
