-- Some of what has come was told, and what is left leads to the whole.

use Rattle.std.proofs.Common.{◌≡◌, None, length}
use Rattle.end_run.specs.Counts.{CountsNone, counted}
use Rattle.end_run.specs.Scenes.{scene}
use Rattle.end_run.specs.Steps.{all_told}
use Rattle.end_run.proofs.Doing.{Leads}
use Rattle.end_run.proofs.live.tell_here.Given as goal

abbrev pub invariant-tellings : goal.invariant-tellings
invariant-tellings g l =
    let e = g.E.LinkedEnd in
    let n = g.N.Teller in
    e.sound l.end
    × CountsNone (counted g.L.Link g.W.Sink l.fn.link l.fn.out (e.device l.fn.end))
    (counted g.L.Link g.W.Sink l.link l.out (e.device l.end))
    × (e.known l.fn.end → Leads
    (scene g.L.Link g.W.Sink l.fn.link l.fn.out (e.means l.fn.end) (e.room l.fn.end) None)
    (scene g.L.Link g.W.Sink l.link l.out (e.means l.end) (e.room l.end) None)
    (all_told e.machine l.side l.now (n.here l.fn.told) (e.means l.fn.end))
    (all_told e.machine l.side l.now (n.here l.told) (e.means l.end)) × e.known l.end)
    × (n.to_come l.told ≡ n.to_come l.fn.told)
    × (g.L.Link.connected l.link ≡ g.L.Link.connected l.fn.link)

abbrev pub decreases-tellings : goal.decreases-tellings
decreases-tellings g l = length (g.N.Teller.here l.told)
