-- Some polls were made, and those that are left lead to the whole, whatever comes.

use Rattle.std.proofs.Common.{◌≡◌, None}
use Rattle.end_run.specs.Commands.{as_it_comes}
use Rattle.end_run.specs.Counts.{CountsNone, counted}
use Rattle.end_run.specs.Run.{polled}
use Rattle.end_run.specs.Scenes.{scene}
use Rattle.end_run.proofs.Beside.{IsToldSo}
use Rattle.end_run.proofs.live.poll_told.Given as goal

abbrev pub invariant-polls : goal.invariant-polls
invariant-polls g l =
    let e = g.E.LinkedEnd in
    let n = g.N.Teller in
    (e.known l.fn.end → IsToldSo e.machine e.due l.side (n.to_come l.fn.told)
    (λ coming answers. polled e.machine e.due as_it_comes l.side l.polls coming 0 answers (e.means l.fn.end))
    (scene g.L.Link g.W.Sink l.fn.link l.fn.out (e.means l.fn.end) (e.room l.fn.end) None)
    (scene g.L.Link g.W.Sink l.link l.out (e.means l.end) (e.room l.end) None)
    (n.to_come l.told) l.left (e.means l.end) l.moment × e.known l.end)
    × CountsNone (counted g.L.Link g.W.Sink l.fn.link l.fn.out (e.device l.fn.end))
    (counted g.L.Link g.W.Sink l.link l.out (e.device l.end))
    × e.sound l.end
    × (g.L.Link.connected l.link ≡ g.L.Link.connected l.fn.link)

abbrev pub decreases-polls : goal.decreases-polls
decreases-polls g l = l.left
