-- Some polls were made, and those that are left lead to the whole.

use Rattle.std.proofs.Common.{◌≡◌, ◌≤◌, None, length}
use Rattle.end_run.specs.Calls.{left_of}
use Rattle.end_run.specs.Counts.{CountsNone, counted}
use Rattle.end_run.specs.Run.{polled}
use Rattle.end_run.specs.Scenes.{scene}
use Rattle.end_run.specs.Script.{by_script}
use Rattle.end_run.proofs.Polling.{IsPolled, polls}
use Rattle.end_run.proofs.polls.poll_all.Given as goal

abbrev pub invariant-polls : goal.invariant-polls
invariant-polls g l =
    let e = g.E.LinkedEnd in
    (e.known l.fn.end → IsPolled e.machine e.due (by_script e.told) l.side
    (scene g.L.Link g.W.Sink l.fn.link l.fn.out (e.means l.fn.end) (e.room l.fn.end) None)
    (scene g.L.Link g.W.Sink l.link l.out (e.means l.end) (e.room l.end) None)
    (λ answers. polled e.machine e.due (by_script e.told) l.side l.polls l.lines 0 answers (e.means l.fn.end))
    (polls e.machine e.due (by_script e.told) l.side l.left (left_of (e.means l.end) l.lines l.place)) × e.known l.end)
    × CountsNone (counted g.L.Link g.W.Sink l.fn.link l.fn.out (e.device l.fn.end))
    (counted g.L.Link g.W.Sink l.link l.out (e.device l.end))
    × e.sound l.end × (l.place.given ≤ length l.lines)
    × (g.L.Link.connected l.link ≡ g.L.Link.connected l.fn.link)

abbrev pub decreases-polls : goal.decreases-polls
decreases-polls g l = l.left
