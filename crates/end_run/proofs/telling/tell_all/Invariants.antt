-- The lines so far were given, and those that are left lead to the whole.

use Rattle.std.proofs.Common.{◌≡◌, None, drop}
use Rattle.end_run.specs.Counts.{CountsNone, counted}
use Rattle.end_run.specs.Scenes.{scene}
use Rattle.end_run.specs.Script.{told_by}
use Rattle.end_run.specs.Steps.{all_told}
use Rattle.end_run.proofs.Doing.{Leads}
use Rattle.end_run.proofs.telling.tell_all.Given as goal

abbrev pub invariant-lines : goal.invariant-lines
invariant-lines g l =
    let e = g.E.LinkedEnd in
    e.sound l.end
    × CountsNone (counted g.L.Link g.W.Sink l.fn.link l.fn.out (e.device l.fn.end))
    (counted g.L.Link g.W.Sink l.link l.out (e.device l.end))
    × (e.known l.fn.end → Leads
    (scene g.L.Link g.W.Sink l.fn.link l.fn.out (e.means l.fn.end) (e.room l.fn.end) None)
    (scene g.L.Link g.W.Sink l.link l.out (e.means l.end) (e.room l.end) None)
    (all_told e.machine l.side l.now (told_by e.told l.lines) (e.means l.fn.end))
    (all_told e.machine l.side l.now (told_by e.told (drop l.line-index l.lines)) (e.means l.end)) × e.known l.end)
    × (g.L.Link.connected l.link ≡ g.L.Link.connected l.fn.link)
