-- What is left of the schedule leads, behind the lines so far, to the whole run.

use Rattle.std.proofs.Common.{drop}
use Rattle.gl_base.specs.Told.{sink_told}
use Rattle.message_end.specs.Core.{step_in}
use Rattle.end_pair.specs.Kept.{seen}
use Rattle.end_pair.specs.Run.{piece_of}
use Rattle.end_pair.specs.World.{after_events}
use Rattle.end_pair.proofs.Progress.{IsAt}
use Rattle.end_pair.proofs.running.run.Given as goal

abbrev pub invariant-events : goal.invariant-events
invariant-events g l =
    let e = g.E.End in
    let h = g.H.End in
    IsAt (piece_of e.machine h.machine (step_in (e.start l.equipment l.fn.equipment_store))
    (step_in (h.start l.host l.fn.host_store)) l.events)
    (after_events e.machine h.machine (drop l.event-index l.events) (seen e.means h.means l.world))
    l.lines l.page.bytes.items (sink_told g.W.Sink l.fn.out l.out)
