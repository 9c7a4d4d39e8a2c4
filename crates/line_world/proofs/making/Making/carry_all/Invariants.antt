-- Whatever comes of the events that are left and of those behind comes of all.

use Rattle.std.proofs.Common.{◌++◌, List, drop}
use Rattle.end_pair.specs.Kept.{seen}
use Rattle.end_pair.specs.World.{Piece, after_events}
use Rattle.line_schedule.specs.declared.event.Event.{Event}
use Rattle.line_world.specs.Making.{Leads}
use Rattle.line_world.specs.declared.counting.Counts.{Counts}
use Rattle.line_world.proofs.making.Making.carry_all.Given as goal

abbrev pub invariant-events : goal.invariant-events
invariant-events g l =
    let e = g.E.End in
    let h = g.H.End in
    (rest : List Event) (whole : Piece e.State h.State) (before : Counts)
    → Leads (after_events e.machine h.machine (l.events ++ rest) (seen e.means h.means l.fn.self.world))
    l.fn.self.counts whole before
    → Leads
    (after_events e.machine h.machine (drop l.event-index l.events ++ rest) (seen e.means h.means l.self.world))
    l.self.counts whole before
