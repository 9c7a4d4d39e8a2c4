-- Whatever comes of the rounds that are left comes of all.

use Rattle.end_pair.specs.Kept.{seen}
use Rattle.end_pair.specs.World.{Piece, after_events}
use Rattle.line_world.specs.Make.{make_events, numbers_behind, rounds_of}
use Rattle.line_world.specs.Making.{Leads}
use Rattle.line_world.specs.declared.counting.Counts.{Counts}
use Rattle.line_world.proofs.making.Making.carry_rounds.Given as goal

abbrev pub invariant-rounds : goal.invariant-rounds
invariant-rounds g l =
    let e = g.E.End in
    let h = g.H.End in
    (whole : Piece e.State h.State) (before : Counts)
    → Leads (after_events e.machine h.machine (make_events l.rounds) (seen e.means h.means l.fn.self.world))
    l.fn.self.counts whole before
    → Leads
    (after_events e.machine h.machine (rounds_of (numbers_behind l.left l.x)) (seen e.means h.means l.self.world))
    l.self.counts whole before

abbrev pub decreases-rounds : goal.decreases-rounds
decreases-rounds g l = l.left
