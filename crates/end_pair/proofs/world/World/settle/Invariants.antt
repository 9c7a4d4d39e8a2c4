-- Settling what is left leads where settling all does.

use Rattle.end_pair.specs.Kept.{IsDark, kept, seen}
use Rattle.end_pair.specs.World.{settled_times}
use Rattle.end_pair.proofs.Pieces.{Leads}
use Rattle.end_pair.proofs.world.World.settle.Given as goal

abbrev pub invariant-characters : goal.invariant-characters
invariant-characters g l =
    let e = kept g.E.End.means g.E.End.anew g.E.End.machine in
    let h = kept g.H.End.means g.H.End.anew g.H.End.machine in
    Leads (seen e.means h.means) (IsDark e h)
    (settled_times e.machine h.machine l.left (seen e.means h.means l.self)) l.lines
    (settled_times e.machine h.machine l.n (seen e.means h.means l.fn.self)) l.fn.lines

abbrev pub decreases-characters : goal.decreases-characters
decreases-characters g l = l.left
