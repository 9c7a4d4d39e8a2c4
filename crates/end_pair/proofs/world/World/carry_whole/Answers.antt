-- The event ends by itself, or an end's power goes in it, where a call was planned still.

use Rattle.std.proofs.Common.{None, inl, refl}
use Rattle.end_pair.specs.Kept.{IsDark, kept, seen}
use Rattle.end_pair.specs.World.{happened}
use Rattle.end_pair.proofs.Anew.{comes_ended}
use Rattle.end_pair.proofs.Ending.{ends_lost}
use Rattle.end_pair.proofs.world.World.carry_whole.Goals as goal

pub returns-in-PowerLost : goal.returns-in-PowerLost
returns-in-PowerLost g c =
    let e = kept g.E.End.means g.E.End.anew g.E.End.machine in
    let h = kept g.H.End.means g.H.End.anew g.H.End.machine in
    ends_lost e h None c.in-PowerLost.lost
    (happened e.machine h.machine c.args.event.now (seen e.means h.means c.args.self.now)) c.carry.new.self
    c.start_over.new.self c.args.lines.now c.carry.new.lines c.start_over.new.lines c.start_over.result
    c.in-PowerLost.ensures c.start_over.ensures

pub returns-in_default : goal.returns-in_default
returns-in_default g c =
    let e = kept g.E.End.means g.E.End.anew g.E.End.machine in
    let h = kept g.H.End.means g.H.End.anew g.H.End.machine in
    comes_ended (seen e.means h.means) (IsDark e h) e.machine h.machine None
    (happened e.machine h.machine c.args.event.now (seen e.means h.means c.args.self.now)) c.carry.new.self
    c.args.lines.now c.carry.new.lines c.carry.result c.in_default.not-PowerLost (inl refl) c.carry.ensures
