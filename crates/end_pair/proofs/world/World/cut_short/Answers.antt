-- The power goes at the event's end or within it, or something else ends the run before.

use Rattle.std.proofs.Common.{Some, inr}
use Rattle.end_pair.specs.Kept.{IsDark, kept, seen}
use Rattle.end_pair.specs.declared.answers.WorldStep.TheVariants.{PowerLost, Went}
use Rattle.end_pair.proofs.Anew.{comes_ended}
use Rattle.end_pair.proofs.Ending.{ends_cut, ends_lost, planned_at, planned_comes}
use Rattle.end_pair.proofs.world.World.cut_short.Goals as goal

pub returns-in-Went : goal.returns-in-Went
returns-in-Went g c =
    let e = kept g.E.End.means g.E.End.anew g.E.End.machine in
    let h = kept g.H.End.means g.H.End.anew g.H.End.machine in
    ends_cut e h c.args.side
    (planned_at e h c.args.side c.args.call c.args.event.now (seen e.means h.means c.args.self.now))
    c.carry.new.self c.disarm.new.self c.start_over.new.self c.args.lines.now c.carry.new.lines c.start_over.new.lines
    c.start_over.result
    (planned_comes e h c.args.side c.args.call c.args.event.now c.args.self.now c.arm.new.self c.carry.new.self
    c.args.lines.now c.carry.new.lines Went c.arm.ensures c.in-Went.ensures)
    c.disarm.ensures c.start_over.ensures

pub returns-in-PowerLost : goal.returns-in-PowerLost
returns-in-PowerLost g c =
    let e = kept g.E.End.means g.E.End.anew g.E.End.machine in
    let h = kept g.H.End.means g.H.End.anew g.H.End.machine in
    ends_lost e h (Some c.args.side) c.in-PowerLost.lost
    (planned_at e h c.args.side c.args.call c.args.event.now (seen e.means h.means c.args.self.now))
    c.carry.new.self c.start_over-in-PowerLost.new.self c.args.lines.now c.carry.new.lines
    c.start_over-in-PowerLost.new.lines c.start_over-in-PowerLost.result
    (planned_comes e h c.args.side c.args.call c.args.event.now c.args.self.now c.arm.new.self c.carry.new.self
    c.args.lines.now c.carry.new.lines (PowerLost c.in-PowerLost.lost) c.arm.ensures c.in-PowerLost.ensures)
    c.start_over-in-PowerLost.ensures

pub returns-in_default : goal.returns-in_default
returns-in_default g c =
    let e = kept g.E.End.means g.E.End.anew g.E.End.machine in
    let h = kept g.H.End.means g.H.End.anew g.H.End.machine in
    comes_ended (seen e.means h.means) (IsDark e h) e.machine h.machine (Some c.args.side)
    (planned_at e h c.args.side c.args.call c.args.event.now (seen e.means h.means c.args.self.now))
    c.carry.new.self c.args.lines.now c.carry.new.lines c.carry.result c.in_default.not-PowerLost
    (inr c.in_default.not-Went)
    (planned_comes e h c.args.side c.args.call c.args.event.now c.args.self.now c.arm.new.self c.carry.new.self
    c.args.lines.now c.carry.new.lines c.carry.result c.arm.ensures c.carry.ensures)
