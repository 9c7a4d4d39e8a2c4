-- The equipment's step, and then the host's, unless the first ends the run.

use Rattle.message_end.specs.Ends.Input.{Time}
use Rattle.end_pair.specs.Kept.{IsDark, kept, seen}
use Rattle.end_pair.specs.World.{equipment_stepped, host_stepped, later}
use Rattle.end_pair.proofs.Pieces.{comes_more, comes_stop}
use Rattle.end_pair.proofs.world.World.step_both.Goals as goal

pub returns-in-Went : goal.returns-in-Went
returns-in-Went g c =
    let e = kept g.E.End.means g.E.End.anew g.E.End.machine in
    let h = kept g.H.End.means g.H.End.anew g.H.End.machine in
    comes_more (seen e.means h.means) (IsDark e h)
    (equipment_stepped e.machine h.machine Time (later c.args.milliseconds (seen e.means h.means c.args.self.now)))
    (host_stepped e.machine h.machine Time) c.step_equipment.new.self c.step_host.new.self c.args.lines.now
    c.step_equipment.new.lines c.step_host.new.lines c.step_host.result c.in-Went.ensures c.step_host.ensures

pub returns-in_default : goal.returns-in_default
returns-in_default g c =
    let e = kept g.E.End.means g.E.End.anew g.E.End.machine in
    let h = kept g.H.End.means g.H.End.anew g.H.End.machine in
    comes_stop (seen e.means h.means) (IsDark e h)
    (equipment_stepped e.machine h.machine Time (later c.args.milliseconds (seen e.means h.means c.args.self.now)))
    (host_stepped e.machine h.machine Time) c.step_equipment.new.self c.args.lines.now c.step_equipment.new.lines
    c.step_equipment.result c.in_default.not-Went c.step_equipment.ensures
