-- A start anew, and then a step at the same moment, unless the start ends the run.

use Rattle.std.proofs.Common.{◌≡◌, ◌+◌, ℕ, ap, arith, subst, sym}
use Rattle.gl_base.specs.declared.side.Side.{Side}
use Rattle.message_end.specs.Ends.Input.{Time}
use Rattle.end_pair.specs.Kept.{IsDark, Makes, kept, seen}
use Rattle.end_pair.specs.World.{World, again, equipment_stepped, later, timed}
use Rattle.end_pair.proofs.Pieces.{comes_more, comes_stop}
use Rattle.end_pair.proofs.world.World.start_over.Goals as goal

pub returns-in_default : goal.returns-in_default
returns-in_default g c = λ left dark.
    let e = kept g.E.End.means g.E.End.anew g.E.End.machine in
    let h = kept g.H.End.means g.H.End.anew g.H.End.machine in
    comes_stop (seen e.means h.means) (IsDark e h) (again e.machine h.machine c.args.side left)
    (timed e.machine h.machine c.args.side) c.start_anew.new.self c.args.lines.now c.start_anew.new.lines
    c.start_anew.result c.in_default.not-Went (c.start_anew.ensures left dark)

pub returns-in-Equipment : goal.returns-in-Equipment
returns-in-Equipment g c = λ left dark.
    let e = kept g.E.End.means g.E.End.anew g.E.End.machine in
    let h = kept g.H.End.means g.H.End.anew g.H.End.machine in
    let now : World g.E.End.State g.H.End.State = seen e.means h.means c.start_anew.new.self in
    let zero_more : now.moment + 0 ≡ now.moment = omega arith in
    let same : later 0 now ≡ now = ap (λ (m : ℕ). record now { moment = m }) zero_more in
    comes_more (seen e.means h.means) (IsDark e h) (again e.machine h.machine c.args.side left)
    (timed e.machine h.machine c.args.side) c.start_anew.new.self c.step_equipment.new.self c.args.lines.now
    c.start_anew.new.lines c.step_equipment.new.lines c.step_equipment.result (c.in-Went.ensures left dark)
    (subst (λ (side : Side).
    Makes e h (timed e.machine h.machine side now) c.step_equipment.new.self c.start_anew.new.lines
    c.step_equipment.new.lines c.step_equipment.result) (sym c.in-Equipment.is)
    (subst (λ (w : World g.E.End.State g.H.End.State).
    Makes e h (equipment_stepped e.machine h.machine Time w) c.step_equipment.new.self c.start_anew.new.lines
    c.step_equipment.new.lines c.step_equipment.result) same c.step_equipment.ensures))

pub returns-in-Host : goal.returns-in-Host
returns-in-Host g c = λ left dark.
    let e = kept g.E.End.means g.E.End.anew g.E.End.machine in
    let h = kept g.H.End.means g.H.End.anew g.H.End.machine in
    let now : World g.E.End.State g.H.End.State = seen e.means h.means c.start_anew.new.self in
    comes_more (seen e.means h.means) (IsDark e h) (again e.machine h.machine c.args.side left)
    (timed e.machine h.machine c.args.side) c.start_anew.new.self c.step_host.new.self c.args.lines.now
    c.start_anew.new.lines c.step_host.new.lines c.step_host.result (c.in-Went.ensures left dark)
    (subst (λ (side : Side).
    Makes e h (timed e.machine h.machine side now) c.step_host.new.self c.start_anew.new.lines c.step_host.new.lines
    c.step_host.result) (sym c.in-Host.is) c.step_host.ensures)
