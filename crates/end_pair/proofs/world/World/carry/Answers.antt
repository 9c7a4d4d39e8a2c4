-- A cut plans the loss alone, and has no lines.

use Rattle.std.proofs.Common.{sym, subst}
use Rattle.line_schedule.specs.declared.event.Event.{Event}
use Rattle.end_pair.specs.declared.answers.WorldStep.TheVariants.{Went}
use Rattle.end_pair.specs.Kept.{Makes, kept, seen}
use Rattle.end_pair.specs.World.{happened}
use Rattle.end_pair.proofs.Ending.{still_comes}
use Rattle.end_pair.proofs.world.World.carry.Goals as goal

pub returns-in-Cut : goal.returns-in-Cut
returns-in-Cut g c =
    let e = kept g.E.End.means g.E.End.anew g.E.End.machine in
    let h = kept g.H.End.means g.H.End.anew g.H.End.machine in
    subst (λ (event : Event).
    Makes e h (happened e.machine h.machine event (seen e.means h.means c.args.self.now)) c.plan.new.self
    c.args.lines.now c.args.lines.now Went)
    (sym c.in-Cut.is) (still_comes e h c.plan.new.self _ c.args.lines.now c.plan.ensures)

pub returns-in-HostCut : goal.returns-in-HostCut
returns-in-HostCut g c =
    let e = kept g.E.End.means g.E.End.anew g.E.End.machine in
    let h = kept g.H.End.means g.H.End.anew g.H.End.machine in
    subst (λ (event : Event).
    Makes e h (happened e.machine h.machine event (seen e.means h.means c.args.self.now)) c.plan-in-HostCut.new.self
    c.args.lines.now c.args.lines.now Went)
    (sym c.in-HostCut.is) (still_comes e h c.plan-in-HostCut.new.self _ c.args.lines.now c.plan-in-HostCut.ensures)
