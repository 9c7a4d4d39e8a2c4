-- The line is emptied and the end restarted, which is `again` of the definition.

use Rattle.std.proofs.Common.{◌≡◌, subst, sym}
use Rattle.gl_base.specs.declared.side.Side.{Side}
use Rattle.line_way.specs.Kept.{without_power}
use Rattle.end_pair.specs.Kept.{IsDark, Makes, kept}
use Rattle.end_pair.specs.World.{World, again}
use Rattle.end_pair.proofs.Anew.{equipment_again, host_again}
use Rattle.end_pair.proofs.world.World.start_anew.Goals as goal

pub returns-in-Equipment : goal.returns-in-Equipment
returns-in-Equipment g c =
    let e = kept g.E.End.means g.E.End.anew g.E.End.machine in
    let h = kept g.H.End.means g.H.End.anew g.H.End.machine in
    let was : World _ _ = record {
      equipment = c.self.inside.equipment;
      host = c.self.inside.host;
      ways = c.self.inside.ways;
      moment = c.self.inside.moment;
      steps = c.self.inside.steps;
      cut = c.self.inside.cut;
      reach = g.E.End.reach c.self.inside.equipment;
      host_reach = g.H.End.reach c.self.inside.host;
      choice = c.self.inside.choice;
    }
    in
    let now : World _ _ =
    record was {
      equipment = c.restart_end.new.end;
      ways = c.empty_line.new.ways;
      reach = g.E.End.reach c.restart_end.new.end;
    }
    in
    subst (λ (w : World _ _).
    (left : World g.E.End.State g.H.End.State) → IsDark e h c.args.side w left
    → Makes e h (again e.machine h.machine c.args.side left) now c.args.lines.now c.restart_end.new.lines
    c.restart_end.result) c.self.view_is
    (subst (λ (side : Side).
    (left : World g.E.End.State g.H.End.State) → IsDark e h side was left
    → Makes e h (again e.machine h.machine side left) now c.args.lines.now c.restart_end.new.lines
    c.restart_end.result) (sym c.in-Equipment.is)
    (λ left dark.
    equipment_again e h was left c.empty_line.new.ways (g.E.End.reach c.restart_end.new.end) c.restart_end.new.end
    c.args.lines.now c.restart_end.new.lines c.restart_end.result dark
    (subst (λ (side : Side). c.empty_line.new.ways ≡ without_power side c.self.inside.ways) c.in-Equipment.is
    c.empty_line.ensures.ways)
    c.restart_end.ensures.lines c.restart_end.ensures.end c.restart_end.ensures.reach))

pub returns-in-Host : goal.returns-in-Host
returns-in-Host g c =
    let e = kept g.E.End.means g.E.End.anew g.E.End.machine in
    let h = kept g.H.End.means g.H.End.anew g.H.End.machine in
    let was : World _ _ = record {
      equipment = c.self.inside.equipment;
      host = c.self.inside.host;
      ways = c.self.inside.ways;
      moment = c.self.inside.moment;
      steps = c.self.inside.steps;
      cut = c.self.inside.cut;
      reach = g.E.End.reach c.self.inside.equipment;
      host_reach = g.H.End.reach c.self.inside.host;
      choice = c.self.inside.choice;
    }
    in
    let now : World _ _ =
    record was {
      host = c.restart_end-in-Host.new.end;
      ways = c.empty_line.new.ways;
      host_reach = g.H.End.reach c.restart_end-in-Host.new.end;
    }
    in
    subst (λ (w : World _ _).
    (left : World g.E.End.State g.H.End.State) → IsDark e h c.args.side w left
    → Makes e h (again e.machine h.machine c.args.side left) now c.args.lines.now c.restart_end-in-Host.new.lines
    c.restart_end-in-Host.result) c.self.view_is
    (subst (λ (side : Side).
    (left : World g.E.End.State g.H.End.State) → IsDark e h side was left
    → Makes e h (again e.machine h.machine side left) now c.args.lines.now c.restart_end-in-Host.new.lines
    c.restart_end-in-Host.result) (sym c.in-Host.is)
    (λ left dark.
    host_again e h was left c.empty_line.new.ways (g.H.End.reach c.restart_end-in-Host.new.end)
    c.restart_end-in-Host.new.end c.args.lines.now c.restart_end-in-Host.new.lines c.restart_end-in-Host.result dark
    (subst (λ (side : Side). c.empty_line.new.ways ≡ without_power side c.self.inside.ways) c.in-Host.is
    c.empty_line.ensures.ways)
    c.restart_end-in-Host.ensures.lines c.restart_end-in-Host.ensures.end
    c.restart_end-in-Host.ensures.reach))
