-- With no call planned any more, a start anew would begin from what the end is.

use Rattle.std.proofs.Common.{ap, refl, subst, sym, ◌∙◌}
use Rattle.gl_base.specs.declared.side.Side.{Side}
use Rattle.gl_base.specs.declared.side.Side.TheVariants.{Equipment, Host}
use Rattle.end_pair.specs.Kept.{IsDark, kept, seen}
use Rattle.end_pair.specs.World.{World}
use Rattle.end_pair.proofs.world.World.disarm.Goals as goal

pub returns-in-Equipment : goal.returns-in-Equipment
returns-in-Equipment g c =
    let e = kept g.E.End.means g.E.End.anew g.E.End.machine in
    let h = kept g.H.End.means g.H.End.anew g.H.End.machine in
    let was : World _ _ = record {
      equipment = c.self.inside.equipment;
      host = c.self.inside.host;
      ways = c.self.inside.ways;
      moment = c.self.inside.moment;
      steps = c.self.inside.steps;
      cut = c.self.inside.cut;
      reach = g.E.End.reach c.self.inside.equipment;
      host_reach = g.H.End.reach c.self.inside.host;
      choice = c.self.inside.choice;
    }
    in
    let now : World _ _ = record was { equipment = c.arm.new.self; reach = g.E.End.reach c.arm.new.self } in
    subst (λ (side : Side). IsDark e h side now (seen e.means h.means c.args.self.now)) (sym c.in-Equipment.is)
    (subst (λ (w : World _ _). IsDark e h Equipment now (seen e.means h.means w)) c.self.view_is
    (record {
      ends = (
        λ moment.
            g.met.E.End.settled c.arm.new.self c.arm.ensures.sound c.arm.ensures.going was.choice moment
            ∙ ap (λ (s : g.E.End.State). e.machine.restart s moment) c.arm.ensures.means,
        record { end_is = refl; reach_is = refl },
      );
      ways = refl;
      moment = refl;
      steps = refl;
      cut = refl;
      choice = refl;
    }))

pub returns-in-Host : goal.returns-in-Host
returns-in-Host g c =
    let e = kept g.E.End.means g.E.End.anew g.E.End.machine in
    let h = kept g.H.End.means g.H.End.anew g.H.End.machine in
    let was : World _ _ = record {
      equipment = c.self.inside.equipment;
      host = c.self.inside.host;
      ways = c.self.inside.ways;
      moment = c.self.inside.moment;
      steps = c.self.inside.steps;
      cut = c.self.inside.cut;
      reach = g.E.End.reach c.self.inside.equipment;
      host_reach = g.H.End.reach c.self.inside.host;
      choice = c.self.inside.choice;
    }
    in
    let now : World _ _ =
    record was { host = c.arm-in-Host.new.self; host_reach = g.H.End.reach c.arm-in-Host.new.self }
    in
    subst (λ (side : Side). IsDark e h side now (seen e.means h.means c.args.self.now)) (sym c.in-Host.is)
    (subst (λ (w : World _ _). IsDark e h Host now (seen e.means h.means w)) c.self.view_is
    (record {
      ends = (
        λ moment.
            g.met.H.End.settled c.arm-in-Host.new.self c.arm-in-Host.ensures.sound c.arm-in-Host.ensures.going
            was.choice moment
            ∙ ap (λ (s : g.H.End.State). h.machine.restart s moment) c.arm-in-Host.ensures.means,
        record { end_is = refl; reach_is = refl },
      );
      ways = refl;
      moment = refl;
      steps = refl;
      cut = refl;
      choice = refl;
    }))
