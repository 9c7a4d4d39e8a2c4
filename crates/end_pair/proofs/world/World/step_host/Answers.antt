-- A step of the host, or none where all steps are made.

use Rattle.std.proofs.Common.{◌+◌, sym, ap, subst, ◌∙◌}
use Rattle.message_end.specs.Ends.{input_of}
use Rattle.end_pair.specs.Kept.{Makes, kept, seen}
use Rattle.end_pair.specs.World.{World, host_stepped}
use Rattle.end_pair.proofs.Turning.{host_comes, host_out}
use Rattle.end_pair.proofs.world.World.step_host.Goals as goal

pub returns-then-self-eq-MOST_STEPS : goal.returns-then-self-eq-MOST_STEPS
returns-then-self-eq-MOST_STEPS g c =
    let e = kept g.E.End.means g.E.End.anew g.E.End.machine in
    let h = kept g.H.End.means g.H.End.anew g.H.End.machine in
    host_out e h (input_of c.args.input) (seen e.means h.means c.args.self.now) c.args.self.now c.args.lines.now
    (ap (λ (w : World _ _). w.steps) (sym c.self.view_is) ∙ c.if-self-eq-MOST_STEPS.true)

pub returns : goal.returns
returns g c =
    let e = kept g.E.End.means g.E.End.anew g.E.End.machine in
    let h = kept g.H.End.means g.H.End.anew g.H.End.machine in
    let was : World _ _ = record {
      equipment = c.self.inside.equipment;
      host = c.self.inside.host;
      ways = c.self.inside.ways;
      moment = c.self.inside.moment;
      steps = c.self.inside.steps;
      cut = c.self.inside.cut;
      reach = g.E.End.reach c.self.inside.equipment;
      host_reach = g.H.End.reach c.self.inside.host;
      choice = c.self.inside.choice;
    }
    in
    let now : World _ _ =
    record was {
      host = c.step_end.new.end;
      ways = c.step_end.new.ways;
      steps = c.self.inside.steps + 1;
      host_reach = g.H.End.reach c.step_end.new.end;
    }
    in
    subst (λ (w : World _ _).
    Makes e h (host_stepped e.machine h.machine (input_of c.args.input) (seen e.means h.means w)) now
    c.args.lines.now c.step_end.new.lines c.step_end.result) c.self.view_is
    (host_comes e h (input_of c.args.input) was c.step_end.new.end c.step_end.new.ways
    (g.H.End.reach c.step_end.new.end) c.args.lines.now c.step_end.new.lines c.step_end.result
    c.if-self-eq-MOST_STEPS.false (c.step_end.ensures.lines was.choice)
    (c.step_end.ensures.end was.choice, c.step_end.ensures.ways was.choice, c.step_end.ensures.reach was.choice))
