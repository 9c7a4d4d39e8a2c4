-- A line that tells nothing ends the run; each other one is a step with its command.

use Rattle.std.proofs.Common.{None, refl, sym}
use Rattle.end_run.specs.Outcome.{Comes}
use Rattle.end_run.specs.Scenes.{scene}
use Rattle.end_run.proofs.Turning.{told_as, told_stops, told_takes}
use Rattle.end_run.proofs.telling.tell.Goals as goal

pub returns-in-None-clause-runs : goal.returns-in-None-clause-runs
returns-in-None-clause-runs g c =
    λ known.
    let e = g.E.LinkedEnd in (
      None,
      known,
      told_stops e.machine c.args.side c.args.now e.takes _ (e.means c.args.end.now) (e.told c.args.step.now)
          c.requires.step (sym c.in-None.ensures),
    )

pub step_end-requires-clause-input : goal.step_end-requires-clause-input
step_end-requires-clause-input g c =
    let e = g.E.LinkedEnd in
    told_takes e.machine c.args.side c.args.now e.takes (e.told c.args.step.now) c.in-Some.command.now c.requires.step
    (sym c.in-Some.ensures)

pub returns-in-Some-clause-runs : goal.returns-in-Some-clause-runs
returns-in-Some-clause-runs g c =
    λ known.
    let e = g.E.LinkedEnd in
    told_as e.machine c.args.side c.args.now e.takes
    (λ piece. Comes e.known e.left c.step_end.new.end
    (scene g.L.Link g.W.Sink c.args.link.now c.args.out.now (e.means c.args.end.now) (e.room c.args.end.now) None)
    (scene g.L.Link g.W.Sink c.step_end.new.link c.step_end.new.out (e.means c.step_end.new.end)
    (e.room c.step_end.new.end))
    piece c.step_end.result)
    (e.means c.args.end.now) (e.told c.args.step.now) c.in-Some.command.now c.requires.step (sym c.in-Some.ensures)
    (c.step_end.ensures.runs known)

pub returns-in-None-clause-counts : goal.returns-in-None-clause-counts
returns-in-None-clause-counts g c = (refl, refl, refl)
