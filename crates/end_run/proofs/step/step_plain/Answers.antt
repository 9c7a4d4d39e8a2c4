-- A plain input is one that every end takes, and that of the definition.

use Rattle.std.proofs.Common.{None, subst}
use Rattle.end_run.specs.Outcome.{Comes}
use Rattle.end_run.specs.Scenes.{scene}
use Rattle.end_run.specs.Steps.{stepped}
use Rattle.end_run.proofs.Turning.{plain_taken}
use Rattle.end_run.proofs.step.step_plain.Goals as goal

pub step_end-requires-clause-input : goal.step_end-requires-clause-input
step_end-requires-clause-input g c = plain_taken g.E.LinkedEnd.takes _ c.plain_input-input.ensures.plain

pub returns-clause-runs : goal.returns-clause-runs
returns-clause-runs g c =
    λ known.
    let e = g.E.LinkedEnd in
    subst
    (λ input. Comes e.known e.left c.step_end.new.end
    (scene g.L.Link g.W.Sink c.args.link.now c.args.out.now (e.means c.args.end.now) (e.room c.args.end.now) None)
    (scene g.L.Link g.W.Sink c.step_end.new.link c.step_end.new.out (e.means c.step_end.new.end)
    (e.room c.step_end.new.end))
    (stepped e.machine c.args.side c.args.now input (e.means c.args.end.now)) c.step_end.result)
    c.plain_input-input.ensures.input (c.step_end.ensures.runs known)
