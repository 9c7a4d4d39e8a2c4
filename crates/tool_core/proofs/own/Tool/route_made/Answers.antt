-- Each turn brings what is left on, unless it ends the step.
use Rattle.std.proofs.lemmas.Result.{err_from_is_err_and}
use Rattle.tool_core.specs.Node.{node_of}
use Rattle.tool_step.specs.Sampling.{made_part}
use Rattle.tool_core.proofs.Taking.{many_stop}
use Rattle.tool_core.proofs.own.Tool.route_made.Goals as goal

pub returns-in_err-route_first-clause-does : goal.returns-in_err-route_first-clause-does
returns-in_err-route_first-clause-does c =
    let p = err_from_is_err_and c.from_residual.result c.from_residual.ensures.1 in
    rw (p.1, p.2)
    (many_stop (Unit {0}) (Unit {0}) c.made.left 16 made_part (node_of c.args.self.now) (node_of c.made.self)
    (node_of c.route_first.new.self) c.args.out.now c.made.out c.route_first.new.out _ c.made-test.true
    c.made.invariant.done c.in_err-route_first.ensures.does)
