-- The samples, and then the turns of the S6F1 that they bring.

use Rattle.std.proofs.Common.{replicate}
use Rattle.tool_core.specs.Node.{node_of}
use Rattle.tool_step.specs.Sampling.{made_part, sample_parts, sampling}
use Rattle.tool_core.proofs.Following.{first_goes, reached}
use Rattle.tool_core.proofs.own.Tool.take_samples.Goals as goal

pub returns-in-Ok-clause-does : goal.returns-in-Ok-clause-does
unfolding sample_parts
returns-in-Ok-clause-does c =
    first_goes (Unit {0}) (sampling c.args.now) (replicate 16 made_part) (node_of c.args.self.now)
    (node_of c.sample.new.self) (node_of c.route_made.new.self) c.args.out.now c.args.out.now c.route_made.new.out
    c.route_made.result (c.in-Ok.ensures c.args.out.now)
    (reached (Unit {0}) _ (node_of c.route_made.new.self) c.route_made.new.out c.route_made.result
    c.route_made.ensures.does)
