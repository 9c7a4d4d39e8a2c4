-- The delay, and the samples behind it.

use Rattle.std.specs.Prelude.{Err}
use Rattle.tool_core.specs.Node.{node_of}
use Rattle.tool_step.specs.Sampling.{sample_parts}
use Rattle.tool_step.specs.Step.{delay_timer}
use Rattle.tool_core.proofs.Following.{first_goes, first_stops, reached}
use Rattle.tool_core.proofs.own.Tool.end_delay.Goals as goal

pub returns-in-Ok-clause-does : goal.returns-in-Ok-clause-does
returns-in-Ok-clause-does c =
    first_goes (Unit {0}) (delay_timer c.args.now) (sample_parts c.args.now) (node_of c.args.self.now)
    (node_of c.meet.new.self) (node_of c.take_samples.new.self) c.args.out.now c.meet.new.out
    c.take_samples.new.out c.take_samples.result c.in-Ok.ensures.does c.take_samples.ensures.does

pub returns-in-Err-clause-does : goal.returns-in-Err-clause-does
returns-in-Err-clause-does c =
    first_stops (Unit {0}) (Unit {0}) (delay_timer c.args.now) (sample_parts c.args.now) (node_of c.args.self.now)
    (node_of c.meet.new.self) c.args.out.now c.meet.new.out c.in-Err.stop
    (reached (Unit {0}) _ (node_of c.meet.new.self) c.meet.new.out (Err c.in-Err.stop) c.in-Err.ensures.does)
