use Rattle.std.proofs.Common.{◌∷◌}
use Rattle.tool_core.specs.Node.{node_of}
use Rattle.tool_step.specs.Sampling.{sample_parts}
use Rattle.tool_step.specs.Step.{delay_timer, late_parts}
use Rattle.tool_core.proofs.Following.{parts_go, parts_stop}
use Rattle.tool_core.proofs.own.Tool.do_late.Goals as goal

pub returns-in-Ok-clause-does : goal.returns-in-Ok-clause-does
returns-in-Ok-clause-does c =
    parts_go (Unit {0}) (late_parts c.args.now) (delay_timer c.args.now ∷ sample_parts c.args.now)
    (node_of c.args.self.now) (node_of c.end_late.new.self) (node_of c.end_delay.new.self) c.args.out.now
    c.end_late.new.out c.end_delay.new.out c.end_delay.result c.in-Ok.ensures.does c.end_delay.ensures.does

pub returns-in-Err-clause-does : goal.returns-in-Err-clause-does
returns-in-Err-clause-does c =
    parts_stop (Unit {0}) (Unit {0}) (late_parts c.args.now) (delay_timer c.args.now ∷ sample_parts c.args.now)
    (node_of c.args.self.now) (node_of c.end_late.new.self) c.args.out.now c.end_late.new.out c.in-Err.stop
    c.in-Err.ensures.does
