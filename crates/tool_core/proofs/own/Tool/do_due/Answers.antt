use Rattle.std.proofs.Common.{◌∷◌, ◌++◌}
use Rattle.std.specs.Prelude.{Err}
use Rattle.tool_core.specs.Node.{node_of}
use Rattle.tool_step.specs.Sampling.{sample_parts}
use Rattle.tool_step.specs.Step.{delay_timer, late_parts, line_timer}
use Rattle.tool_core.proofs.Following.{first_goes, first_stops, reached}
use Rattle.tool_core.proofs.own.Tool.do_due.Goals as goal

pub returns-in-Ok-clause-does : goal.returns-in-Ok-clause-does
returns-in-Ok-clause-does c =
    first_goes (Unit {0}) (line_timer c.args.now)
    (late_parts c.args.now ++ delay_timer c.args.now ∷ sample_parts c.args.now) (node_of c.args.self.now)
    (node_of c.tick.new.self) (node_of c.do_late.new.self) c.args.out.now c.tick.new.out
    c.do_late.new.out c.do_late.result c.in-Ok.ensures.does c.do_late.ensures.does

pub returns-in-Err-clause-does : goal.returns-in-Err-clause-does
returns-in-Err-clause-does c =
    first_stops (Unit {0}) (Unit {0}) (line_timer c.args.now)
    (late_parts c.args.now ++ delay_timer c.args.now ∷ sample_parts c.args.now) (node_of c.args.self.now)
    (node_of c.tick.new.self) c.args.out.now c.tick.new.out c.in-Err.stop
    (reached (Unit {0}) _ (node_of c.tick.new.self) c.tick.new.out (Err c.in-Err.stop) c.in-Err.ensures.does)
