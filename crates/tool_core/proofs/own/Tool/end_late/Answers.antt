-- Late blocks, and then late replies, unless the first end the step.
use Rattle.std.proofs.Common.{replicate}
use Rattle.std.specs.Prelude.{Err}
use Rattle.tool_core.specs.Node.{node_of}
use Rattle.tool_core.specs.declared.replies.Late.TheVariants as late
use Rattle.tool_core.specs.Late.{late_part}
use Rattle.tool_step.specs.Step.{late_parts}
use Rattle.tool_core.proofs.Following.{parts_go, parts_stop, reached}
use Rattle.tool_core.proofs.own.Tool.end_late.Goals as goal

pub returns-in-Ok-clause-does : goal.returns-in-Ok-clause-does
unfolding late_parts
returns-in-Ok-clause-does c =
    parts_go (Unit {0}) (replicate 16 (late_part late.Block c.args.now))
    (replicate 64 (late_part late.Reply c.args.now)) (node_of c.args.self.now) (node_of c.end_some_late.new.self)
    (node_of c.end_some_late-in-Ok.new.self) c.args.out.now c.end_some_late.new.out c.end_some_late-in-Ok.new.out
    c.end_some_late-in-Ok.result c.in-Ok.ensures.does
    (reached (Unit {0}) _ (node_of c.end_some_late-in-Ok.new.self) c.end_some_late-in-Ok.new.out
    c.end_some_late-in-Ok.result
    c.end_some_late-in-Ok.ensures.does)

pub returns-in-Err-clause-does : goal.returns-in-Err-clause-does
unfolding late_parts
returns-in-Err-clause-does c =
    parts_stop (Unit {0}) (Unit {0}) (replicate 16 (late_part late.Block c.args.now))
    (replicate 64 (late_part late.Reply c.args.now)) (node_of c.args.self.now) (node_of c.end_some_late.new.self)
    c.args.out.now c.end_some_late.new.out c.in-Err.stop
    (reached (Unit {0}) _ (node_of c.end_some_late.new.self) c.end_some_late.new.out (Err c.in-Err.stop)
    c.in-Err.ensures.does)
