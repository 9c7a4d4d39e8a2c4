use Rattle.std.proofs.Common.{[], ◌∷◌}
use Rattle.message_end.specs.Ends.{input_of}
use Rattle.tool_core.specs.Node.{node_of}
use Rattle.tool_step.specs.Step.{due_parts, input_part}
use Rattle.tool_core.proofs.Following.{last_part, parts_go, parts_stop}
use Rattle.tool_core.proofs.own.Tool.go_on.Goals as goal

pub returns-in-Ok-clause-does : goal.returns-in-Ok-clause-does
returns-in-Ok-clause-does c =
    parts_go (Unit {0}) (due_parts c.args.now) (input_part (input_of c.args.input) c.args.now ∷ [])
    (node_of c.args.self.now) (node_of c.do_due.new.self) (node_of c.meet_input.new.self) c.args.out.now
    c.do_due.new.out c.meet_input.new.out c.meet_input.result c.in-Ok.ensures.does
    (last_part (Unit {0}) (input_part (input_of c.args.input) c.args.now) (node_of c.do_due.new.self)
    (node_of c.meet_input.new.self) c.do_due.new.out c.meet_input.new.out c.meet_input.result
    c.meet_input.ensures.does)

pub returns-in-Err-clause-does : goal.returns-in-Err-clause-does
returns-in-Err-clause-does c =
    parts_stop (Unit {0}) (Unit {0}) (due_parts c.args.now) (input_part (input_of c.args.input) c.args.now ∷ [])
    (node_of c.args.self.now) (node_of c.do_due.new.self) c.args.out.now c.do_due.new.out c.in-Err.stop
    c.in-Err.ensures.does
