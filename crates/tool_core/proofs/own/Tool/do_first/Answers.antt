use Rattle.std.proofs.Common.{[], ◌∷◌, ◌++◌}
use Rattle.std.specs.Prelude.{Err}
use Rattle.message_end.specs.Ends.{input_of}
use Rattle.tool_core.specs.Node.{node_of}
use Rattle.tool_step.specs.Step.{beginning, due_parts, input_part}
use Rattle.tool_core.proofs.Following.{first_goes, first_stops, reached}
use Rattle.tool_core.proofs.own.Tool.do_first.Goals as goal

pub returns-in-Ok-clause-does : goal.returns-in-Ok-clause-does
returns-in-Ok-clause-does c =
    first_goes (Unit {0}) (beginning c.args.now)
    (due_parts c.args.now ++ input_part (input_of c.args.input) c.args.now ∷ []) (node_of c.args.self.now)
    (node_of c.begin.new.self) (node_of c.go_on.new.self) c.args.out.now c.begin.new.out c.go_on.new.out
    c.go_on.result c.in-Ok.ensures.does c.go_on.ensures.does

pub returns-in-Err-clause-does : goal.returns-in-Err-clause-does
returns-in-Err-clause-does c =
    first_stops (Unit {0}) (Unit {0}) (beginning c.args.now)
    (due_parts c.args.now ++ input_part (input_of c.args.input) c.args.now ∷ []) (node_of c.args.self.now)
    (node_of c.begin.new.self) c.args.out.now c.begin.new.out c.in-Err.stop
    (reached (Unit {0}) _ (node_of c.begin.new.self) c.begin.new.out (Err c.in-Err.stop) c.in-Err.ensures.does)
