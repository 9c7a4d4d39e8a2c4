use Rattle.tool_core.specs.Node.{node_of}
use Rattle.tool_core.proofs.Heeding.{established_err, established_ok}
use Rattle.tool_core.proofs.own.Tool.establish.Goals as goal

pub returns-in-Ok-clause-does : goal.returns-in-Ok-clause-does
returns-in-Ok-clause-does c =
    established_ok (Unit {0}) c.args.now c.args.message.now (node_of c.args.self.now)
    (node_of c.end_own_s1f13.new.self) (node_of c.meet.new.self) (node_of c.accept.new.self) c.args.out.now
    c.meet.new.out c.accept.new.out c.accept.result (c.end_own_s1f13.ensures c.args.out.now) c.in-Ok.ensures.does
    c.accept.ensures.does

pub returns-in-Err-clause-does : goal.returns-in-Err-clause-does
returns-in-Err-clause-does c =
    established_err (Unit {0}) (Unit {0}) c.args.now c.args.message.now (node_of c.args.self.now)
    (node_of c.end_own_s1f13.new.self) (node_of c.meet.new.self) c.args.out.now c.meet.new.out c.in-Err.stop
    (c.end_own_s1f13.ensures c.args.out.now) c.in-Err.ensures.does
