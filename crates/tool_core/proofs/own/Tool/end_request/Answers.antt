use Rattle.tool_core.proofs.Heeding.{request_ended}
use Rattle.tool_core.proofs.own.Tool.end_request.Goals as goal

pub returns-in-Establish-clause-ended : goal.returns-in-Establish-clause-ended
returns-in-Establish-clause-ended c =
    λ out. request_ended c.args.kind c.args.system c.args.self.now.core c.end.new.self c.remove.new.self out
    c.in-Establish.is (c.end.ensures.carries out) (c.remove.ensures.carries out)
