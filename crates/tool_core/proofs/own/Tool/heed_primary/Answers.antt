use Rattle.std.proofs.Common.{sym, ◌∙◌}
use Rattle.tool_core.specs.Node.{node_of}
use Rattle.tool_core.proofs.Heeding.{establishes_so}
use Rattle.tool_core.proofs.own.Tool.heed_primary.Goals as goal

pub returns-then-is_establish_request-clause-does : goal.returns-then-is_establish_request-clause-does
returns-then-is_establish_request-clause-does c =
    establishes_so (Unit {0}) c.args.now c.args.header.now c.args.message.now (node_of c.args.self.now)
    (node_of c.establish.new.self) c.args.out.now c.establish.new.out c.establish.result
    (sym c.is_establish_request.ensures ∙ c.if-is_establish_request.true) c.establish.ensures.does
