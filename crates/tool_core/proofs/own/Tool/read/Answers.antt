use Rattle.std.proofs.Common.{sym, ap, ◌∙◌, ℕ, List}
use Rattle.equipment_tables.specs.Requests.{request_of}
use Rattle.tool_core.specs.Node.{node_of}
use Rattle.tool_core.proofs.Heeding.{read_so}
use Rattle.tool_core.proofs.own.Tool.read.Goals as goal

pub returns-in-Some-clause-does : goal.returns-in-Some-clause-does
returns-in-Some-clause-does c =
    read_so (Unit {0}) c.args.now c.args.header.now c.args.message.now c.in_ok-request.field-0 c.in-Some.request
    (node_of c.args.self.now) (node_of c.heed_request.new.self) c.args.out.now c.heed_request.new.out
    c.heed_request.result
    (sym c.takes_stream.ensures ∙ c.if-not-takes_stream.false) (sym c.is_known.ensures ∙ c.if-not-is_known.false)
    (c.in_ok-request.ensures.found
    ∙ ap (λ (body : List ℕ). request_of c.args.message.now.stream c.args.message.now.function body)
    c.as_slice-body.ensures)
    c.in-Some.is c.heed_request.ensures.does
