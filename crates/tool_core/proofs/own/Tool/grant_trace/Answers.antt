-- What waited is found, and its text goes; or nothing waited.
use Rattle.std.proofs.Common.{sym, ap, ◌∙◌, List}
use Rattle.tool_core.specs.Node.{node_of, own_of}
use Rattle.tool_step.specs.Grants.{GrantView}
use Rattle.tool_step.specs.Own.{with_waiting_data}
use Rattle.tool_core.proofs.Traced.{granted_nothing, granted_sent}
use Rattle.tool_core.proofs.own.Tool.grant_trace.Goals as goal

pub returns-in-Some-clause-does : goal.returns-in-Some-clause-does
returns-in-Some-clause-does c =
    granted_sent c.args.system (own_of c.args.self.now.own)
    (with_waiting_data c.take_awaiting.new.kept.items (own_of c.args.self.now.own)) c.args.self.now.core
    c.in-Some.waiting c.into_body.result c.trace_data.result (node_of c.send.new.self) c.args.out.now c.send.new.out
    c.send.result
    (ap (λ (left : List GrantView). with_waiting_data left (own_of c.args.self.now.own)) c.take_awaiting.ensures.rest)
    (sym c.in-Some.is ∙ c.take_awaiting.ensures.found) c.into_body.ensures.body c.trace_data.ensures c.send.ensures.does

pub returns-in-None-clause-does : goal.returns-in-None-clause-does
returns-in-None-clause-does c =
    granted_nothing c.args.system (own_of c.args.self.now.own)
    (with_waiting_data c.take_awaiting.new.kept.items (own_of c.args.self.now.own)) c.args.self.now.core c.args.out.now
    (ap (λ (left : List GrantView). with_waiting_data left (own_of c.args.self.now.own)) c.take_awaiting.ensures.rest)
    (sym c.in-None.is ∙ c.take_awaiting.ensures.found)
