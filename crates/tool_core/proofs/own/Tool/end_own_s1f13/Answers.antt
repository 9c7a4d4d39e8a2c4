-- One open primary is passed, and with none left all are.

use Rattle.std.proofs.Common.{sym, ◌∙◌, arith}
use Rattle.tool_core.specs.Node.{node_of}
use Rattle.tool_core.proofs.OwnS1F13.{none_left, passed_to, within}
use Rattle.tool_core.proofs.own.Tool.end_own_s1f13.Goals as goal

pub place_behind-next-requires : goal.place_behind-next-requires
place_behind-next-requires c =
    let few = c.in-Some.ensures.is_transactions.few in
    let less =
    within c.requests.self.core.transactions.begun c.requests.place c.in-Some.primary.0 c.in-Some.primary.1
    (sym c.in-Some.ensures.primary) in
    omega (arith, few, less)

pub requests-preserved : goal.requests-preserved
requests-preserved c =
    let one =
    passed_to c.requests.self.core c.end_request.new.self.core c.requests.place c.in-Some.primary.0
    c.in-Some.primary.1 c.in-Some.ensures.is_transactions (sym c.in-Some.ensures.primary) c.end_request.ensures.ended
    c.place_behind-next.result c.place_behind-next.ensures in
    record {
      done = λ out. one.same out ∙ c.requests.invariant.done out;
      own = c.end_request.ensures.own ∙ c.requests.invariant.own;
    }

pub requests-smaller : goal.requests-smaller
requests-smaller c =
    (passed_to c.requests.self.core c.end_request.new.self.core c.requests.place c.in-Some.primary.0
    c.in-Some.primary.1 c.in-Some.ensures.is_transactions (sym c.in-Some.ensures.primary) c.end_request.ensures.ended
    c.place_behind-next.result c.place_behind-next.ensures).fewer

pub returns : goal.returns
returns c =
    λ out. none_left (node_of c.args.self.now) (node_of c.requests.self) c.requests.place out c.requests.invariant.own
    (sym c.in_default.ensures.primary) (c.requests.invariant.done out)
