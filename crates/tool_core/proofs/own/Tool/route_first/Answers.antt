-- The one at the place of those that had their turn is the first that is left.
use Rattle.std.proofs.Common.{refl, sym, ◌∙◌}
use Rattle.tool_core.specs.Node.{node_of}
use Rattle.tool_core.proofs.Traced.{first_routed, none_routed}
use Rattle.tool_core.proofs.own.Tool.route_first.Goals as goal

pub returns-in_default-clause-does : goal.returns-in_default-clause-does
returns-in_default-clause-does c =
    none_routed (node_of c.args.self.now) c.args.self.now.own.tracing.made c.args.self.now.own.tracing.routed
    c.args.out.now refl (sym c.in_default.is ∙ c.in_ok-text.ensures.text)

pub returns-clause-does : goal.returns-clause-does
returns-clause-does c =
    first_routed (node_of c.args.self.now) (node_of c.route_data.new.self) c.args.self.now.own.tracing.made
    c.args.self.now.own.tracing.routed c.in-Some.text c.args.out.now c.route_data.new.out c.route_data.result refl
    (sym c.in-Some.is ∙ c.in_ok-text.ensures.text) c.route_data.ensures.does
