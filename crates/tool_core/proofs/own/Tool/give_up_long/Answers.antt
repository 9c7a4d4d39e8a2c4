use Rattle.std.proofs.Common.{sym, ◌∙◌}
use Rattle.message_flow.specs.declared.flow.Flow.TheVariants as flow
use Rattle.tool_core.specs.Node.{node_of, own_of}
use Rattle.tool_step.specs.Replies.{given_up_turn}
use Rattle.tool_step.specs.Step.{flow_turn}
use Rattle.tool_core.proofs.Longer.{given_up_behind}
use Rattle.tool_core.proofs.ToldLong.{long_goes, long_spent, long_stops}
use Rattle.tool_core.proofs.own.Tool.give_up_long.Goals as goal

pub returns-then-is_spent-clause-does : goal.returns-then-is_spent-clause-does
returns-then-is_spent-clause-does c =
    let given = given_up_turn c.args.now c.args.header.now (own_of c.args.self.now.own) c.args.self.now.core in
    long_spent (Unit {0}) c.args.header.now given (node_of c.args.self.now) c.args.out.now
    (sym c.is_spent.ensures ∙ c.if-is_spent.true)

pub returns-in-Ok-clause-does : goal.returns-in-Ok-clause-does
returns-in-Ok-clause-does c =
    let given = given_up_turn c.args.now c.args.header.now (own_of c.args.self.now.own) c.args.self.now.core in
    long_goes {A = Unit {0}} c.args.header.now given (node_of c.args.self.now) (node_of c.give_up.new.self)
    c.args.out.now c.give_up.new.out c.give_up.result (sym c.is_spent.ensures ∙ c.if-is_spent.false)
    (given_up_behind (Unit {0}) c.args.now 11 c.args.header.now (node_of c.args.self.now)
    (node_of c.tell_error.new.self) (node_of c.give_up.new.self) c.args.out.now c.tell_error.new.out
    c.give_up.new.out c.give_up.result c.in-Ok.ensures.does c.give_up.ensures.does)

pub returns-in-Err-clause-does : goal.returns-in-Err-clause-does
returns-in-Err-clause-does c =
    let own = own_of c.args.self.now.own in
    long_stops (Unit {0}) (Unit {0}) c.args.header.now
    (flow_turn c.args.now c.args.header.now flow.TooLong own c.args.self.now.core) (node_of c.args.self.now)
    (node_of c.tell_error.new.self) c.args.out.now c.tell_error.new.out c.in-Err.stop
    (sym c.is_spent.ensures ∙ c.if-is_spent.false) c.in-Err.ensures.does
