use Rattle.std.proofs.Common.{[], ◌∷◌}
use Rattle.tool_core.specs.Node.{node_of}
use Rattle.tool_step.specs.Replies.{loss_turn}
use Rattle.tool_step.specs.Sent.{error_duty}
use Rattle.tool_core.proofs.Taking.{duties_end, told_so}
use Rattle.tool_core.proofs.own.Tool.time_out.Goals as goal

pub returns-in-Ok-clause-does : goal.returns-in-Ok-clause-does
returns-in-Ok-clause-does c =
    let old = node_of c.args.self.now in
    told_so c.args.header.now (loss_turn c.args.now c.args.kind c.args.header.now.system old.own old.core) old
    (node_of c.lose_reply.new.self) (node_of c.tell_error.new.self) c.args.out.now c.lose_reply.new.out
    c.tell_error.new.out c.tell_error.result c.in-Ok.ensures.does c.tell_error.ensures.does

pub returns-in-Err-clause-does : goal.returns-in-Err-clause-does
returns-in-Err-clause-does c =
    let old = node_of c.args.self.now in
    let turn = loss_turn c.args.now c.args.kind c.args.header.now.system old.own old.core in
    duties_end (Unit {0}) (Unit {0}) turn.own turn.duties (error_duty 9 c.args.header.now turn.own ∷ []) old
    (node_of c.lose_reply.new.self) c.args.out.now c.lose_reply.new.out c.in-Err.stop c.in-Err.ensures.does
