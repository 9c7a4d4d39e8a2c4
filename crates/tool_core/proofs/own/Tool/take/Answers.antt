use Rattle.std.proofs.Common.{refl, sym, subst, ◌∙◌}
use Rattle.trace_log.specs.Text.{printed_note}
use Rattle.message_end.specs.declared.end.Took.{Took}
use Rattle.message_end.specs.Calls.{took_at}
use Rattle.message_end.specs.Core.{EndView}
use Rattle.message_end.specs.Core.Command.{Take}
use Rattle.message_end.specs.Parts.{on_the_way}
use Rattle.message_end.proofs.Parts.{after-take}
use Rattle.tool_step.specs.declared.kind.Kind.{Kind}
use Rattle.tool_core.specs.Calls.{Reaches}
use Rattle.tool_core.specs.Node.{node_of, own_of}
use Rattle.tool_step.specs.Own.{OwnView}
use Rattle.tool_step.specs.Step.{took_turn}
use Rattle.tool_core.proofs.Following.{leads_reached, leads_stopped, node, reached}
use Rattle.tool_core.proofs.own.Tool.take.Goals as goal

pub returns-in-Ok-Failed-clause-does : goal.returns-in-Ok-Failed-clause-does
returns-in-Ok-Failed-clause-does c =
    let own : OwnView = own_of c.args.self.now.own in
    let core : EndView Kind = c.args.self.now.core in
    leads_reached (Unit {0}) own (Take c.args.byte c.args.now)
    (took_turn c.args.now (took_at core c.args.byte c.args.now) own) core c.take.new.self c.args.out.now c.take.new.out
    (node_of c.end_talk.new.self) c.end_talk.new.out c.end_talk.result c.in-Ok-Failed.ensures.carries
    (after-take printed_note c.args.byte c.args.now (on_the_way core c.args.out.now)
    (on_the_way c.take.new.self c.take.new.out) c.in-Ok-Failed.ensures.carries)
    (subst
    (λ (brought : Took). Reaches (took_turn c.args.now brought own c.take.new.self) (node own c.take.new.self)
    c.take.new.out (node_of c.end_talk.new.self) c.end_talk.new.out c.end_talk.result)
    (sym c.in-Ok-Failed.field-0-is ∙ c.in-Ok-Failed.ensures.took)
    (reached (Unit {0}) _ (node_of c.end_talk.new.self) c.end_talk.new.out c.end_talk.result c.end_talk.ensures.does))

pub returns-in-Ok-Came-clause-does : goal.returns-in-Ok-Came-clause-does
returns-in-Ok-Came-clause-does c =
    let own : OwnView = own_of c.args.self.now.own in
    let core : EndView Kind = c.args.self.now.core in
    leads_reached (Unit {0}) own (Take c.args.byte c.args.now)
    (took_turn c.args.now (took_at core c.args.byte c.args.now) own) core c.take.new.self c.args.out.now c.take.new.out
    (node_of c.judge.new.self) c.judge.new.out c.judge.result c.in-Ok-Came.ensures.carries
    (after-take printed_note c.args.byte c.args.now (on_the_way core c.args.out.now)
    (on_the_way c.take.new.self c.take.new.out) c.in-Ok-Came.ensures.carries)
    (subst
    (λ (brought : Took). Reaches (took_turn c.args.now brought own c.take.new.self) (node own c.take.new.self)
    c.take.new.out (node_of c.judge.new.self) c.judge.new.out c.judge.result)
    (sym c.in-Ok-Came.field-0-is ∙ c.in-Ok-Came.ensures.took) c.judge.ensures.does)

pub returns-in-Err-clause-does : goal.returns-in-Err-clause-does
returns-in-Err-clause-does c =
    let own : OwnView = own_of c.args.self.now.own in
    let core : EndView Kind = c.args.self.now.core in
    leads_stopped Took (Unit {0}) own (Take c.args.byte c.args.now)
    (took_turn c.args.now (took_at core c.args.byte c.args.now) own) core (node own c.take.new.self) c.args.out.now
    c.take.new.out _ c.in-Err.stop refl c.in-Err.ensures.carries
