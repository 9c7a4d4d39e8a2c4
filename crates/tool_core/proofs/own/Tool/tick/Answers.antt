use Rattle.std.proofs.Common.{sym, subst, ◌∙◌, Option}
use Rattle.block_codec.specs.declared.header.Header.{Header}
use Rattle.trace_log.specs.Text.{printed_note}
use Rattle.message_end.specs.Calls.{failed_at}
use Rattle.message_end.specs.Core.{EndView}
use Rattle.message_end.specs.Core.Command.{Tick}
use Rattle.message_end.specs.Parts.{Takes, on_the_way}
use Rattle.message_end.proofs.Parts.{after-tick}
use Rattle.tool_step.specs.declared.kind.Kind.{Kind}
use Rattle.tool_core.specs.Node.{node_of, own_of}
use Rattle.tool_step.specs.Own.{OwnView}
use Rattle.tool_step.specs.Step.{failed_turn}
use Rattle.tool_core.proofs.Following.{node}
use Rattle.tool_core.proofs.Taking.{leads_so}
use Rattle.tool_core.proofs.own.Tool.tick.Goals as goal

pub returns-in-Some-clause-does : goal.returns-in-Some-clause-does
returns-in-Some-clause-does c =
    let own : OwnView = own_of c.args.self.now.own in
    let core : EndView Kind = c.args.self.now.core in
    leads_so own (Tick c.args.now) (failed_turn c.args.now (failed_at core c.args.now) own) core c.tick.new.self
    c.args.out.now c.tick.new.out (node_of c.end_talk.new.self) c.end_talk.new.out c.end_talk.result
    c.tick.ensures.carries
    (after-tick printed_note c.args.now (on_the_way core c.args.out.now) (on_the_way c.tick.new.self c.tick.new.out)
    c.tick.ensures.carries)
    (subst
    (λ (failed : Option Header). Takes (failed_turn c.args.now failed own c.tick.new.self) (node own c.tick.new.self)
    c.tick.new.out (node_of c.end_talk.new.self) c.end_talk.new.out c.end_talk.result)
    (sym c.in-Some.is ∙ c.tick.ensures.failed) c.end_talk.ensures.does)
