-- What a character has brought: a block that failed, or one that came.

use Rattle.std.proofs.Common.{sym, subst, ◌∙◌}
use Rattle.trace_log.specs.Text.{printed_note}
use Rattle.message_end.specs.declared.end.Took.{Took}
use Rattle.message_end.specs.Calls.{took_at}
use Rattle.message_end.specs.Core.Command.{Take}
use Rattle.message_end.specs.Parts.{Takes, on_the_way}
use Rattle.message_end.proofs.Parts.{after-take}
use Rattle.host_node.specs.Calls.{HostNode}
use Rattle.host_node.specs.Host.{HostOwn, brings, takes}
use Rattle.host_node.proofs.Turned.{leads_so, node}
use Rattle.host_node.proofs.host.Host.take.Goals as goal

pub returns-in-Ok-Failed-clause-takes : goal.returns-in-Ok-Failed-clause-takes
returns-in-Ok-Failed-clause-takes c =
    let own : HostOwn = record {
      plan = c.self.inside.plan;
      comms = c.self.inside.comms;
      delivered = c.self.inside.delivered;
    } in
    let core = c.self.inside.core in
    subst
    (λ (s : HostNode).
    Takes (takes c.args.byte c.args.now s.own s.core) s c.args.out.now c.break_off.new.self c.break_off.new.out
    c.break_off.result)
    c.self.view_is
    (leads_so own (Take c.args.byte c.args.now) (λ behind. brings own behind (took_at core c.args.byte c.args.now))
    core
    c.take.new.self c.args.out.now c.take.new.out c.break_off.new.self c.break_off.new.out c.break_off.result
    c.in-Ok-Failed.ensures.carries
    (after-take printed_note c.args.byte c.args.now (on_the_way core c.args.out.now)
    (on_the_way c.take.new.self c.take.new.out) c.in-Ok-Failed.ensures.carries)
    (subst
    (λ (brought : Took).
    Takes (brings own c.take.new.self brought) (node own c.take.new.self) c.take.new.out c.break_off.new.self
    c.break_off.new.out c.break_off.result)
    (sym c.in-Ok-Failed.field-0-is ∙ c.in-Ok-Failed.ensures.took) c.break_off.ensures.takes))

pub returns-in-Ok-Came-clause-takes : goal.returns-in-Ok-Came-clause-takes
returns-in-Ok-Came-clause-takes c =
    let own : HostOwn = record {
      plan = c.self.inside.plan;
      comms = c.self.inside.comms;
      delivered = c.self.inside.delivered;
    } in
    let core = c.self.inside.core in
    subst
    (λ (s : HostNode).
    Takes (takes c.args.byte c.args.now s.own s.core) s c.args.out.now c.judge.new.self c.judge.new.out
    c.judge.result)
    c.self.view_is
    (leads_so own (Take c.args.byte c.args.now) (λ behind. brings own behind (took_at core c.args.byte c.args.now))
    core
    c.take.new.self c.args.out.now c.take.new.out c.judge.new.self c.judge.new.out c.judge.result
    c.in-Ok-Came.ensures.carries
    (after-take printed_note c.args.byte c.args.now (on_the_way core c.args.out.now)
    (on_the_way c.take.new.self c.take.new.out) c.in-Ok-Came.ensures.carries)
    (subst
    (λ (brought : Took).
    Takes (brings own c.take.new.self brought) (node own c.take.new.self) c.take.new.out c.judge.new.self
    c.judge.new.out c.judge.result)
    (sym c.in-Ok-Came.field-0-is ∙ c.in-Ok-Came.ensures.took) c.judge.ensures.takes))
