-- A block that failed at its deadline breaks all off.

use Rattle.std.proofs.Common.{sym, subst, ◌∙◌, Option}
use Rattle.block_codec.specs.declared.header.Header.{Header}
use Rattle.trace_log.specs.Text.{printed_note}
use Rattle.message_end.specs.Calls.{failed_at}
use Rattle.message_end.specs.Core.Command.{Tick}
use Rattle.message_end.specs.Parts.{Takes, on_the_way}
use Rattle.message_end.proofs.Parts.{after-tick}
use Rattle.host_node.specs.Calls.{HostNode}
use Rattle.host_node.specs.Host.{HostOwn, breaks, ticks, undelivered}
use Rattle.host_node.proofs.Turned.{leads_so, node}
use Rattle.host_node.proofs.host.Host.tick.Goals as goal

pub returns-in-Some-clause-takes : goal.returns-in-Some-clause-takes
returns-in-Some-clause-takes c =
    let own : HostOwn = record {
      plan = c.self.inside.plan;
      comms = c.self.inside.comms;
      delivered = c.self.inside.delivered;
    } in
    let core = c.self.inside.core in
    subst
    (λ (s : HostNode).
    Takes (ticks c.args.now s.own s.core) s c.args.out.now c.break_off.new.self c.break_off.new.out
    c.break_off.result)
    c.self.view_is
    (leads_so own (Tick c.args.now) (λ behind. breaks (undelivered own) behind (failed_at core c.args.now)) core
    c.tick.new.self c.args.out.now c.tick.new.out c.break_off.new.self c.break_off.new.out c.break_off.result
    c.tick.ensures.carries
    (after-tick printed_note c.args.now (on_the_way core c.args.out.now) (on_the_way c.tick.new.self c.tick.new.out)
    c.tick.ensures.carries)
    (subst
    (λ (failed : Option Header).
    Takes (breaks (undelivered own) c.tick.new.self failed) (node (undelivered own) c.tick.new.self) c.tick.new.out
    c.break_off.new.self c.break_off.new.out c.break_off.result)
    (sym c.in-Some.is ∙ c.tick.ensures.failed) c.break_off.ensures.takes))
