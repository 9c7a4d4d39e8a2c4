-- All messages end, and then the communication.

use Rattle.std.proofs.Common.{subst, [], Some}
use Rattle.message_end.specs.Parts.{Takes}
use Rattle.host_node.specs.declared.comms.HostComms.{HostComms}
use Rattle.host_node.specs.Calls.{HostNode}
use Rattle.host_node.specs.Host.{HostOwn, breaks, ends_all, enters, failed_comms}
use Rattle.host_node.proofs.Turned.{ends_so, node}
use Rattle.host_node.proofs.host.Host.break_off.Goals as goal

pub returns-clause-takes : goal.returns-clause-takes
returns-clause-takes c =
    let own : HostOwn = record {
      plan = c.self.inside.plan;
      comms = c.self.inside.comms;
      delivered = c.self.inside.delivered;
    } in
    subst
    (λ (s : HostNode).
    Takes (breaks s.own s.core (Some c.args.header.now)) s c.args.out.now c.enter.new.self c.enter.new.out
    c.enter.result)
    c.self.view_is
    (ends_so own (failed_comms own.comms) (ends_all c.self.inside.core (Some c.args.header.now)) c.self.inside.core
    c.end_all.new.core c.args.out.now c.end_all.new.out c.enter.new.self c.enter.new.out c.enter.result
    c.in_ok-end_all.ensures.does
    (subst
    (λ (next : HostComms).
    Takes (enters own next []) (node own c.end_all.new.core) c.end_all.new.out c.enter.new.self c.enter.new.out
    c.enter.result)
    c.failed-next.ensures c.enter.ensures.takes))
