use Rattle.std.proofs.Common.{inr}
use Rattle.journal_node.proofs.Openings.{follows, most, opens-with, opens-without, ready-then}
use Rattle.journal_node.proofs.disk_step.reserve_more.Goals as goal

pub refill-requires : goal.refill-requires
refill-requires g c = record {
  most = most g.D.Disk c.args.journal c.in-Ok.journal _ c.in-Some.base c.in-Some.is c.in-Ok.ensures.reserve;
  follows =
      follows g.D.Disk c.args.journal c.in-Ok.journal _ c.in-Some.base c.in-Some.is c.in-Ok.ensures.reserve
      c.args.host.now c.requires.ready;
}

pub returns-in-Some-clause-opens : goal.returns-in-Some-clause-opens
returns-in-Some-clause-opens g c =
    inr (opens-with g.D.Disk c.args.journal c.in-Ok.journal _ c.in-Some.base c.in-Some.is c.in-Ok.ensures.reserve
    c.args.host.now c.refill.new.self c.requires.few c.refill.ensures c.in-Ok.ensures.stands c.in-Ok.ensures.moments)

pub returns-in-Some-clause-ready : goal.returns-in-Some-clause-ready
returns-in-Some-clause-ready g c =
    ready-then g.D.Disk c.args.journal c.in-Ok.journal _ c.in-Some.base c.in-Some.is c.in-Ok.ensures.reserve
    c.args.host.now c.refill.new.self c.requires.ready c.refill.ensures

pub returns-in-None-clause-opens : goal.returns-in-None-clause-opens
returns-in-None-clause-opens g c =
    opens-without g.D.Disk c.args.journal c.in-Ok.journal _ c.in-None.is c.in-Ok.ensures.reserve c.retire.result
    c.retire.ensures.disk c.args.host.now c.requires.few

pub returns-in-Err-clause-opens : goal.returns-in-Err-clause-opens
returns-in-Err-clause-opens g c =
    record { few = c.requires.few; reserve = c.in-Err.ensures.reserve; moments = c.in-Err.ensures.moments }
