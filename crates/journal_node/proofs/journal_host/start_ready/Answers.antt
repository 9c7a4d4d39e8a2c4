use Rattle.journal_node.proofs.Openings.{goes-on, mark-then, most, starts-without, version-then}
use Rattle.journal_node.proofs.journal_host.start_ready.Goals as goal

pub start_with-requires : goal.start_with-requires
start_with-requires g c = record {
  plan = c.requires.plan;
  out = c.requires.out;
  numbers = most g.D.Disk c.args.journal c.in-Ok.journal _ c.in-Some.base c.in-Some.is c.in-Ok.ensures.reserve;
  version =
      version-then g.D.Disk c.args.journal c.in-Ok.journal _ c.in-Some.base c.in-Some.is c.in-Ok.ensures.reserve
      c.requires.version;
  mark = mark-then g.D.Disk c.args.journal c.in-Ok.journal _ c.in-Some.base c.in-Some.is c.in-Ok.ensures.reserve;
}

pub returns-in-Some : goal.returns-in-Some
returns-in-Some g c =
    goes-on g.D.Disk c.args.journal c.in-Ok.journal _ c.in-Some.base c.in-Some.is c.in-Ok.ensures.reserve c.args.plan
    c.start_with.new.out c.start_with.result c.in-Ok.ensures.stands c.in-Ok.ensures.moments c.start_with.ensures

pub returns-in-None : goal.returns-in-None
returns-in-None g c =
    starts-without g.D.Disk c.args.journal c.in-Ok.journal _ c.in-None.is c.in-Ok.ensures.reserve c.retire.result
    c.retire.ensures.disk c.args.out.now c.requires.out

pub returns-in-Err : goal.returns-in-Err
returns-in-Err g c =
    record { reserve = c.in-Err.ensures.reserve; moments = c.in-Err.ensures.moments; empty = c.requires.out }
