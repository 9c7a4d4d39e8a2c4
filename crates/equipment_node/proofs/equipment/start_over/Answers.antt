use Rattle.equipment_node.proofs.HandingBack.{start-then}
use Rattle.equipment_node.proofs.SetupFound.{found-asks, found-fresh, found-is, found-over, found-sure, unfound-asks}
use Rattle.equipment_node.proofs.SetupFound.{unfound-over}
use Rattle.equipment_node.proofs.equipment.start_over.Goals as goal

pub start_found-requires : goal.start_found-requires
start_found-requires g c = record {
  plan = c.requires.plan;
  out = c.requires.out;
  holds = c.in-Ok.ensures.holds;
}

pub returns-in-Ok-clause-starts : goal.returns-in-Ok-clause-starts
returns-in-Ok-clause-starts g c fresh =
    let found = c.in-Ok.ensures in
    found-over g.D.Disk c.args.plan.now c.args.spool fresh c.in-Ok.spool c.in-Ok.setup found c.start_found.new.out
    c.start_found.result
    (c.start_found.ensures.starts
    (found-fresh g.D.Disk c.args.plan.now c.args.spool fresh c.in-Ok.spool c.in-Ok.setup found)
    (found-is g.D.Disk c.args.plan.now c.args.spool fresh c.in-Ok.spool c.in-Ok.setup found))

pub returns-in-Ok-clause-calls : goal.returns-in-Ok-clause-calls
returns-in-Ok-clause-calls g c fresh =
    let found = c.in-Ok.ensures in
    found-asks g.D.Disk c.args.plan.now c.args.spool fresh c.in-Ok.spool c.in-Ok.setup found c.start_found.result
    (c.start_found.ensures.calls
    (found-fresh g.D.Disk c.args.plan.now c.args.spool fresh c.in-Ok.spool c.in-Ok.setup found))

pub returns-in-Ok-clause-disk : goal.returns-in-Ok-clause-disk
returns-in-Ok-clause-disk g c =
    start-then g.D.Disk c.args.spool.disk c.in-Ok.spool.disk c.start_found.result c.in-Ok.ensures.kept
    c.start_found.ensures.disk

pub returns-in-Ok-clause-keeps : goal.returns-in-Ok-clause-keeps
returns-in-Ok-clause-keeps g c =
    found-sure g.D.Disk c.args.spool c.in-Ok.spool c.in-Ok.setup c.in-Ok.ensures c.start_found.result
    c.start_found.ensures.keeps

pub returns-in-Err-clause-starts : goal.returns-in-Err-clause-starts
returns-in-Err-clause-starts g c fresh =
    unfound-over g.D.Disk c.args.plan.now c.args.spool fresh c.args.out.now c.requires.out c.in-Err.why
    c.in-Err.ensures

pub returns-in-Err-clause-calls : goal.returns-in-Err-clause-calls
returns-in-Err-clause-calls g c fresh =
    unfound-asks g.D.Disk c.args.plan.now c.args.spool fresh c.in-Err.why c.in-Err.ensures

pub returns-in-Err-clause-disk : goal.returns-in-Err-clause-disk
returns-in-Err-clause-disk g c = c.in-Err.ensures.back
