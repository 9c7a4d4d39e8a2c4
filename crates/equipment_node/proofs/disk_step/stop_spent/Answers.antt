use Rattle.std.proofs.Common.{ap}
use Rattle.std.specs.Prelude.{None, Ok, Err}
use Rattle.message_flow.specs.declared.step.StepOut.{StepOut}
use Rattle.tool_core.specs.Node.{node_of}
use Rattle.equipment_node.proofs.HandingBack.{kept-at, kept-then, works-back}
use Rattle.equipment_node.proofs.OverDisk.{carry-spent-failed, spent-before}
use Rattle.equipment_node.proofs.StepCalls.{spent-called, spent-stops}
use Rattle.equipment_node.proofs.StepBreaks.{spent-breaks, spent-broken}
use Rattle.equipment_node.proofs.disk_step.stop_spent.Goals as goal

pub returns-in-Ok-clause-acts : goal.returns-in-Ok-clause-acts
returns-in-Ok-clause-acts g c s input now stops begin =
    spent-before g.D.Disk s input now begin.went c.args.spool c.in-Ok.spool (node_of c.args.tool.now)
    (node_of c.carry_out.new.tool) c.args.out.now c.carry_out.new.out c.retire.result stops begin.clear
    begin.told c.requires.counted c.in-Ok.ensures.fit c.in-Ok.ensures.works.0 c.retire.ensures.disk
    (ap (λ (out : StepOut). out.notes) c.in-Ok.ensures.works.1)

pub returns-in-Err-clause-acts : goal.returns-in-Err-clause-acts
returns-in-Err-clause-acts g c s input now stops begin =
    carry-spent-failed g.D.Disk s input now begin.went c.args.spool (node_of c.args.tool.now) c.args.out.now stops
    begin.clear begin.told c.requires.counted c.in-Err.ensures.fit (node_of c.carry_out.new.tool) c.carry_out.new.out
    c.in-Err.ended c.in-Err.ensures.works

pub returns-in-Ok-clause-calls : goal.returns-in-Ok-clause-calls
returns-in-Ok-clause-calls g c s input now stops begin =
    spent-called g.D.Disk s input now c.args.spool begin.clear begin.told c.in-Ok.spool (node_of c.args.tool.now)
    c.args.out.now stops c.retire.result c.requires.counted c.in-Ok.ensures.fit c.in-Ok.ensures.works.0
    c.retire.ensures.disk

pub returns-in-Err-clause-calls : goal.returns-in-Err-clause-calls
returns-in-Err-clause-calls g c s input now stops begin =
    spent-stops g.D.Disk s input now c.args.spool begin.clear begin.told (node_of c.args.tool.now) c.args.out.now
    c.carry_out.new.out stops c.in-Err.ended c.requires.counted c.in-Err.ensures.fit
    c.in-Err.ensures.works

pub returns-in-Ok-clause-disk : goal.returns-in-Ok-clause-disk
returns-in-Ok-clause-disk g c =
    kept-then g.D.Disk c.args.spool.spool.disk c.in-Ok.spool.spool.disk c.retire.result.disk
    (works-back g.D.Disk c.args.spool _ None c.args.out.now c.carry_out.new.out (Ok c.in-Ok.spool) c.in-Ok.ensures.works)
    (kept-at g.D.Disk c.in-Ok.spool.spool.disk c.retire.result.disk c.retire.ensures.disk)

pub returns-in-Err-clause-disk : goal.returns-in-Err-clause-disk
returns-in-Err-clause-disk g c =
    works-back g.D.Disk c.args.spool _ None c.args.out.now c.carry_out.new.out (Err c.in-Err.ended) c.in-Err.ensures.works

pub returns-in-Ok-clause-breaks : goal.returns-in-Ok-clause-breaks
returns-in-Ok-clause-breaks g c s input now stops begin =
    spent-breaks g.D.Disk s input now c.args.spool begin.clear begin.told c.in-Ok.spool (node_of c.args.tool.now)
    c.args.out.now stops c.carry_out.new.out.notes c.retire.result c.requires.counted c.in-Ok.ensures.fit
    c.in-Ok.ensures.works.0 c.retire.ensures.disk

pub returns-in-Err-clause-breaks : goal.returns-in-Err-clause-breaks
returns-in-Err-clause-breaks g c s input now stops begin =
    spent-broken g.D.Disk s input now c.args.spool begin.clear begin.told (node_of c.args.tool.now)
    c.args.out.now c.carry_out.new.out stops c.in-Err.ended c.requires.counted c.in-Err.ensures.fit
    c.in-Err.ensures.works
