use Rattle.std.proofs.Common.{refl, subst}
use Rattle.message_end.specs.declared.end.Stop.{Stop}
use Rattle.equipment_node.specs.Amid.{StopsAt}
use Rattle.tool_core.specs.Node.{node_of}
use Rattle.equipment_node.proofs.HandingBack.{kept-at}
use Rattle.equipment_node.proofs.OverDisk.{no-memory}
use Rattle.equipment_node.proofs.StepCalls.{none-called}
use Rattle.equipment_node.proofs.disk_step.end_early.Goals as goal

pub stop_spent-requires : goal.stop_spent-requires
stop_spent-requires g c = record { counted = c.requires.counted c.in-NumbersSpent.is; holds = c.requires.holds }

pub returns-in-NumbersSpent-clause-acts : goal.returns-in-NumbersSpent-clause-acts
returns-in-NumbersSpent-clause-acts g c s input now stops begin =
    c.stop_spent.ensures.acts s input now
    (subst (λ (end : Stop). StopsAt s input now (node_of c.args.tool.now) c.args.out.now end) c.in-NumbersSpent.is
    stops)
    begin

pub returns-in-NoMemory-clause-acts : goal.returns-in-NoMemory-clause-acts
returns-in-NoMemory-clause-acts g c s input now stops begin after notes quiet =
    no-memory g.D.Disk s input now begin.went c.args.spool (node_of c.args.tool.now) after c.retire.result
    c.retire.ensures.disk begin.clear after refl quiet

pub returns-in-Full-clause-acts : goal.returns-in-Full-clause-acts
returns-in-Full-clause-acts g c s input now stops begin =
    absurd (subst (λ (end : Stop). StopsAt s input now (node_of c.args.tool.now) c.args.out.now end) c.in-Full.is stops)

pub returns-in-DiskFailed-clause-acts : goal.returns-in-DiskFailed-clause-acts
returns-in-DiskFailed-clause-acts g c s input now stops begin =
    absurd
    (subst (λ (end : Stop). StopsAt s input now (node_of c.args.tool.now) c.args.out.now end) c.in-DiskFailed.is stops)

pub returns-in-NumbersSpent-clause-calls : goal.returns-in-NumbersSpent-clause-calls
returns-in-NumbersSpent-clause-calls g c s input now stops begin =
    c.stop_spent.ensures.calls s input now
    (subst (λ (end : Stop). StopsAt s input now (node_of c.args.tool.now) c.args.out.now end) c.in-NumbersSpent.is
    stops)
    begin

pub returns-in-NoMemory-clause-calls : goal.returns-in-NoMemory-clause-calls
returns-in-NoMemory-clause-calls g c s input now stops begin =
    none-called g.D.Disk s input now c.args.spool begin.clear begin.told c.retire.result c.retire.ensures.disk

pub returns-in-Full-clause-calls : goal.returns-in-Full-clause-calls
returns-in-Full-clause-calls g c s input now stops begin =
    absurd (subst (λ (end : Stop). StopsAt s input now (node_of c.args.tool.now) c.args.out.now end) c.in-Full.is stops)

pub returns-in-DiskFailed-clause-calls : goal.returns-in-DiskFailed-clause-calls
returns-in-DiskFailed-clause-calls g c s input now stops begin =
    absurd
    (subst (λ (end : Stop). StopsAt s input now (node_of c.args.tool.now) c.args.out.now end) c.in-DiskFailed.is stops)

pub returns-in-NumbersSpent-clause-disk : goal.returns-in-NumbersSpent-clause-disk
returns-in-NumbersSpent-clause-disk g c going = c.stop_spent.ensures.disk

pub returns-in-NoMemory-clause-disk : goal.returns-in-NoMemory-clause-disk
returns-in-NoMemory-clause-disk g c going =
    kept-at g.D.Disk c.args.spool.spool.disk c.retire.result.disk c.retire.ensures.disk

pub returns-in-Full-clause-disk : goal.returns-in-Full-clause-disk
returns-in-Full-clause-disk g c going =
    kept-at g.D.Disk c.args.spool.spool.disk c.retire-in-Full.result.disk c.retire-in-Full.ensures.disk

pub returns-in-DiskFailed-clause-disk : goal.returns-in-DiskFailed-clause-disk
returns-in-DiskFailed-clause-disk g c going = absurd (going c.in-DiskFailed.is)

pub returns-in-NumbersSpent-clause-breaks : goal.returns-in-NumbersSpent-clause-breaks
returns-in-NumbersSpent-clause-breaks g c s input now stops begin =
    c.stop_spent.ensures.breaks s input now
    (subst (λ (end : Stop). StopsAt s input now (node_of c.args.tool.now) c.args.out.now end) c.in-NumbersSpent.is
    stops)
    begin

pub returns-in-Full-clause-breaks : goal.returns-in-Full-clause-breaks
returns-in-Full-clause-breaks g c s input now stops begin =
    absurd (subst (λ (end : Stop). StopsAt s input now (node_of c.args.tool.now) c.args.out.now end) c.in-Full.is stops)

pub returns-in-DiskFailed-clause-breaks : goal.returns-in-DiskFailed-clause-breaks
returns-in-DiskFailed-clause-breaks g c s input now stops begin =
    absurd
    (subst (λ (end : Stop). StopsAt s input now (node_of c.args.tool.now) c.args.out.now end) c.in-DiskFailed.is stops)
