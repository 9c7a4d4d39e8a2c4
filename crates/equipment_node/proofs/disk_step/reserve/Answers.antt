use Rattle.std.proofs.Common.{sym}
use Rattle.tool_core.specs.Node.{node_of}
use Rattle.equipment_node.proofs.HandingBack.{kept-still}
use Rattle.equipment_node.proofs.Opened.{made-ordered, need, no-need, opened-plain}
use Rattle.equipment_node.proofs.StepCalls.{not-reserved}
use Rattle.equipment_node.proofs.StepBreaks.{unreserved-breaks}
use Rattle.equipment_node.proofs.disk_step.reserve.Goals as goal

pub returns-then-has_enough-clause-opens : goal.returns-then-has_enough-clause-opens
returns-then-has_enough-clause-opens g c s node_is on told =
    opened-plain g.D.Disk s (node_of c.args.tool.now) c.args.spool node_is
    (no-need s (node_of c.args.tool.now) node_is (sym c.if-has_enough.ensures)) on.clear told on.made.did.sound.area

pub returns-clause-opens : goal.returns-clause-opens
returns-clause-opens g c s node_is on told =
    c.reserve_more.ensures.opens s node_is
    (need s (node_of c.args.tool.now) node_is (sym c.if-has_enough.ensures)
    (made-ordered s on.made))
    on told

pub returns-then-has_enough-clause-calls : goal.returns-then-has_enough-clause-calls
returns-then-has_enough-clause-calls g c s node_is on told =
    not-reserved g.D.Disk s c.args.spool.spool.disk
    (no-need s (node_of c.args.tool.now) node_is (sym c.if-has_enough.ensures))

pub returns-clause-calls : goal.returns-clause-calls
returns-clause-calls g c s node_is on told =
    c.reserve_more.ensures.calls s node_is
    (need s (node_of c.args.tool.now) node_is (sym c.if-has_enough.ensures) (made-ordered s on.made)) on told

pub returns-then-has_enough-clause-disk : goal.returns-then-has_enough-clause-disk
returns-then-has_enough-clause-disk g c = kept-still g.D.Disk c.args.spool.spool.disk

pub returns-clause-disk : goal.returns-clause-disk
returns-clause-disk g c = c.reserve_more.ensures.disk

pub returns-then-has_enough-clause-breaks : goal.returns-then-has_enough-clause-breaks
returns-then-has_enough-clause-breaks g c s node_is on told noted =
    unreserved-breaks g.D.Disk s c.args.spool.spool.disk
    (no-need s (node_of c.args.tool.now) node_is (sym c.if-has_enough.ensures))

pub returns-clause-breaks : goal.returns-clause-breaks
returns-clause-breaks g c s node_is on told noted =
    c.reserve_more.ensures.breaks s node_is
    (need s (node_of c.args.tool.now) node_is (sym c.if-has_enough.ensures) (made-ordered s on.made)) on told noted
