-- The messages so far were read, and those behind them take the slots that are left.

use Rattle.equipment_node.proofs.ReadSizes.{IsUnderWay}
use Rattle.equipment_node.proofs.sizes.read_sizes.Given as goal

abbrev pub invariant-messages : goal.invariant-messages
invariant-messages g l = IsUnderWay g.D.Disk l.fn.spool l.spool l.number l.left l.at l.sizes
