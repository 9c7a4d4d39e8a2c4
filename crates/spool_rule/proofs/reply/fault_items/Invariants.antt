-- The items so far.

use Rattle.std.proofs.Common.{◌≡◌, map, take}
use Rattle.spool_rule.specs.Reply.{fault_item}
use Rattle.spool_rule.proofs.reply.fault_items.Given as goal

abbrev pub invariant-loop-fault : goal.invariant-loop-fault
invariant-loop-fault l = l.items ≡ map fault_item (take l.fault-index l.faults)
