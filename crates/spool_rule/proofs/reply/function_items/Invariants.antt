-- The items so far.

use Rattle.std.proofs.Common.{◌≡◌, map, take}
use Rattle.spool_rule.specs.Reply.{byte_item}
use Rattle.spool_rule.proofs.reply.function_items.Given as goal

abbrev pub invariant-loop-function : goal.invariant-loop-function
invariant-loop-function l = l.items ≡ map byte_item (take l.function-index l.functions)
