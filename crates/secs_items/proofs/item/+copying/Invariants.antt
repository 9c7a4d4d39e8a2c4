-- The items so far are copied.

use Rattle.std.proofs.Common.{◌≡◌, take}
use Rattle.secs_items.proofs.item.+copying.Given as goal

abbrev pub invariant-copy_items-loop-item : goal.invariant-copy_items-loop-item
invariant-copy_items-loop-item l = l.copies ≡ take l.item-index l.items
