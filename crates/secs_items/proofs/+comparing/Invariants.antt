-- The items so far are equal.

use Rattle.std.proofs.Common.{◌≡◌, take}
use Rattle.secs_items.proofs.+comparing.Given as goal

abbrev pub invariant-equality::are_equal-loop-i : goal.invariant-equality::are_equal-loop-i
invariant-equality::are_equal-loop-i l = take l.i l.items ≡ take l.i l.others
