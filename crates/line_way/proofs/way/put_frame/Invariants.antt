-- The characters so far, with those that are left, are the frame under way.

use Rattle.std.proofs.Common.{◌≡◌, ◌≤◌, ◌-◌, ◌++◌, length, drop}
use Rattle.line_way.specs.Kept.{framed_from}
use Rattle.line_way.proofs.way.put_frame.Given as goal

abbrev pub invariant-places : goal.invariant-places
invariant-places l =
    (l.place ≤ length l.written)
    × (l.under_way.items ++ framed_from l.frame l.place (drop l.place l.written)
    ≡ l.fn.under_way.items ++ framed_from l.frame 0 l.written)

abbrev pub decreases-places : goal.decreases-places
decreases-places l = length l.written - l.place
