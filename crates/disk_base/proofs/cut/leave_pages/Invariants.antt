-- The bytes so far, with those of the places that are left, are all.

use Rattle.std.proofs.Common.{◌≡◌, ◌-◌, ◌≤◌, ◌++◌, drop, length}
use Rattle.disk_base.specs.Cut.{bytes_left}
use Rattle.disk_base.proofs.cut.leave_pages.Given as goal

abbrev pub invariant-loop-place : goal.invariant-loop-place
invariant-loop-place l =
    (l.place ≤ length l.now)
    × (l.image.items ++ bytes_left l.choice (drop l.place l.marks) (drop l.place l.settled) (drop l.place l.now)
    ≡ l.fn.image.items ++ bytes_left l.fn.choice l.marks l.settled l.now)

abbrev pub decreases-loop-place : goal.decreases-loop-place
decreases-loop-place l = length l.now - l.place
