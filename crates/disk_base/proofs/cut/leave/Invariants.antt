-- The bytes so far, with those of the places that are left, are what they were at first.

use Rattle.std.proofs.Common.{◌≡◌, ◌++◌, drop}
use Rattle.disk_base.specs.Cut.{bytes_left}
use Rattle.disk_base.proofs.cut.leave.Given as goal

abbrev pub invariant-loop-place : goal.invariant-loop-place
invariant-loop-place l =
    l.image.items ++ bytes_left l.choice (drop l.place l.marks) (drop l.place l.settled) (drop l.place l.now)
    ≡ l.fn.image.items
    ++ bytes_left l.fn.choice (drop l.fn.places.start l.marks) (drop l.fn.places.start l.settled)
    (drop l.fn.places.start l.now)
