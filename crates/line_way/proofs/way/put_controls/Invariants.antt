-- The characters so far are under way, as controls.

use Rattle.std.proofs.Common.{◌≡◌, ◌≤◌, ◌-◌, ◌++◌, length, map, take}
use Rattle.line_way.specs.Kept.{control}
use Rattle.line_way.proofs.way.put_controls.Given as goal

abbrev pub invariant-places : goal.invariant-places
invariant-places l =
    (l.place ≤ length l.written) × (l.under_way.items ≡ l.fn.under_way.items ++ map control (take l.place l.written))

abbrev pub decreases-places : goal.decreases-places
decreases-places l = length l.written - l.place
