-- Those that are left decide as all do.

use Rattle.std.proofs.Common.{◌≡◌, ◌≤◌, ◌-◌, length, drop}
use Rattle.line_way.specs.Kept.{are_front}
use Rattle.line_way.proofs.slip.are_front.Given as goal

abbrev pub invariant-places : goal.invariant-places
invariant-places l =
    (l.place ≤ length l.characters)
    × (are_front l.frame l.place (drop l.place l.characters) ≡ are_front l.frame 0 l.characters)

abbrev pub decreases-places : goal.decreases-places
decreases-places l = length l.characters - l.place
