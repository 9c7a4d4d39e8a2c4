-- Losing those that are left leads where losing all does.

use Rattle.std.proofs.Common.{◌≡◌}
use Rattle.line_way.specs.Kept.{direction_to, with_direction}
use Rattle.end_pair.specs.World.{lost}
use Rattle.end_pair.proofs.world.lose_from.Given as goal

abbrev pub invariant-characters : goal.invariant-characters
invariant-characters l =
    (with_direction l.side (lost l.left (direction_to l.side l.ways)) l.ways
    ≡ with_direction l.side (lost l.n (direction_to l.side l.fn.ways)) l.fn.ways)
    × (l.ways.written ≡ l.fn.ways.written)

abbrev pub decreases-characters : goal.decreases-characters
decreases-characters l = l.left
