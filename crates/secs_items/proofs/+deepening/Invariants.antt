-- The depth of the deepest item so far.

use Rattle.std.proofs.Common.{◌≡◌, map, take}
use Rattle.secs_items.specs.Measures.{capped, deepest, depth_of}
use Rattle.secs_items.proofs.+deepening.Given as goal

abbrev pub invariant-measures::depth_of_all-loop-item : goal.invariant-measures::depth_of_all-loop-item
invariant-measures::depth_of_all-loop-item l = l.most ≡ capped (deepest (map depth_of (take l.item-index l.items)))
