-- Why the reading ends, and what holds at each item of a list.

use Rattle.std.proofs.Common.{◌+◌, ◌*◌, ◌≤◌, length}
use Rattle.secs_text.specs.Grammar.{Kept}
use Rattle.secs_text.specs.Reading.{element_next, elements_at, item_at}
use Rattle.secs_text.proofs.Each.{SoFar}
use Rattle.secs_text.proofs.reading.+reading.Given as goal

-- a list reads its items with one list less to nest in
abbrev pub decreases-item_of : goal.decreases-item_of
decreases-item_of l = 2 * l.depth + 1

abbrev pub decreases-items_of : goal.decreases-items_of
decreases-items_of l = 2 * l.depth + 2

-- the items so far and those of the rest are all
abbrev pub invariant-items_of-items : goal.invariant-items_of-items
invariant-items_of-items l = record {
  so_far : SoFar element_next (item_at Kept l.depth) l.total l.items l.rest (elements_at (item_at Kept l.depth) l.total l.bytes);
  within : length l.rest ≤ length l.bytes;
}

abbrev pub decreases-items_of-items : goal.decreases-items_of-items
decreases-items_of-items l = length l.rest
