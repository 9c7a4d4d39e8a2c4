-- Why the reading ends, and what holds at each item of a list.

use Rattle.std.proofs.Common.{◌≡◌, ◌+◌, ◌-◌, ◌*◌, ◌≤◌, length}
use Rattle.secs_items.specs.Reading.{item_at, items_at}
use Rattle.secs_items.proofs.ItemLoop.{with_front}
use Rattle.secs_items.proofs.reading.+reading.Given as goal

-- a list reads its items with one list less to nest in
abbrev pub decreases-item_of : goal.decreases-item_of
decreases-item_of l = 2 * l.depth + 1

abbrev pub decreases-items_of : goal.decreases-items_of
decreases-items_of l = 2 * l.depth + 2

-- the items so far and those of the rest are all
abbrev pub invariant-items_of-loop : goal.invariant-items_of-loop
invariant-items_of-loop l = record {
  so_far : with_front l.items (items_at (item_at l.total l.depth) (l.count - l.counter) l.rest) ≡ items_at (item_at l.total l.depth) l.count l.bytes;
  within : length l.rest ≤ length l.bytes;
}
