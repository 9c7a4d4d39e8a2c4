-- Why the passing over ends, and what holds at each item of a list.

use Rattle.std.proofs.Common.{◌≡◌, ◌+◌, ◌-◌, ◌*◌, ◌≤◌, length}
use Rattle.secs_items.specs.Reading.{after_each, after_item}
use Rattle.secs_items.proofs.item_view.+skipping.Given as goal

-- a list is passed over with one list less to nest in
abbrev pub decreases-skip_item : goal.decreases-skip_item
decreases-skip_item l = 3 * l.depth + 2

abbrev pub decreases-skip_content : goal.decreases-skip_content
decreases-skip_content l = 3 * l.depth + 1

abbrev pub decreases-skip_items : goal.decreases-skip_items
decreases-skip_items l = 3 * l.depth + 3

-- what is left after the rest of the items is what is left after all
abbrev pub invariant-skip_items-loop : goal.invariant-skip_items-loop
invariant-skip_items-loop l = record {
  so_far : after_each (after_item l.total l.depth) (l.count - l.counter) l.rest ≡ after_each (after_item l.total l.depth) l.count l.bytes;
  within : length l.rest ≤ length l.bytes;
}
