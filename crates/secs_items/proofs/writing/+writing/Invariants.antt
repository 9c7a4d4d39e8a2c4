-- The items so far are in range and written, and the first fault of those that are left is that of all.

use Rattle.std.proofs.Common.{◌≡◌, ◌++◌, ◌-◌, length, take, drop}
use Rattle.std.specs.List.{flat_map, AllByRecursion}
use Rattle.secs_items.specs.Encoding.{fault_within, first_of}
use Rattle.secs_items.specs.Ranges.{InRange}
use Rattle.secs_items.specs.Spelling.{shortest_spelling}
use Rattle.secs_items.proofs.writing.+writing.Given as goal

abbrev pub invariant-put_items-loop-item : goal.invariant-put_items-loop-item
invariant-put_items-loop-item l = record {
  in_range : AllByRecursion InRange (take l.item-index l.items);
  written : l.into ≡ l.initial.into ++ flat_map shortest_spelling (take l.item-index l.items);
  faults : first_of (fault_within l.depth) (length l.into - l.start) (drop l.item-index l.items) ≡ first_of (fault_within l.depth) (length l.initial.into - l.start) l.items;
}
