-- The items so far are in range and put.

use Rattle.std.proofs.Common.{◌≡◌, ◌++◌, take}
use Rattle.std.specs.List.{AllByRecursion}
use Rattle.secs_items.specs.Ranges.{InRange}
use Rattle.secs_text.specs.Text.{spaced_texts, text_of}
use Rattle.secs_text.proofs.printing.+printing.Given as goal

abbrev pub invariant-put_list-loop-item : goal.invariant-put_list-loop-item
invariant-put_list-loop-item l = record {
  in_range : AllByRecursion InRange (take l.item-index l.items);
  written : l.into ≡ l.initial.into ++ spaced_texts text_of (take l.item-index l.items);
}
