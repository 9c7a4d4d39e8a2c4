-- Why the leaving of lists ends, and that those left want no more.

use Rattle.std.proofs.Common.{◌≡◌, ◌-◌, ◌≤◌, length, take, drop}
use Rattle.std.specs.Prelude.{reverse}
use Rattle.std.proofs.Math.ListN.{replicate}
use Rattle.secs_items.specs.Checking.{open_behind}
use Rattle.secs_items.proofs.open_lists.OpenLists.end_item.Given as goal

abbrev pub decreases-loop-self : goal.decreases-loop-self
decreases-loop-self l = l.self-inside.depth

-- the lists that were left are none that wants more
abbrev pub invariant-loop-self : goal.invariant-loop-self
invariant-loop-self l = record {
  so_far : open_behind (reverse (take l.self-inside.depth l.self-inside.left))
      ≡ open_behind (reverse (take l.initial.self-inside.depth l.initial.self-inside.left));
  few : l.self-inside.depth ≤ 64;
  long : length l.self-inside.left ≡ 64;
  clear : drop l.self-inside.depth l.self-inside.left ≡ replicate (64 - l.self-inside.depth) 0;
}
