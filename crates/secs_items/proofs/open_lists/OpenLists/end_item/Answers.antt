-- A list that wants no more is left.

use Rattle.std.proofs.Common.{◌≡◌, ◌<◌, ◌+◌, ◌-◌, length, sym, ◌∙◌, arith}
use Rattle.std.proofs.Math.ListN.{get_or}
use Rattle.secs_items.proofs.OpenLists.{behind_none, clear_more}
use Rattle.secs_items.proofs.open_lists.OpenLists.end_item.Goals as goal

pub loop-self-preserved : goal.loop-self-preserved
loop-self-preserved c =
    let left = c.loop-self.self-inside.left in
    let depth = c.loop-self.self-inside.depth in
    let was = c.loop-self.invariant in
    let some : 0 < depth = c.loop-self-test.true in
    let next : depth ≡ depth - 1 + 1 = omega (arith, some) in
    let within : depth - 1 < length left = omega (arith, some, was.few, was.long) in
    let none : get_or left (depth - 1) 0 ≡ 0 = omega (arith, c.if-self-top-gt0.false) in
    record {
      so_far = sym (behind_none left (depth - 1) depth next within none) ∙ was.so_far;
      few = omega (arith, was.few);
      long = was.long;
      clear = clear_more left (depth - 1) depth next was.few was.long none was.clear;
    }
