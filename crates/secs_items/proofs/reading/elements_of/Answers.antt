-- One element more is read off the front of the rest.

use Rattle.std.proofs.Common.{◌+◌, ◌-◌, ◌*◌, ◌/◌, length}
use Rattle.secs_items.proofs.ElementLoop.{element_more, left_more, left_after}
use Rattle.secs_items.proofs.reading.elements_of.Goals as goal

pub loop-preserved : goal.loop-preserved
loop-preserved g c =
    let size = g.T.Element.SIZE in
    let count = length c.args.bytes.now / size in
    let before = rw c.SIZE.ensures at c.loop-test.true in
    let more = left_more size (length c.loop.rest.now) count c.loop.counter before c.loop.invariant.left in
    record {
      left = left_after size (length c.loop.rest.now) (length c.split_at.result.1.now) c.SIZE-in-loop.result (size * (count - (c.loop.counter + 1))) more c.SIZE-in-loop.ensures c.split_at.ensures.back_len;
      so_far = rw (c.in_ok-push.ensures.ok, c.read.ensures, c.split_at.ensures.front, c.split_at.ensures.back, c.SIZE-in-loop.ensures) (element_more g.T.Element.element_of size count c.loop.counter c.loop.row c.loop.rest.now _ before c.loop.invariant.so_far);
    }
