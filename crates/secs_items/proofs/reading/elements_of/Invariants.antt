-- The elements so far and those of the rest are all.

use Rattle.std.proofs.Common.{◌≡◌, ◌++◌, ◌-◌, ◌*◌, ◌/◌, length}
use Rattle.secs_items.specs.Elements.{elements_at}
use Rattle.secs_items.proofs.reading.elements_of.Given as goal

abbrev pub invariant-loop : goal.invariant-loop
invariant-loop g l =
    let size = g.T.Element.SIZE in
    let read = g.T.Element.element_of in
    let count = length l.bytes / size in
    record {
      left : length l.rest ≡ size * (count - l.counter);
      so_far : l.row ++ elements_at read size (count - l.counter) l.rest ≡ elements_at read size count l.bytes;
    }
