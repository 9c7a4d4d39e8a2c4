-- The elements so far fit and are written.

use Rattle.std.proofs.Common.{◌≡◌, ◌++◌, take}
use Rattle.std.specs.List.{flat_map, AllByRecursion}
use Rattle.secs_items.proofs.writing.put_each.Given as goal

abbrev pub invariant-loop-element : goal.invariant-loop-element
invariant-loop-element g l = record {
  fit : AllByRecursion g.T.Element.fits (take l.element-index l.elements);
  written : l.into ≡ l.initial.into ++ flat_map g.T.Element.bytes_of (take l.element-index l.elements);
}
