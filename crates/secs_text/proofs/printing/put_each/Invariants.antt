-- The elements so far fit and are put.

use Rattle.std.proofs.Common.{◌≡◌, ◌++◌, take}
use Rattle.std.specs.List.{AllByRecursion}
use Rattle.secs_text.specs.Text.{spaced_texts}
use Rattle.secs_text.proofs.printing.put_each.Given as goal

abbrev pub invariant-loop-element : goal.invariant-loop-element
invariant-loop-element g l = record {
  fit : AllByRecursion g.F.Form.fits (take l.element-index l.elements);
  written : l.into ≡ l.initial.into ++ spaced_texts g.F.Form.text (take l.element-index l.elements);
}
