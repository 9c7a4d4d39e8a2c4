-- The elements so far and those of the rest are all.

use Rattle.std.proofs.Common.{◌≤◌, length}
use Rattle.secs_text.specs.Reading.{element_next, elements_at}
use Rattle.secs_text.proofs.Each.{SoFar}
use Rattle.secs_text.proofs.reading.elements_of.Given as goal

abbrev pub invariant-elements : goal.invariant-elements
invariant-elements g l = record {
  so_far : SoFar element_next g.F.Form.element_at l.total l.elements l.rest (elements_at g.F.Form.element_at l.total l.bytes);
  within : length l.rest ≤ length l.bytes;
}

abbrev pub decreases-elements : goal.decreases-elements
decreases-elements g l = length l.rest
