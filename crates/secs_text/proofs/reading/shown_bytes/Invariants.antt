-- The bytes so far and those of the rest are all.

use Rattle.std.proofs.Common.{◌≤◌, length}
use Rattle.secs_text.specs.Reading.{each_at, shown_at, shown_next}
use Rattle.secs_text.proofs.Each.{SoFar}
use Rattle.secs_text.proofs.reading.shown_bytes.Given as goal

abbrev pub invariant-shown : goal.invariant-shown
invariant-shown l = record {
  so_far : SoFar shown_next shown_at l.total l.shown l.rest (each_at shown_next shown_at (length l.bytes) l.total l.bytes);
  within : length l.rest ≤ length l.bytes;
}

abbrev pub decreases-shown : goal.decreases-shown
decreases-shown l = length l.rest
