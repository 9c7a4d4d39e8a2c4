-- None so far is open.

use Rattle.std.proofs.Common.{◌≡◌, false, slice_index}
use Rattle.spool_file.specs.Area.{any_below}
use Rattle.spool_slots.specs.Losses.{opens}
use Rattle.spool_slots.proofs.gates.any_open.Given as goal

abbrev pub invariant-loop-place : goal.invariant-loop-place
invariant-loop-place l = any_below (λ p. opens (slice_index l.fn.gates p)) l.place ≡ false
