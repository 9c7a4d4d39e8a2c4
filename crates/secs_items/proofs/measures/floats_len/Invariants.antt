-- The length of the floats so far.

use Rattle.std.proofs.Common.{◌≡◌, length, take}
use Rattle.std.specs.List.{flat_map}
use Rattle.secs_items.specs.Measures.{capped}
use Rattle.secs_items.proofs.measures.floats_len.Given as goal

abbrev pub invariant-loop-float : goal.invariant-loop-float
invariant-loop-float g l = l.content ≡ capped (length (flat_map (λ bytes. bytes) (take l.float-index l.floats)))
