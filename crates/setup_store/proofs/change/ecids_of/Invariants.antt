-- The ECIDs so far.

use Rattle.std.proofs.Common.{◌≡◌, map, take}
use Rattle.setup_store.proofs.change.ecids_of.Given as goal

abbrev pub invariant-loop-ecid : goal.invariant-loop-ecid
invariant-loop-ecid l = l.ecids ≡ map (λ e. e.0) (take l.ecid-index l.list)
