-- The value is none of those so far.

use Rattle.std.proofs.Common.{◌≢◌, ◌<◌, ℕ, get_or}
use Rattle.secs_items.specs.declared.item.Item.{Item}
use Rattle.gem_remote.proofs.remote.is_allowed.Given as goal

abbrev pub invariant-loop-allowed : goal.invariant-loop-allowed
invariant-loop-allowed l = (k : ℕ) (d : Item) → k < l.allowed-index → get_or l.values k d ≢ l.value
