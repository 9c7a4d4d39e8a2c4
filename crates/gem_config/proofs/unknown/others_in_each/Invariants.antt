-- The least so far, with those that are left, is the least of all.

use Rattle.std.proofs.Common.{◌≡◌, drop}
use Rattle.toml.specs.View.{items_view}
use Rattle.gem_config.specs.Others.{least_of, others_in_each}
use Rattle.gem_config.proofs.unknown.others_in_each.Given as goal

abbrev pub invariant-loop-value : goal.invariant-loop-value
invariant-loop-value l =
    least_of l.least (others_in_each l.part (items_view (drop l.value-index l.values)))
    ≡ least_of l.fn.before (others_in_each l.part (items_view l.values))
