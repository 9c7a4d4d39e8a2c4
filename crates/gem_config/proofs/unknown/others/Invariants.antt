-- The least so far, with those that are left, is the least of all.

use Rattle.std.proofs.Common.{◌≡◌}
use Rattle.toml.specs.View.{members_view}
use Rattle.gem_config.specs.Others.{least_of, others}
use Rattle.gem_config.proofs.unknown.others.Given as goal

abbrev pub invariant-members : goal.invariant-members
invariant-members l =
    (goal.iterator-members).can_next l.key-iterator × (goal.iterator-members).is_finite l.key-iterator
    × (least_of l.least (others l.part (members_view l.key-iterator))
    ≡ least_of l.fn.before (others l.part (members_view l.members.entries)))
