-- The items so far and those of the alarms that are left.

use Rattle.std.proofs.Common.{◌≡◌, ◌++◌}
use Rattle.gem_alarms.specs.Alarms.{enabled_items}
use Rattle.gem_alarms.proofs.alarms.Alarms.enabled_list.Given as goal

abbrev pub invariant-loop-alid : goal.invariant-loop-alid
invariant-loop-alid l = l.items ++ enabled_items l.alid-iterator ≡ enabled_items l.self
