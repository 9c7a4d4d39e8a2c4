-- The items so far and those of the alarms that are left.

use Rattle.std.proofs.Common.{◌≡◌, ◌++◌, map}
use Rattle.gem_alarms.specs.Alarms.{entry_item}
use Rattle.gem_alarms.proofs.alarms.Alarms.all_items.Given as goal

abbrev pub invariant-loop-alid : goal.invariant-loop-alid
invariant-loop-alid l = l.items ++ map entry_item l.alid-iterator ≡ map entry_item l.self
