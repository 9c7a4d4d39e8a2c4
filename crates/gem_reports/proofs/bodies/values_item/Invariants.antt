-- The values so far.

use Rattle.std.proofs.Common.{◌≡◌, take}
use Rattle.std.specs.List.{filter_map}
use Rattle.gem_vars.specs.Tables.{value_in}
use Rattle.gem_reports.proofs.bodies.values_item.Given as goal

abbrev pub invariant-loop-vid : goal.invariant-loop-vid
invariant-loop-vid l = l.items ≡ filter_map (value_in l.vars) (take l.vid-index l.vids)
