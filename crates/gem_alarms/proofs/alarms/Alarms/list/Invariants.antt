-- The bodies so far.

use Rattle.std.proofs.Common.{◌≡◌, map, take}
use Rattle.gem_alarms.specs.Alarms.{body_of}
use Rattle.gem_alarms.proofs.alarms.Alarms.list.Given as goal

abbrev pub invariant-loop-alid : goal.invariant-loop-alid
invariant-loop-alid l = l.items ≡ map (body_of l.self) (take l.alid-index l.ids)
