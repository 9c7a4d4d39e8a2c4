-- The length of the bodies so far.

use Rattle.std.proofs.Common.{◌≡◌, map, take}
use Rattle.secs_items.specs.Measures.{capped}
use Rattle.secs_items.proofs.SpelledLengths.{together}
use Rattle.gem_alarms.specs.Alarms.{body_of}
use Rattle.gem_alarms.proofs.alarms.Alarms.bodies_len.Given as goal

abbrev pub invariant-loop-alid : goal.invariant-loop-alid
invariant-loop-alid l = l.len ≡ capped (together (map (body_of l.self) (take l.alid-index l.ids)))
