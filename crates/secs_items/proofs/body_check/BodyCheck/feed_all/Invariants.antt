-- Why the feeding ends, and that what is left leads to the same check.

use Rattle.std.proofs.Common.{◌≡◌, ◌+◌, ◌≤◌, length}
use Rattle.secs_items.specs.Checking.{fed_with}
use Rattle.secs_items.proofs.body_check.BodyCheck.feed_all.Given as goal

abbrev pub decreases-loop-rest : goal.decreases-loop-rest
decreases-loop-rest l = length l.rest

-- with what is left the check is that of all
abbrev pub invariant-loop-rest : goal.invariant-loop-rest
invariant-loop-rest l = record {
  so_far : fed_with l.self l.rest ≡ fed_with l.initial.self l.piece;
  room : l.self.fed + length l.rest ≤ 7995148;
}
