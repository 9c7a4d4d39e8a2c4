-- The row stands behind all lines as it did.

use Rattle.std.proofs.Common.{◌≡◌, ◌+◌, ◌-◌, cond, length}
use Rattle.live_commands.specs.Coming.{behind_left}
use Rattle.live_commands.proofs.reader.CommandReader.skip.Given as goal

abbrev pub invariant-lines : goal.invariant-lines
invariant-lines l = behind_left l.self l.part ≡ behind_left l.fn.self l.part

abbrev pub decreases-lines : goal.decreases-lines
decreases-lines l = cond l.self.found (length l.part - l.self.taken + 1) 0
