-- Those so far are due, and with those of what is left they are all.

use Rattle.std.proofs.Common.{◌≡◌, ◌+◌, length}
use Rattle.end_run.specs.Script.{due_count}
use Rattle.end_run.proofs.telling.due_count.Given as goal

abbrev pub invariant-lines : goal.invariant-lines
invariant-lines l =
    (l.count + due_count l.now l.left ≡ due_count l.now l.lines) × (l.count + length l.left ≡ length l.lines)

abbrev pub decreases-lines : goal.decreases-lines
decreases-lines l = length l.left
