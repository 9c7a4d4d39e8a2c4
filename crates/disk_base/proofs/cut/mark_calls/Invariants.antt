-- The marks are those of some ranges, to which the calls that are left add theirs.

use Rattle.std.proofs.Common.{◌≡◌, ◌+◌, ◌≤◌, ℕ, List, [], fold, length}
use Rattle.disk_base.specs.Cut.{marks_at, marks_of}
use Rattle.disk_base.specs.Log.{AreHeld, loose_behind}
use Rattle.disk_base.proofs.cut.mark_calls.Given as goal

abbrev pub invariant-loop-entries : goal.invariant-loop-entries
invariant-loop-entries l =
    AreHeld l.from (l.from + length l.marks) l.entries
    × ((loose : List (ℕ × ℕ))
    × ((size : ℕ) → l.from + length l.marks ≤ size → marks_at size l.from l.marks ≡ marks_of size loose)
    × (fold loose_behind loose l.entries ≡ fold loose_behind [] l.fn.entries))
    × (length l.marks ≡ length l.fn.marks)

abbrev pub decreases-loop-entries : goal.decreases-loop-entries
decreases-loop-entries l = length l.entries
