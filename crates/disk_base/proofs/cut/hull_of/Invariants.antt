-- The calls that are left widen the range so far to that of all.

use Rattle.std.proofs.Common.{◌≡◌, fold, length}
use Rattle.disk_base.specs.Log.{AreSized, hull_behind}
use Rattle.disk_base.proofs.cut.hull_of.Given as goal

abbrev pub invariant-loop-entries : goal.invariant-loop-entries
invariant-loop-entries l =
    AreSized l.size l.entries × (fold hull_behind l.hull l.entries ≡ fold hull_behind (l.size, 0) l.fn.entries)

abbrev pub decreases-loop-entries : goal.decreases-loop-entries
decreases-loop-entries l = length l.entries
