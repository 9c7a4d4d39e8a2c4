-- The calls that are left lead where all lead.

use Rattle.std.proofs.Common.{◌≡◌, fold, length}
use Rattle.disk_base.specs.Log.{AreWithin, bytes_after, calls_of}
use Rattle.disk_base.proofs.log.replay.Given as goal

abbrev pub invariant-loop-entries : goal.invariant-loop-entries
invariant-loop-entries l =
    AreWithin (length l.bytes) l.entries l.written
    × (fold bytes_after l.bytes (calls_of l.entries l.written) ≡ fold bytes_after l.fn.bytes (calls_of l.fn.entries l.fn.written))
    × (length l.bytes ≡ length l.fn.bytes)

abbrev pub decreases-loop-entries : goal.decreases-loop-entries
decreases-loop-entries l = length l.entries
