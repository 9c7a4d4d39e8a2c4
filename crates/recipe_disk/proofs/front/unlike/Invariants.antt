-- What is left is unlike where all is.
use Rattle.std.proofs.Common.{◌≡◌, ◌+◌, length}
use Rattle.spool_file.specs.Front.{unlike_at}
use Rattle.recipe_disk.proofs.front.unlike.Given as goal

abbrev pub invariant-loop-wanted : goal.invariant-loop-wanted
invariant-loop-wanted l =
    (unlike_at l.place l.wanted l.bytes ≡ unlike_at 0 l.fn.wanted l.fn.bytes)
    × (l.place + length l.bytes ≡ length l.fn.bytes)
    × (l.place + length l.wanted ≡ length l.fn.wanted)

abbrev pub decreases-loop-wanted : goal.decreases-loop-wanted
decreases-loop-wanted l = length l.wanted
