-- No line was found so far that counts, and what is left leads on.

use Rattle.std.proofs.Common.{◌≡◌, ◌-◌, ◌≤◌, false, drop, length}
use Rattle.live_commands.proofs.Going.{Reaches}
use Rattle.live_commands.proofs.reader.CommandReader.find.Given as goal

abbrev pub invariant-lines : goal.invariant-lines
invariant-lines l =
    let here = l.self-inside in
    (here.found ≡ false) × (l.fn.self.taken ≤ here.taken)
    × Reaches l.fn.self.here (drop l.fn.self.taken l.part) here.line (drop here.taken l.part)

abbrev pub decreases-lines : goal.decreases-lines
decreases-lines l = length l.part - l.self-inside.taken
