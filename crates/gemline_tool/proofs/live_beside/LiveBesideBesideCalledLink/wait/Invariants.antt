-- Nothing has come so far that counts, and the link is as it was.

use Rattle.std.proofs.Common.{◌≡◌, ℕ, List, false}
use Rattle.live_commands.specs.Coming.{Passes}
use Rattle.gemline_tool.proofs.live_beside.LiveBesideBesideCalledLink.wait.Given as goal

abbrev pub invariant-waits : goal.invariant-waits
invariant-waits g l =
    ((fed : List ℕ) × Passes l.fn.reader.here fed l.reader.here) × (l.reader.found ≡ false)
    × (l.before ≡ l.fn.link.moment) × (l.link.moment ≡ l.before)
    × (l.link.connections ≡ l.fn.link.connections) × (l.link.faults ≡ l.fn.link.faults)
