-- The waits so far have brought news alone, at the moment of the last answer.

use Rattle.std.specs.Prelude.{◌≡◌}
use Rattle.live_link.proofs.called_link.CalledLinkLink.poll.Given as goal

abbrev pub invariant-waits : goal.invariant-waits
invariant-waits g l =
    (l.self.moment ≡ l.fn.self.moment)
    × (l.self.faults ≡ l.fn.self.faults)
    × (l.self.connections ≡ l.fn.self.connections)
