-- The entries so far are left, but for those that are taken out.

use Rattle.std.proofs.Common.{◌≤◌, List, not, length}
use Rattle.setup_store.specs.Entries.{AreBytesOf, Entry}
use Rattle.setup_store.specs.Kept.{takes_out}
use Rattle.setup_store.proofs.KeptEntries.{IsAmid}
use Rattle.setup_store.proofs.kept.left_by.Given as goal

abbrev pub invariant-entries : goal.invariant-entries
invariant-entries l =
    (length l.rest ≤ length l.list)
    × ((entries : List Entry) → AreBytesOf entries l.list
    → IsAmid (λ old. not (takes_out l.change old)) entries l.left l.rest)

abbrev pub decreases-entries : goal.decreases-entries
decreases-entries l = length l.rest
