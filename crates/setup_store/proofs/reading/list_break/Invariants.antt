-- What is left breaks where all does.

use Rattle.std.proofs.Common.{◌≡◌, ◌≤◌, length}
use Rattle.setup_store.specs.Entries.{break_of, entries_in, entries_within}
use Rattle.setup_store.proofs.reading.list_break.Given as goal

abbrev pub invariant-entries : goal.invariant-entries
invariant-entries l =
    (length l.rest ≤ length l.list)
    × (break_of (entries_within (length l.rest) (length l.list) l.rest) ≡ break_of (entries_in l.list))

abbrev pub decreases-entries : goal.decreases-entries
decreases-entries l = length l.rest
