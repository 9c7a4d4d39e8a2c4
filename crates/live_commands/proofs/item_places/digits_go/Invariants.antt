-- So many digits went, and the number goes on from what they are.

use Rattle.std.proofs.Common.{◌≡◌, ◌+◌, ◌≤◌, length}
use Rattle.live_commands.specs.ItemPlaces.{digits_go}
use Rattle.live_commands.proofs.item_places.digits_go.Given as goal

abbrev pub invariant-digits : goal.invariant-digits
invariant-digits l =
    (l.goes + digits_go l.most l.number l.rest ≡ digits_go l.most 0 l.text)
    × (l.number ≤ l.most) × (l.goes + length l.rest ≡ length l.text)

abbrev pub decreases-digits : goal.decreases-digits
decreases-digits l = length l.rest
