-- What is left leads to the same name.

use Rattle.std.proofs.Common.{◌≡◌, length}
use Rattle.live_commands.specs.ItemPlaces.{behind_open, open_name}
use Rattle.live_commands.proofs.item_places.open_name.Given as goal

abbrev pub invariant-bytes : goal.invariant-bytes
invariant-bytes l = behind_open l.quoted l.name l.rest ≡ open_name l.front

abbrev pub decreases-bytes : goal.decreases-bytes
decreases-bytes l = length l.rest
