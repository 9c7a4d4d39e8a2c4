-- So many bytes are the same, and what is left goes as far behind them.

use Rattle.std.proofs.Common.{◌≡◌, ◌+◌, length}
use Rattle.live_commands.specs.Places.{word_goes}
use Rattle.live_commands.proofs.places.word_goes.Given as goal

abbrev pub invariant-bytes : goal.invariant-bytes
invariant-bytes l =
    (l.goes + word_goes l.left l.rest ≡ word_goes l.word l.text) × (l.goes + length l.rest ≡ length l.text)

abbrev pub decreases-bytes : goal.decreases-bytes
decreases-bytes l = length l.left
