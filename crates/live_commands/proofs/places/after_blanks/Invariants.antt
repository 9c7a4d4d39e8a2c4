-- Blanks alone were passed.

use Rattle.std.proofs.Common.{◌≡◌, ◌≤◌, length}
use Rattle.secs_text.specs.Reading.{after_blanks}
use Rattle.live_commands.proofs.places.after_blanks.Given as goal

abbrev pub invariant-blanks : goal.invariant-blanks
invariant-blanks l = (after_blanks l.rest ≡ after_blanks l.text) × (length l.rest ≤ length l.text)

abbrev pub decreases-blanks : goal.decreases-blanks
decreases-blanks l = length l.rest
