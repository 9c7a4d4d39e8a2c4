-- What is left after the blanks of the rest is what is left after those of all.

use Rattle.std.proofs.Common.{◌≡◌, ◌≤◌, length}
use Rattle.secs_text.specs.Reading.{after_blanks}
use Rattle.secs_text.proofs.lexing.skip_blanks.Given as goal

abbrev pub invariant-loop-byte : goal.invariant-loop-byte
invariant-loop-byte l = record {
  skipped : after_blanks l.rest ≡ after_blanks l.bytes;
  within : length l.rest ≤ length l.bytes;
}

abbrev pub decreases-loop-byte : goal.decreases-loop-byte
decreases-loop-byte l = length l.rest
