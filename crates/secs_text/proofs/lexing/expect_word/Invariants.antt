-- The rest of the word stands in the rest as the word stands in all.

use Rattle.std.proofs.Common.{◌≡◌, ◌≤◌, length, drop}
use Rattle.secs_text.specs.Reading.{after_word}
use Rattle.secs_text.proofs.lexing.expect_word.Given as goal

abbrev pub invariant-loop-byte : goal.invariant-loop-byte
invariant-loop-byte l = record {
  so_far : after_word (drop l.byte-index l.word) l.total l.rest ≡ after_word l.word l.total l.bytes;
  within : length l.rest ≤ length l.bytes;
}
