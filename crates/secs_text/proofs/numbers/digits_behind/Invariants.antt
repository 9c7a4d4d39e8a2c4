-- Some number stands so far, with which the digits of the rest go on to that of all.

use Rattle.std.proofs.Common.{◌≡◌, ℕ, ◌≤◌, length}
use Rattle.secs_text.specs.Reading.{digits_from, as_u64}
use Rattle.secs_text.proofs.numbers.digits_behind.Given as goal

abbrev pub invariant-loop-byte : goal.invariant-loop-byte
invariant-loop-byte l = (n : ℕ) × (l.value ≡ as_u64 n) × (digits_from n l.rest ≡ digits_from l.first l.bytes) × (length l.rest ≤ length l.bytes)

abbrev pub decreases-loop-byte : goal.decreases-loop-byte
decreases-loop-byte l = length l.rest
