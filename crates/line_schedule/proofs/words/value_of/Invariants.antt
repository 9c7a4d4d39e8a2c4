-- Some number stands so far, with which the digits that are left go on to the value of all.

use Rattle.std.proofs.Common.{◌≡◌, ℕ, drop, true}
use Rattle.std.specs.Char.{is_ascii_digit}
use Rattle.std.specs.List.{list_all}
use Rattle.line_schedule.specs.Words.{as_u32, value_from, value_of}
use Rattle.line_schedule.proofs.words.value_of.Given as goal

abbrev pub invariant-loop-digit : goal.invariant-loop-digit
invariant-loop-digit l =
    (n : ℕ) × (l.value ≡ as_u32 n) × (value_from n (drop l.digit-index l.digits) ≡ value_of l.digits)
    × (list_all is_ascii_digit (drop l.digit-index l.digits) ≡ true)
