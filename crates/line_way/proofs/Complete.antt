-- Characters of which as many came as were announced.
use Rattle.std.proofs.Common.{◌≡◌, ◌≤◌, ℕ, ◌+◌, true, List, length, slice_index, arith}
use Rattle.std.proofs.lemmas.Bool.Decides.{nat_tests}
use Rattle.block_codec.proofs.Parts.{IsWhole}
use Rattle.line_way.specs.Kept.{is_complete}

pub record IsComplete (first count : ℕ) : Type 0 where
  pub at_least_10 : 10 ≤ first
  pub at_most_254 : first ≤ 254
  pub whole : count ≡ first + 3

pub complete-is : (first count : ℕ) → is_complete first count ≡ true → IsComplete first count
complete-is first count is = record {
  at_least_10 = grind (arith, nat_tests, is);
  at_most_254 = grind (arith, nat_tests, is);
  whole = grind (arith, nat_tests, is);
}

pub complete-whole : (characters : List ℕ) → is_complete (slice_index characters 0) (length characters) ≡ true → IsWhole characters
complete-whole characters is =
    let all = complete-is (slice_index characters 0) (length characters) is in
    record { at_least_10 = all.at_least_10; at_most_254 = all.at_most_254; long = all.whole }
