-- How many slots bodies take.
use Rattle.std.proofs.Common.{◌≡◌, ℕ, ◌+◌, ◌*◌, ◌/◌, ◌≤◌, ◌==◌, nat_lt, Bool, true, false, if◌then◌else◌, refl, arith}
use Rattle.std.proofs.lemmas.Bool.Decides.{nat_tests}
use Rattle.disk_base.proofs.Marks.{not_either}
use Rattle.spool_file.specs.Reading.{most_slots}
use Rattle.spool_file.specs.Sizes.{body_most, is_too_long, slots_for}

pub some_slots : (long : ℕ) → 1 ≤ slots_for long
unfolding slots_for
some_slots long = by_test (long == 0) refl where
  by_test : (b : Bool) → (long == 0) ≡ b → 1 ≤ (if b then 1 else (long + 4080) / 4081)
  by_test true is = omega arith
  by_test false is = let some : 1 ≤ long = grind (arith, nat_tests, is) in omega (arith, some)

-- a body of no more bytes than a slot has room for takes one
pub one_slot : (long : ℕ) → long ≤ 4081 → slots_for long ≡ 1
unfolding slots_for
one_slot long short = by_test (long == 0) refl where
  by_test : (b : Bool) → (long == 0) ≡ b → (if b then 1 else (long + 4080) / 4081) ≡ 1
  by_test true is = refl
  by_test false is = let some : 1 ≤ long = grind (arith, nat_tests, is) in omega (arith, some, short)

-- the slots have room for it
pub slots_hold : (long : ℕ) → long ≤ 4081 * slots_for long
unfolding slots_for
slots_hold long = by_test (long == 0) refl where
  by_test : (b : Bool) → (long == 0) ≡ b → long ≤ 4081 * (if b then 1 else (long + 4080) / 4081)
  by_test true is = let none : long ≡ 0 = grind (arith, nat_tests, is) in omega (arith, none)
  by_test false is = omega arith

most_taken : (long : ℕ) → long ≤ 1048576 → slots_for long ≤ 257
unfolding slots_for
most_taken long short = by_test (long == 0) where
  by_test : (b : Bool) → (if b then 1 else (long + 4080) / 4081) ≤ 257
  by_test true = omega arith
  by_test false = omega (arith, short)

module _ (version slots long : ℕ) (short : is_too_long version slots long ≡ false) where
  -- what isn't too long for a file takes no more slots than its version allows, and than there are
  pub within_most : long ≤ body_most version
  within_most =
      let both = not_either (nat_lt (body_most version) long) (nat_lt slots (slots_for long)) short in
      of_test (body_most version) both.0 where
        of_test : (most : ℕ) → nat_lt most long ≡ false → long ≤ most
        of_test most is = grind (arith, nat_tests, is)

  pub within_body : long ≤ 1048576
  within_body = by_version (version == 1) within_most where
    by_version : (b : Bool) → long ≤ (if b then 4081 else 1048576) → long ≤ 1048576
    by_version true less = omega (arith, less)
    by_version false less = less

  pub within_slots : slots_for long ≤ slots
  within_slots =
      let both = not_either (nat_lt (body_most version) long) (nat_lt slots (slots_for long)) short in
      of_test (slots_for long) both.1 where
        of_test : (size : ℕ) → nat_lt slots size ≡ false → size ≤ slots
        of_test size is = grind (arith, nat_tests, is)

  pub within_version : slots_for long ≤ most_slots version
  within_version = by_version (version == 1) within_most where
    by_version : (b : Bool) → long ≤ (if b then 4081 else 1048576) → slots_for long ≤ (if b then 1 else 257)
    by_version true less = let one : slots_for long ≡ 1 = one_slot long less in omega (arith, one)
    by_version false less = most_taken long less

  pub within_all : slots_for long ≤ 257
  within_all = by_version (version == 1) within_version where
    by_version : (b : Bool) → slots_for long ≤ (if b then 1 else 257) → slots_for long ≤ 257
    by_version true less = omega (arith, less)
    by_version false less = less
