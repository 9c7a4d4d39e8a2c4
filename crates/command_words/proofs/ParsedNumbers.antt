-- What the text of a number is read as.
use Rattle.std.proofs.Common.{◌≡◌, ◌∙◌, ◌<◌, ◌^◌, ◌-◌, ◌&&◌, ℕ, List, Bool, true, false, rules, arith, refl, sym, ap, nat_le, Result, Ok, Err, Some, None, length, if◌then◌else◌}
use Rattle.std.proofs.lemmas.Bool.{le-leb, leb-true}
use Rattle.std.specs.Char.{is_ascii_digit}
use Rattle.std.specs.List.{list_all}
use Rattle.std.specs.Result.{OkIff, result_ok}
use Rattle.std.specs.Str.Parse.{ParsesUnsigned, digits_value}
use Rattle.std.proofs.lemmas.Str.Parse.{IsDigitsTest, IsNumeralModel, numerals_by_value, parse_digits}
use Rattle.command_words.specs.Numbers.{as_u32, is_numeral}

abbrev AreDigits : List ℕ → Type 0
AreDigits text = list_all is_ascii_digit text ≡ true

are_digits : IsDigitsTest AreDigits
are_digits = search rules

own : IsNumeralModel AreDigits (digits_value 10)
own = numerals_by_value AreDigits are_digits

right_is : (a b : Bool) → (a && b) ≡ true → b ≡ true
right_is true b h = h
right_is false true h = refl
right_is false false h = h

left_is : (a b : Bool) → (a && b) ≡ true → a ≡ true
left_is true b h = refl
left_is false b h = h

-- what is read of a value that is right where it fits, by whether it fits
module _ {E : Type 0} (some : Type 0) (is_some : some) (n : ℕ) where
  read_as : (r : Result ℕ E) → OkIff r (some × (n < 2 ^ 32)) n → result_ok r ≡ as_u32 n
  read_as (Ok x) h =
      let fits : nat_le n (2 ^ 32 - 1) ≡ true = le-leb n (2 ^ 32 - 1) (omega (arith, h.0.1)) in
      ap Some h.1 ∙ sym (ap (λ b. if b then Some n else None) fits)
  read_as (Err e) h = go (nat_le n (2 ^ 32 - 1)) refl
    where
      go : (b : Bool) → nat_le n (2 ^ 32 - 1) ≡ b → None ≡ (if b then Some n else None)
      go true e =
          let fits = leb-true n (2 ^ 32 - 1) e in
          absurd (h (is_some, omega arith))
      go false e = refl

-- one to ten digits are read as the number that they are, where 32 bits hold it
pub numeral_read : {E : Type 0} (text : List ℕ) (r : Result ℕ E)
    → is_numeral text ≡ true → ParsesUnsigned 32 10 text r → result_ok r ≡ as_u32 (digits_value 10 text)
numeral_read text r is h =
    let long = left_is (nat_le 1 (length text) && nat_le (length text) 10) _ is in
    let some = leb-true 1 (length text) (left_is (nat_le 1 (length text)) _ long) in
    let digits = right_is (nat_le 1 (length text) && nat_le (length text) 10) _ is in
    read_as _ (omega arith) (digits_value 10 text) r (parse_digits own 32 text r h digits)
