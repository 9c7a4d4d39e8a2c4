-- Numbers, bytes and ends of a line, read.
use Rattle.std.proofs.Common.{◌≡◌, ℕ, ◌+◌, ◌*◌, ◌-◌, ◌^◌, ◌≤◌, Bool, true, false, not, cond, ◌&&◌, eqb, List, [], ◌∷◌, length, Option, Some, None, refl, sym, ap, subst, ◌∙◌, arith}
use Rattle.std.specs.Prelude.{nat_le, codes}
use Rattle.std.specs.Char.{is_ascii_digit}
use Rattle.std.specs.List.{list_all}
use Rattle.std.specs.Option.{option_and_then, option_map, option_or}
use Rattle.std.proofs.lemmas.Bool.{eqb-true, le-leb, leb-true}
use Rattle.gl_base.specs.declared.side.Side.{Side}
use Rattle.gl_base.specs.declared.side.Side.TheVariants.{Equipment, Host}
use Rattle.gl_base.specs.Side.{side_letter}
use Rattle.hex.specs.Hex.{hex_digit_value}
use Rattle.line_schedule.specs.Grammar.{AfterSide, IsAnyNumber, IsHexByte, IsNumber}
use Rattle.line_schedule.specs.Words.{after, after_side, any_number_in, byte_in, byte_of, is_numeral, is_within, number_in, read_side, value_of}
use Rattle.line_schedule.proofs.Places.{Lacks}
use Rattle.line_schedule.proofs.Readers.{IsReaderOf, after_there}

-- ---- numbers

pub and_both : (a b : Bool) → (a && b) ≡ true → (a ≡ true) × (b ≡ true)
and_both true b h = (refl, h)
and_both false b h = absurd cc

pub number : (least most : ℕ) → IsReaderOf (number_in least most) (IsNumber least most)
number least most = record {
  there = λ n text e. there n text (is_numeral text && is_within least most (value_of text)) refl e;
  again = λ n text r. again n text r;
} where
  there : (n : ℕ) (text : List ℕ) (t : Bool) → (is_numeral text && is_within least most (value_of text)) ≡ t →
      cond t (Some (value_of text)) None ≡ Some n → IsNumber least most n text
  there n text true h same =
      let both = and_both (is_numeral text) (is_within least most (value_of text)) h in
      let one = and_both (nat_le 1 (length text) && nat_le (length text) 10) (list_all is_ascii_digit text) both.0 in
      let two = and_both (nat_le 1 (length text)) (nat_le (length text) 10) one.0 in
      let range = and_both (nat_le least (value_of text)) (nat_le (value_of text) most) both.1 in
      let value : value_of text ≡ n = cc in
      record {
        some = leb-true 1 (length text) two.0;
        few = leb-true (length text) 10 two.1;
        digits = one.1;
        value = value;
        at_least = subst (λ v. least ≤ v) value (leb-true least (value_of text) range.0);
        at_most = subst (λ v. v ≤ most) value (leb-true (value_of text) most range.1);
      }
  there n text false h same = absurd cc

  again : (n : ℕ) (text : List ℕ) → IsNumber least most n text → number_in least most text ≡ Some n
  again n text r = rw (le-leb 1 (length text) r.some, le-leb (length text) 10 r.few, r.digits, r.value, le-leb least n r.at_least, le-leb n most r.at_most) refl

pub any_number : IsReaderOf any_number_in IsAnyNumber
any_number = number 0 (2 ^ 32 - 1)

-- ---- bytes that no number has

digit_is_other : (wanted b : ℕ) → is_ascii_digit wanted ≡ false → is_ascii_digit b ≡ true → (t : Bool) → eqb b wanted ≡ t →
    not t ≡ true
digit_is_other wanted b none digit true e =
    absurd (let same : b ≡ wanted = eqb-true b wanted e in let h : is_ascii_digit wanted ≡ true = ap is_ascii_digit (sym same) ∙ digit in cc)
digit_is_other wanted b none digit false e = refl

digits_lack : (wanted : ℕ) → is_ascii_digit wanted ≡ false → (text : List ℕ) → list_all is_ascii_digit text ≡ true →
    Lacks wanted text
digits_lack wanted none [] h = refl
digits_lack wanted none (b ∷ text) h =
    let both = and_both (is_ascii_digit b) (list_all is_ascii_digit text) h in
    rw (digit_is_other wanted b none both.0 (eqb b wanted) refl) (digits_lack wanted none text both.1)

pub number_lacks : (wanted : ℕ) → is_ascii_digit wanted ≡ false → (least most n : ℕ) (text : List ℕ) → IsNumber least most n text →
    Lacks wanted text
number_lacks wanted none least most n text is = digits_lack wanted none text (is.digits)

-- ---- hex bytes

byte_there : (first second value : ℕ) (high low : Option ℕ) → hex_digit_value first ≡ high → hex_digit_value second ≡ low →
    byte_of high low ≡ Some value → IsHexByte value (first ∷ second ∷ [])
byte_there first second value (Some high) (Some low) h l e =
    record { first = first; second = second; high = high; low = low; digits = refl; high_is = h; low_is = l; value = cc }
byte_there first second value (Some high) None h l e = absurd cc
byte_there first second value None low h l e = absurd cc

longer : (value : ℕ) (text : List ℕ) (made : Option ℕ) → 3 ≤ length text → (t : Bool) → eqb (length text) 2 ≡ t →
    cond t made None ≡ Some value → ⊥
longer value text made long true e h = let two = eqb-true (length text) 2 e in omega (arith, long, two)
longer value text made long false e h = cc

pub hex_byte : IsReaderOf byte_in IsHexByte
hex_byte = record {
  there = λ value text e. there value text e;
  again = λ value text b. again value text b;
} where
  there : (value : ℕ) (text : List ℕ) → byte_in text ≡ Some value → IsHexByte value text
  there value [] e = absurd cc
  there value (first ∷ []) e = absurd cc
  there value (first ∷ second ∷ []) e =
      byte_there first second value (hex_digit_value first) (hex_digit_value second) refl refl e
  there value (first ∷ second ∷ third ∷ rest) e =
      absurd (longer value (first ∷ second ∷ third ∷ rest) _ (omega arith) (eqb (length (first ∷ second ∷ third ∷ rest)) 2) refl e)

  again : (value : ℕ) (text : List ℕ) → IsHexByte value text → byte_in text ≡ Some value
  again value text b =
      let two : byte_in (b.first ∷ b.second ∷ []) ≡ Some (16 * b.high + b.low) = rw (b.high_is, b.low_is) refl in
      ap byte_in b.digits ∙ two ∙ ap (λ n. Some n) (sym b.value)

-- ---- ends

letter_again : (side : Side) (rest : List ℕ) → after_side (side_letter side ∷ 32 ∷ rest) ≡ Some (side, rest)
letter_again Equipment rest = refl
letter_again Host rest = refl

letter_there : (text : List ℕ) (side : Side) (rest : List ℕ) → after_side text ≡ Some (side, rest) →
    text ≡ side_letter side ∷ 32 ∷ rest
letter_there text side rest e = go (after (codes "E ") text) (after (codes "H ") text) refl refl e where
  go : (first second : Option (List ℕ)) → after (codes "E ") text ≡ first → after (codes "H ") text ≡ second →
      option_or {T = Side × List ℕ} (option_map (λ r. (Equipment, r)) first) (option_map (λ r. (Host, r)) second) ≡ Some (side, rest) → text ≡ side_letter side ∷ 32 ∷ rest
  go (Some r) second here there same =
      let is : ◌≡◌ {A = Side × List ℕ} (Equipment, r) (side, rest) = cc in
      after_there (codes "E ") text r here ∙ ap (λ (x : Side × List ℕ). side_letter x.0 ∷ 32 ∷ x.1) is
  go None (Some r) here there same =
      let is : ◌≡◌ {A = Side × List ℕ} (Host, r) (side, rest) = cc in
      after_there (codes "H ") text r there ∙ ap (λ (x : Side × List ℕ). side_letter x.0 ∷ 32 ∷ x.1) is
  go None None here there same = absurd cc

pub sided : {V : Type 0} {read : List ℕ → Option V} {Is : V → List ℕ → Type 0} → IsReaderOf read Is →
    IsReaderOf (read_side read) (λ value. AfterSide value.0 (Is value.1))
sided {V} {read} {Is} reader = record {
  there = λ value text h. there value text (after_side text) refl h;
  again = λ value text a. again value text a;
} where
  inner : (value : Side × V) (text : List ℕ) (side : Side) (rest : List ℕ) → after_side text ≡ Some (side, rest) →
      (o : Option V) → read rest ≡ o → option_map {U = Side × V} (λ v. (side, v)) o ≡ Some value → AfterSide value.0 (Is value.1) text
  inner value text side rest there None is h = absurd cc
  inner value text side rest there (Some v) is h =
      let same : ◌≡◌ {A = Side × V} (side, v) value = cc in
      let all : AfterSide side (Is v) text = (rest, letter_there text side rest there, reader.there v rest is) in
      subst (λ (x : Side × V). AfterSide x.0 (Is x.1) text) same all

  there : (value : Side × V) (text : List ℕ) (o : Option (Side × List ℕ)) → after_side text ≡ o →
      option_and_then {U = Side × V} (λ (x : Side × List ℕ). option_map {U = Side × V} (λ v. (x.0, v)) (read x.1)) o ≡ Some value → AfterSide value.0 (Is value.1) text
  there value text None e h = absurd cc
  there value text (Some (side, rest)) e h = inner value text side rest e (read rest) refl h

  again : (value : Side × V) (text : List ℕ) → AfterSide value.0 (Is value.1) text → read_side read text ≡ Some value
  again value text (rest, placed, is) = rw (placed, letter_again value.0 rest, reader.again value.1 rest is) refl
