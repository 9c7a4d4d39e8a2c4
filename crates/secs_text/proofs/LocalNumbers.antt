-- What the readers of numbers answer depends on the bytes that they have seen.
use Rattle.std.proofs.Common.{◌≡◌, ℕ, zero, suc, ◌-◌, ◌+◌, ◌*◌, ◌^◌, ◌≤◌, ◌<◌, ℤ, pos, negsuc, Bool, true, false, cond, eqb, ltb, leb, ◌&&◌, ◌⊎◌, inl, inr, List, [], ◌∷◌, ◌++◌, length, Option, Some, None, Result, Ok, Err, refl, sym, ap, subst, ◌∙◌, append_assoc, arith}
use Rattle.std.specs.Char.{is_ascii_digit}
use Rattle.std.specs.Option.{ok_or}
use Rattle.std.specs.Str.{all_ascii_digits}
use Rattle.std.proofs.lemmas.Bool.{and_from, and_parts, cases_Bool, eqb-true, le-leb, le-ltb, leb-true, lt-ltb, ltb-false, ltb-true}
use Rattle.secs_text.specs.declared.text_fault.TextFault.{TextFault}
use Rattle.secs_text.specs.declared.text_fault.TextFault.TheVariants as fault
use Rattle.secs_text.specs.Faults.{digit_first}
use Rattle.secs_text.specs.Grammar.{ArePositive, Bounds, Free, IsNumeral, Kept}
use Rattle.secs_text.specs.Reading.{◌>>=◌, Reader, as_signed, as_unsigned, digits_from, as_u64, magnitude_at, number_at, signed_of, unsigned_of, value_of, with_sign, within_at}
use Rattle.secs_text.proofs.Blanks.{not_ok}
use Rattle.secs_text.proofs.Locality.{Alike, At, Local, Told, at_after, at_broken, local_pure, more_seen, pure}
use Rattle.secs_text.proofs.Numerals.{AreDigits, Run, Stops, digits_again, digits_run, read_on}

-- ---- runs of digits

digits_on : (n : ℕ) (ds rest : List ℕ) → AreDigits ds → digits_from n (ds ++ rest) ≡ digits_from (read_on n ds) rest
digits_on n [] rest digits = refl
digits_on n (d ∷ ds) rest digits =
    let p = and_parts (is_ascii_digit d) (all_ascii_digits ds) digits in
    rw (p.0) (digits_on (10 * n + (d - 48)) ds rest p.1)

digits_more : (n : ℕ) (rest : List ℕ) → n ≤ (digits_from n rest).0
digits_more n [] = omega arith
digits_more n (b ∷ rest) = step (is_ascii_digit b) (digits_more (10 * n + (b - 48)) rest) where
  step : (t : Bool) → 10 * n + (b - 48) ≤ (digits_from (10 * n + (b - 48)) rest).0
      → n ≤ (cond t (digits_from (10 * n + (b - 48)) rest) (n, b ∷ rest)).0
  step true more = omega (arith, more)
  step false more = omega arith

pub digits_stop : (n : ℕ) (rest : List ℕ) → digit_first (digits_from n rest).1 ≡ false
digits_stop n [] = refl
digits_stop n (b ∷ rest) = step (is_ascii_digit b) refl (digits_stop (10 * n + (b - 48)) rest) where
  step : (t : Bool) → is_ascii_digit b ≡ t → digit_first (digits_from (10 * n + (b - 48)) rest).1 ≡ false
      → digit_first (cond t (digits_from (10 * n + (b - 48)) rest) (n, b ∷ rest)).1 ≡ false
  step true e stops = stops
  step false e stops = e

stops_from : (rest : List ℕ) → digit_first rest ≡ false → Stops rest
stops_from [] h = λ n. refl
stops_from (b ∷ rest) h = λ n. rw h refl

stops_alike : (rest other : List ℕ) → Alike rest other → digit_first rest ≡ false → digit_first other ≡ false
stops_alike rest other alike h = ap digit_first alike.4 ∙ sym (ap digit_first alike.3) ∙ h

-- ---- which numbers a kind has

-- where a kind lacks a number, it lacks the larger ones of this sign
abbrev pub Grows : {T : Type 0} → (Option ℤ → Option T) → Type 0
Grows fits = (negative : Bool) (n m : ℕ) → n ≤ m → fits (value_of negative (as_u64 n)) ≡ None → fits (value_of negative (as_u64 m)) ≡ None

as_u64_is : (n : ℕ) → n < 2 ^ 64 → as_u64 n ≡ Some n
as_u64_is n small = rw (lt-ltb n (2 ^ 64) small) refl

grows_by : {T : Type 0} (fits : Option ℤ → Option T) → fits None ≡ None
    → ((negative : Bool) (n m : ℕ) → n ≤ m → fits (Some (with_sign negative n)) ≡ None → fits (Some (with_sign negative m)) ≡ None) → Grows fits
grows_by fits none small negative n m le e =
    elim (cases_Bool (ltb m (2 ^ 64))) [
      | inl h ↦
          let less : m < 2 ^ 64 = ltb-true m (2 ^ 64) h in
          ap (λ o. fits (value_of negative o)) (as_u64_is m less) ∙ small negative n m le (sym (ap (λ o. fits (value_of negative o)) (as_u64_is n (omega (arith, le, less)))) ∙ e)
      | inr h ↦ rw h none
    ]

no_some : {T : Type 0} (t : Bool) (v : T) → cond t (Some v) None ≡ None → t ≡ false
no_some true v e = absurd cc
no_some false v e = refl

unsigned_small : (limit : ℕ) (negative : Bool) (n m : ℕ) → n ≤ m → as_unsigned limit (Some (with_sign negative n)) ≡ None
    → as_unsigned limit (Some (with_sign negative m)) ≡ None
unsigned_small limit false n m le e = rw (le-ltb m limit (omega (arith, le, ltb-false n limit (no_some (ltb n limit) n e)))) refl
unsigned_small limit true zero zero le e = e
unsigned_small limit true (suc n) zero le e = absurd (omega (arith, le))
unsigned_small limit true n (suc m) le e = refl

unsigned_grows : (limit : ℕ) → Grows (as_unsigned limit)
unsigned_grows limit = grows_by (as_unsigned limit) refl (unsigned_small limit)

signed_small : (half : ℕ) (negative : Bool) (n m : ℕ) → n ≤ m → as_signed half (Some (with_sign negative n)) ≡ None
    → as_signed half (Some (with_sign negative m)) ≡ None
signed_small half false n m le e = rw (le-ltb m half (omega (arith, le, ltb-false n half (no_some (ltb n half) (pos n) e)))) refl
signed_small half true zero zero le e = e
signed_small half true zero (suc m) le e = rw (le-ltb m half (omega (arith, ltb-false 0 half (no_some (ltb 0 half) (pos 0) e)))) refl
signed_small half true (suc n) zero le e = absurd (omega (arith, le))
signed_small half true (suc n) (suc m) le e = rw (le-ltb m half (omega (arith, le, ltb-false n half (no_some (ltb n half) (negsuc n) e)))) refl

signed_grows : (half : ℕ) → Grows (as_signed half)
signed_grows half = grows_by (as_signed half) refl (signed_small half)

free_grows : {T : Type 0} (zeros : T) → Grows (λ n. Some zeros)
free_grows zeros negative n m le e = absurd cc

-- ---- a number that isn't 0

-- the number, where it is of the kind
abbrev pick : {T : Type 0} → (Option ℤ → Option T) → ℕ → Option ℤ × List ℕ → Result (T × List ℕ) TextFault
pick fits at n = ok_or (fits n.0) (fault.Range at) >>= λ value. Ok (value, n.1)

no_pick : {T : Type 0} (fits : Option ℤ → Option T) (at : ℕ) (n : Option ℤ × List ℕ) (x : T × List ℕ) → fits n.0 ≡ None → pick fits at n ≡ Ok x → ⊥
no_pick fits at n x none e = not_ok (fault.Range at) x (sym (rw none refl) ∙ e)

abbrev IsSign : List ℕ → Type 0
IsSign sign = (sign ≡ []) ⊎ (sign ≡ 45 ∷ [])

numeral_of : (sign ds : List ℕ) → IsSign sign → ArePositive ds → IsNumeral (sign ++ ds)
numeral_of sign ds (inl e) p = subst (λ (s : List ℕ). IsNumeral (s ++ ds)) (sym e) (inl p)
numeral_of sign ds (inr e) p = subst (λ (s : List ℕ). IsNumeral (s ++ ds)) (sym e) (inr (ds, refl, p))

-- the number that digits behind this one go on to
abbrev number_from : Bool → ℕ → List ℕ → Option ℤ × List ℕ
number_from negative d rest = (value_of negative (as_u64 (digits_from (d - 48) rest).0), (digits_from (d - 48) rest).1)

positive_at : {T : Type 0} (fits : Option ℤ → Option T) (r : Reader T) (negative : Bool) (sign : List ℕ) (d : ℕ) → Grows fits → IsSign sign → 49 ≤ d
    → d ≤ 57
    → ((total : ℕ) (rest : List ℕ) → r total (sign ++ d ∷ rest) ≡ pick fits (total - length (sign ++ d ∷ rest)) (number_from negative d rest))
    → (total : ℕ) (ds : List ℕ) → At r total (sign ++ d ∷ ds)
positive_at {T} fits r negative sign d grows is low high same total ds =
    subst (Told r total (sign ++ d ∷ ds)) (sym (same total ds)) (by_fit (fits (value_of negative (as_u64 (digits_from (d - 48) ds).0))) refl) where
      left : List ℕ
      left = (digits_from (d - 48) ds).1

      run : Run (d - 48) ds (digits_from (d - 48) ds)
      run = digits_run (d - 48) ds

      front : List ℕ
      front = sign ++ d ∷ run.0

      regroup : (rest : List ℕ) → front ++ rest ≡ sign ++ d ∷ (run.0 ++ rest)
      regroup rest = append_assoc sign (d ∷ run.0) rest

      placed : sign ++ d ∷ ds ≡ front ++ left
      placed = ap (λ (s : List ℕ). sign ++ d ∷ s) run.2 ∙ sym (regroup left)

      by_fit : (o : Option T) → fits (value_of negative (as_u64 (digits_from (d - 48) ds).0)) ≡ o
          → Told r total (sign ++ d ∷ ds) (ok_or o (fault.Range (total - length (sign ++ d ∷ ds))) >>= λ value. Ok (value, left))
      by_fit (Some v) e = record {
        front = front;
        placed = placed;
        again = λ total' rest' alike.
            let digits : digits_from (d - 48) (run.0 ++ rest') ≡ (read_on (d - 48) run.0, rest') =
            digits_again (d - 48) run.0 rest' run.1 (stops_from rest' (stops_alike left rest' alike (digits_stop (d - 48) ds))) in
            let fit : fits (value_of negative (as_u64 (read_on (d - 48) run.0))) ≡ Some v =
            sym (ap (λ (n : ℕ). fits (value_of negative (as_u64 n))) run.3) ∙ e in
            ap (r total') (regroup rest') ∙ same total' (run.0 ++ rest') ∙ rw (digits, fit) refl;
      }
      by_fit None e = inr (record {
        seen = front;
        tail = left;
        placed = placed;
        some = more_seen sign (d ∷ run.0) (d, run.0, refl);
        sees = ([], front, refl, ap (λ (s : List ℕ). total - length s) placed, numeral_of sign (d ∷ run.0) is (and_from (leb 49 d) (leb d 57) (le-leb 49 d low) (le-leb d 57 high), and_from (is_ascii_digit d) (all_ascii_digits run.0) (and_from (leb 48 d) (leb d 57) (le-leb 48 d (omega (arith, low))) (le-leb d 57 high)) run.1), digits_stop (d - 48) ds);
        never = λ total' tail' x read.
            let more : read_on (d - 48) run.0 ≤ (digits_from (d - 48) (run.0 ++ tail')).0 =
            subst (λ p. read_on (d - 48) run.0 ≤ p.0) (sym (digits_on (d - 48) run.0 tail' run.1)) (digits_more (read_on (d - 48) run.0) tail') in
            let none : fits (value_of negative (as_u64 (digits_from (d - 48) (run.0 ++ tail')).0)) ≡ None =
            grows negative (read_on (d - 48) run.0) (digits_from (d - 48) (run.0 ++ tail')).0 more
            (sym (ap (λ (n : ℕ). fits (value_of negative (as_u64 n))) run.3) ∙ e) in
            no_pick fits (total' - length (sign ++ d ∷ (run.0 ++ tail'))) (number_from negative d (run.0 ++ tail')) x none (sym (same total' (run.0 ++ tail')) ∙ sym (ap (r total') (regroup tail')) ∙ read);
      })

-- ---- a number

-- the digits behind a minus
minus : {T : Type 0} → (Option ℤ → Option T) → Reader T
minus fits total rest = magnitude_at true total rest >>= pick fits (total - suc (length rest))

local_minus : {T : Type 0} (fits : Option ℤ → Option T) → Grows fits → (c total : ℕ) (rest : List ℕ) → eqb c 48 ≡ false → eqb c 45 ≡ true
    → At (within_at fits) total (c ∷ rest)
unfolding number_at magnitude_at minus
local_minus fits grows c total [] h1 h2 =
    let there : within_at fits total (c ∷ []) ≡ Err (fault.Syntax total) = rw (h1, h2) refl in
    subst (Told (within_at fits) total (c ∷ [])) (sym there) (inl refl)
local_minus fits grows c total (d ∷ ds) h1 h2 =
    elim (cases_Bool (leb 49 d && leb d 57)) [
      | inl h ↦
          let p = and_parts (leb 49 d) (leb d 57) h in
          positive_at fits (within_at fits) true (c ∷ []) d grows (inr (ap (λ (b : ℕ). b ∷ []) (eqb-true c 45 h2))) (leb-true 49 d p.0) (leb-true d 57 p.1) (λ total rest. rw (h1, h2, h) refl) total ds
      | inr h ↦ at_after (within_at fits) (minus fits) c total (d ∷ ds) (λ total rest. rw (h1, h2) refl) (at_broken (minus fits) d total ds (λ total rest. rw h refl))
    ]

pub local_number : {T : Type 0} (fits : Option ℤ → Option T) (zeros : T) → Grows fits → fits (Some (pos 0)) ≡ Some zeros → Local (within_at fits)
unfolding number_at magnitude_at pure
local_number fits zeros grows fit total [] = inl refl
local_number fits zeros grows fit total (c ∷ rest) =
    elim (cases_Bool (eqb c 48)) [
      | inl h ↦ at_after (within_at fits) (pure zeros) c total rest (λ total rest. rw (h, fit) refl) (local_pure zeros total rest)
      | inr h1 ↦ elim (cases_Bool (eqb c 45)) [
        | inl h2 ↦ local_minus fits grows c total rest h1 h2
        | inr h2 ↦ elim (cases_Bool (leb 49 c && leb c 57)) [
          | inl h ↦
              let p = and_parts (leb 49 c) (leb c 57) h in
              positive_at fits (within_at fits) false [] c grows (inl refl) (leb-true 49 c p.0) (leb-true c 57 p.1) (λ total rest. rw (h1, h2, h) refl) total rest
          | inr h ↦ at_broken (within_at fits) c total rest (λ total rest. rw (h1, h2, h) refl)
        ]
      ]
    ]

pub local_unsigned : (bounds : Bounds) (bits : ℕ) → 0 < 2 ^ bits → Local (unsigned_of bounds bits)
local_unsigned Kept bits some total bytes =
    local_number (as_unsigned (2 ^ bits)) 0 (unsigned_grows (2 ^ bits)) (rw (lt-ltb 0 (2 ^ bits) some) refl) total bytes
local_unsigned Free bits some total bytes = local_number (λ n. Some 0) 0 (free_grows 0) refl total bytes

pub local_signed : (bounds : Bounds) (bits : ℕ) → 0 < 2 ^ (bits - 1) → Local (signed_of bounds bits)
local_signed Kept bits some total bytes =
    local_number (as_signed (2 ^ (bits - 1))) (pos 0) (signed_grows (2 ^ (bits - 1))) (rw (lt-ltb 0 (2 ^ (bits - 1)) some) refl) total bytes
local_signed Free bits some total bytes = local_number (λ n. Some (pos 0)) (pos 0) (free_grows (pos 0)) refl total bytes
