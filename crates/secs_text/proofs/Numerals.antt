-- Decimal numbers: what is read is the number's digits, and those are read as the number.
use Rattle.std.proofs.Common.{◌≡◌, ℕ, zero, suc, ◌-◌, ◌+◌, ◌*◌, ◌^◌, ◌≤◌, ◌<◌, ℤ, pos, negsuc, Bool, true, false, cond, ltb, leb, ◌&&◌, ◌⊎◌, inl, inr, List, [], ◌∷◌, ◌++◌, length, drop, get_or, Option, Some, None, Ok, Err, refl, sym, ap, subst, ◌∙◌, arith, rules, lit<}
use Rattle.std.specs.Prelude.{decimal}
use Rattle.std.specs.Char.{is_ascii_digit}
use Rattle.std.specs.Fmt.{signed_decimal}
use Rattle.std.specs.Option.{ok_or}
use Rattle.std.specs.Str.{all_ascii_digits}
use Rattle.std.proofs.lemmas.Bool.{and_from, and_parts, eqb-true, ne_eqb, leb-true, le-leb, lt-ltb, ltb-true}
use Rattle.std.proofs.lemmas.Fmt.{decimal-digits_value, decimal_digit, digits_decimal, digits_value-decimal, first_decimal}
use Rattle.std.proofs.lemmas.Str.Parse.{IsNumeralModel, numerals_by_fold, tells_all_ascii_digits}
use Rattle.secs_text.specs.declared.text_fault.TextFault.TheVariants as fault
use Rattle.secs_text.specs.Grammar.{ArePositive}
use Rattle.secs_text.specs.Reading.{◌>>=◌, as_signed, as_unsigned, begins, digits_from, as_u64, is_within, magnitude_at, number_at, value_of, with_sign, within_at}
use Rattle.secs_text.proofs.Blanks.{bind_ok, chosen, ok_or_ok}

-- no digit stands at the front
abbrev pub Stops : List ℕ → Type 0
Stops rest = (n : ℕ) → digits_from n rest ≡ (n, rest)

abbrev pub read_on : ℕ → List ℕ → ℕ
read_on n [] = n
read_on n (c ∷ cs) = read_on (10 * n + (c - 48)) cs

abbrev pub AreDigits : List ℕ → Type 0
AreDigits ds = all_ascii_digits ds ≡ true

pub own : IsNumeralModel AreDigits (read_on 0)
own = numerals_by_fold _ tells_all_ascii_digits read_on (search rules)

read_on-le : (n : ℕ) (ds : List ℕ) → n ≤ read_on n ds
read_on-le n [] = omega arith
read_on-le n (c ∷ cs) = let ih : 10 * n + (c - 48) ≤ read_on (10 * n + (c - 48)) cs = read_on-le (10 * n + (c - 48)) cs in omega arith

-- ---- runs of digits

abbrev pub Run : ℕ → List ℕ → ℕ × List ℕ → Type 0
Run n bytes x = (ds : List ℕ) × AreDigits ds × (bytes ≡ ds ++ x.1) × (x.0 ≡ read_on n ds)

run_step : (n b : ℕ) (rest : List ℕ) (t : Bool) → is_ascii_digit b ≡ t → Run (10 * n + (b - 48)) rest (digits_from (10 * n + (b - 48)) rest)
    → Run n (b ∷ rest) (cond t (digits_from (10 * n + (b - 48)) rest) (n, b ∷ rest))
run_step n b rest true e ih = (b ∷ ih.0, and_from (is_ascii_digit b) (all_ascii_digits ih.0) e ih.1, ap (λ (s : List ℕ). b ∷ s) ih.2, ih.3)
run_step n b rest false e ih = ([], refl, refl, refl)

pub digits_run : (n : ℕ) (bytes : List ℕ) → Run n bytes (digits_from n bytes)
digits_run n [] = ([], refl, refl, refl)
digits_run n (b ∷ rest) = run_step n b rest (is_ascii_digit b) refl (digits_run (10 * n + (b - 48)) rest)

pub digits_again : (n : ℕ) (ds rest : List ℕ) → AreDigits ds → Stops rest → digits_from n (ds ++ rest) ≡ (read_on n ds, rest)
digits_again n [] rest digits stops = stops n
digits_again n (d ∷ ds) rest digits stops =
    let p = and_parts (is_ascii_digit d) (all_ascii_digits ds) digits in
    rw (p.0) (digits_again (10 * n + (d - 48)) ds rest p.1 stops)

as_u64_some : (n m : ℕ) (t : Bool) → ltb n (2 ^ 64) ≡ t → cond t (Some n) None ≡ Some m → (n ≡ m) × (n < 2 ^ 64)
as_u64_some n m true e h = (cc, ltb-true n (2 ^ 64) e)
as_u64_some n m false e h = absurd cc

-- ---- digits that don't begin with 0

mapped : (negative : Bool) (o : Option ℕ) (v : ℤ) → value_of negative o ≡ Some v → (m : ℕ) × (o ≡ Some m) × (v ≡ with_sign negative m)
mapped negative None v e = absurd cc
mapped negative (Some m) v e = (m, refl, cc)

positive_low : (b : ℕ) (ds : List ℕ) → ArePositive (b ∷ ds) → 49 ≤ b
positive_low b ds p = leb-true 49 b (and_parts (leb 49 b) (leb b 57) p.0).0

digits_text : (ds : List ℕ) (m : ℕ) → ArePositive ds → read_on 0 ds ≡ m → m < 2 ^ 64 → (0 < m) × (decimal m ≡ ds)
digits_text [] m p value small = absurd (cc (p.0))
digits_text (b ∷ ds) m p value small =
    let low : 49 ≤ b = positive_low b ds p in
    let fits : read_on 0 (b ∷ ds) < 2 ^ 64 = subst (λ (n : ℕ). n < 2 ^ 64) (sym value) small in
    let lead : get_or (b ∷ ds) 0 0 ≡ 48 → length (b ∷ ds) ≡ 1 = λ (e : b ≡ 48). absurd (omega (arith, e, low)) in
    let text : decimal (read_on 0 (b ∷ ds)) ≡ b ∷ ds = decimal-digits_value own (b ∷ ds) p.1 (omega arith) lead fits in
    let more : 10 * 0 + (b - 48) ≤ read_on (10 * 0 + (b - 48)) ds = read_on-le (10 * 0 + (b - 48)) ds in
    (omega (arith, more, value, low), ap decimal (sym value) ∙ text)

decimal_positive : (n : ℕ) → 0 < n → n < 2 ^ 64 → ArePositive (decimal n)
decimal_positive n some small = first_is (decimal n) (digits_decimal own n small) (first_decimal n some small) where
  first_is : (text : List ℕ) → AreDigits text → 48 < get_or text 0 0 → ArePositive text
  first_is [] digits first = absurd (omega (arith, first))
  first_is (b ∷ ds) digits first =
      let p = and_parts (is_ascii_digit b) (all_ascii_digits ds) digits in
      let q = and_parts (leb 48 b) (leb b 57) p.0 in
      (and_from (leb 49 b) (leb b 57) (le-leb 49 b (omega (arith, first))) q.1, digits)

abbrev MagnitudeRead : Bool → List ℕ → Option ℤ × List ℕ → Type 0
MagnitudeRead negative bytes x = (ds : List ℕ) × ArePositive ds × (bytes ≡ ds ++ x.1) × (x.0 ≡ value_of negative (as_u64 (read_on 0 ds)))

magnitude_parts : (negative : Bool) (total : ℕ) (bytes : List ℕ) (x : Option ℤ × List ℕ) → magnitude_at negative total bytes ≡ Ok x
    → MagnitudeRead negative bytes x
unfolding magnitude_at
magnitude_parts negative total [] x e = absurd cc
magnitude_parts negative total (b ∷ rest) x e =
    elim (chosen (leb 49 b && leb b 57) (Ok (value_of negative (as_u64 (digits_from (b - 48) rest).0), (digits_from (b - 48) rest).1)) (Err (fault.Syntax (total - suc (length rest)))) x e) [
      | inl h ↦
          let p = and_parts (leb 49 b) (leb b 57) h.0 in
          let run = digits_run (b - 48) rest in
          let made : ◌≡◌ {A = Option ℤ × List ℕ} (value_of negative (as_u64 (digits_from (b - 48) rest).0), (digits_from (b - 48) rest).1) x =
          cc (h.1) in
          let digit : is_ascii_digit b ≡ true = and_from (leb 48 b) (leb b 57) (le-leb 48 b (omega (arith, leb-true 49 b p.0))) p.1 in
          let start : b - 48 ≡ 10 * 0 + (b - 48) = omega arith in (
            b ∷ run.0,
            (h.0, and_from (is_ascii_digit b) (all_ascii_digits run.0) digit run.1),
            ap (λ (s : List ℕ). b ∷ s) (run.2 ∙ ap (λ (s : List ℕ). run.0 ++ s) (ap (λ p. p.1) made)),
            sym (ap (λ p. p.0) made) ∙ ap (λ (n : ℕ). value_of negative (as_u64 n)) (run.3 ∙ ap (λ (n : ℕ). read_on n run.0) start),
          )
      | inr h ↦ absurd (cc (h.1))
    ]

magnitude_again : (negative : Bool) (total : ℕ) (ds rest : List ℕ) → ArePositive ds → Stops rest
    → (magnitude_at negative total (ds ++ rest) ≡ Ok (value_of negative (as_u64 (read_on 0 ds)), rest)) × (begins 48 (ds ++ rest) ≡ false) × (begins 45 (ds ++ rest) ≡ false)
unfolding magnitude_at
magnitude_again negative total [] rest p stops = absurd (cc (p.0))
magnitude_again negative total (b ∷ ds) rest p stops =
    let low : 49 ≤ b = positive_low b ds p in
    let high = (and_parts (leb 49 b) (leb b 57) p.0).1 in
    let digits = (and_parts (is_ascii_digit b) (all_ascii_digits ds) p.1).1 in
    let start : b - 48 ≡ 10 * 0 + (b - 48) = omega arith in
    let whole : digits_from (b - 48) (ds ++ rest) ≡ (read_on 0 (b ∷ ds), rest) =
    digits_again (b - 48) ds rest digits stops ∙ ap (λ (n : ℕ). (read_on n ds, rest)) start in
    (rw (le-leb 49 b low, high, whole) refl, ne_eqb b 48 (λ (h : b ≡ 48). omega (arith, low)), ne_eqb b 45 (λ (h : b ≡ 45). omega (arith, low)))

-- ---- numbers

begun : (wanted : ℕ) (bytes : List ℕ) → begins wanted bytes ≡ true → bytes ≡ wanted ∷ drop 1 bytes
begun wanted [] h = absurd cc
begun wanted (b ∷ rest) h = ap (λ (c : ℕ). c ∷ rest) (eqb-true b wanted h)

-- the digits, with a minus before them or none
abbrev pub signed_digits : Bool → List ℕ → List ℕ
signed_digits negative ds = cond negative (45 ∷ ds) ds

-- what is read as a number is 0, or the digits of another
abbrev pub NumberRead : List ℕ → Option ℤ × List ℕ → Type 0
NumberRead bytes x =
    ((x.0 ≡ Some (pos 0)) × (bytes ≡ 48 ∷ x.1)) ⊎
    ((negative : Bool) × (ds : List ℕ) × ArePositive ds × (bytes ≡ signed_digits negative ds ++ x.1) × (x.0 ≡ value_of negative (as_u64 (read_on 0 ds))))

number_cases : (total : ℕ) (bytes : List ℕ) (x : Option ℤ × List ℕ)
    → cond (begins 48 bytes) (Ok (Some (pos 0), drop 1 bytes)) (cond (begins 45 bytes) (magnitude_at true total (drop 1 bytes)) (magnitude_at false total bytes)) ≡ Ok x
    → NumberRead bytes x
number_cases total bytes x e =
    elim (chosen (begins 48 bytes) (Ok (Some (pos 0), drop 1 bytes)) (cond (begins 45 bytes) (magnitude_at true total (drop 1 bytes)) (magnitude_at false total bytes)) x e) [
      | inl h ↦
          let made : ◌≡◌ {A = Option ℤ × List ℕ} (Some (pos 0), drop 1 bytes) x = cc (h.1) in
          inl (sym (ap (λ p. p.0) made), begun 48 bytes h.0 ∙ ap (λ (s : List ℕ). 48 ∷ s) (ap (λ p. p.1) made))
      | inr h ↦ elim (chosen (begins 45 bytes) (magnitude_at true total (drop 1 bytes)) (magnitude_at false total bytes) x h.1) [
        | inl g ↦ let m = magnitude_parts true total (drop 1 bytes) x g.1 in inr (true, m.0, m.1, begun 45 bytes g.0 ∙ ap (λ (s : List ℕ). 45 ∷ s) m.2, m.3)
        | inr g ↦ let m = magnitude_parts false total bytes x g.1 in inr (false, m.0, m.1, m.2, m.3)
      ]
    ]

pub number_parts : (total : ℕ) (bytes : List ℕ) (x : Option ℤ × List ℕ) → number_at total bytes ≡ Ok x → NumberRead bytes x
unfolding number_at
number_parts total bytes x e = number_cases total bytes x e

pub numeral_again : (negative : Bool) (total : ℕ) (ds rest : List ℕ) → ArePositive ds → Stops rest
    → number_at total (signed_digits negative ds ++ rest) ≡ Ok (value_of negative (as_u64 (read_on 0 ds)), rest)
unfolding number_at
numeral_again true total ds rest p stops = (magnitude_again true total ds rest p stops).0
numeral_again false total ds rest p stops = let m = magnitude_again false total ds rest p stops in rw (m.1, m.2) m.0

pub zero_text : decimal 0 ≡ 48 ∷ []
zero_text = decimal_digit 0 (lit< tt)

signed_text : (negative : Bool) (m : ℕ) → 0 < m → signed_digits negative (decimal m) ≡ signed_decimal (with_sign negative m)
signed_text negative zero some = absurd (omega arith)
signed_text true (suc m) some = refl
signed_text false (suc m) some = refl

number_takes : (total : ℕ) (bytes : List ℕ) (x : Option ℤ × List ℕ) (v : ℤ) → number_at total bytes ≡ Ok x → x.0 ≡ Some v
    → bytes ≡ signed_decimal v ++ x.1
number_takes total bytes x v e some =
    elim (number_parts total bytes x e) [
      | inl z ↦ let same : pos 0 ≡ v = cc (sym z.0 ∙ some) in z.1 ∙ ap (λ (s : List ℕ). s ++ x.1) (sym zero_text) ∙ ap (λ (z : ℤ). signed_decimal z ++ x.1) same
      | inr n ↦
          let m = mapped n.0 (as_u64 (read_on 0 n.1)) v (sym n.4 ∙ some) in
          let h = as_u64_some (read_on 0 n.1) m.0 (ltb (read_on 0 n.1) (2 ^ 64)) refl m.1 in
          let t = digits_text n.1 m.0 n.2 h.0 (subst (λ (n : ℕ). n < 2 ^ 64) h.0 h.1) in
          n.3 ∙ ap (λ (s : List ℕ). s ++ x.1) (ap (signed_digits n.0) (sym t.1) ∙ signed_text n.0 m.0 t.0 ∙ ap signed_decimal (sym m.2))
    ]

decimal_again : (negative : Bool) (total n : ℕ) (rest : List ℕ) → 0 < n → n < 2 ^ 64 → Stops rest
    → number_at total (signed_digits negative (decimal n) ++ rest) ≡ Ok (Some (with_sign negative n), rest)
decimal_again negative total n rest some small stops =
    let value : read_on 0 (decimal n) ≡ n = digits_value-decimal own n small in
    numeral_again negative total (decimal n) rest (decimal_positive n some small) stops ∙ rw (value, lt-ltb n (2 ^ 64) small) refl

pub natural_again : (total n : ℕ) (rest : List ℕ) → n < 2 ^ 64 → Stops rest → number_at total (decimal n ++ rest) ≡ Ok (Some (pos n), rest)
unfolding number_at
natural_again total zero rest small stops = rw zero_text refl
natural_again total (suc n) rest small stops = decimal_again false total (suc n) rest (omega arith) small stops

pub number_again : (total : ℕ) (z : ℤ) (rest : List ℕ) (half : ℕ) → half ≤ 2 ^ 63 → is_within half z ≡ true → Stops rest
    → number_at total (signed_decimal z ++ rest) ≡ Ok (Some z, rest)
number_again total (pos n) rest half le within stops = natural_again total n rest (omega (arith, ltb-true n half within)) stops
number_again total (negsuc n) rest half le within stops =
    decimal_again true total (suc n) rest (omega arith) (omega (arith, ltb-true n half within)) stops

-- ---- numbers of a kind

unsigned_some : (limit : ℕ) (o : Option ℤ) (n : ℕ) → as_unsigned limit o ≡ Some n → (o ≡ Some (pos n)) × (n < limit)
unsigned_some limit None n e = absurd cc
unsigned_some limit (Some (negsuc m)) n e = absurd cc
unsigned_some limit (Some (pos m)) n e = below_some m n limit (ltb m limit) refl e where
  below_some : (m n limit : ℕ) (t : Bool) → ltb m limit ≡ t → cond t (Some m) None ≡ Some n
      → (◌≡◌ {A = Option ℤ} (Some (pos m)) (Some (pos n))) × (n < limit)
  below_some m n limit true e h = let same : m ≡ n = cc in (ap (λ (k : ℕ). Some (pos k)) same, subst (λ (k : ℕ). k < limit) same (ltb-true m limit e))
  below_some m n limit false e h = absurd cc

signed_some : (half : ℕ) (o : Option ℤ) (z : ℤ) → as_signed half o ≡ Some z → (o ≡ Some z) × (is_within half z ≡ true)
signed_some half None z e = absurd cc
signed_some half (Some y) z e = kept y z (is_within half y) refl e where
  kept : (y z : ℤ) (t : Bool) → is_within half y ≡ t → cond t (Some y) None ≡ Some z
      → (◌≡◌ {A = Option ℤ} (Some y) (Some z)) × (is_within half z ≡ true)
  kept y z true e h = let same : y ≡ z = cc in (ap (λ (k : ℤ). Some k) same, ap (is_within half) (sym same) ∙ e)
  kept y z false e h = absurd cc

pub within_parts : {T : Type 0} (fits : Option ℤ → Option T) (total : ℕ) (bytes : List ℕ) (x : T × List ℕ) → within_at fits total bytes ≡ Ok x
    → (o : Option ℤ) × (number_at total bytes ≡ Ok (o, x.1)) × (fits o ≡ Some x.0)
within_parts fits total bytes x e =
    let a =
    bind_ok (number_at total bytes)
    (λ (n : Option ℤ × List ℕ). ok_or (fits n.0) (fault.Range (total - length bytes)) >>= λ value. Ok (value, n.1)) x e in
    let b = bind_ok (ok_or (fits a.0.0) (fault.Range (total - length bytes))) (λ value. Ok (value, a.0.1)) x a.2 in
    let made : ◌≡◌ {A = _ × List ℕ} (b.0, a.0.1) x = cc (b.2) in
    (a.0.0, a.1 ∙ ap (λ (rest : List ℕ). Ok (a.0.0, rest)) (ap (λ p. p.1) made), ok_or_ok (fits a.0.0) (fault.Range (total - length bytes)) b.0 b.1 ∙ ap (λ p. Some p.0) made)

pub unsigned_takes : (limit total : ℕ) (bytes : List ℕ) (x : ℕ × List ℕ) → within_at (as_unsigned limit) total bytes ≡ Ok x
    → (x.0 < limit) × (bytes ≡ decimal x.0 ++ x.1)
unsigned_takes limit total bytes x e =
    let w = within_parts (as_unsigned limit) total bytes x e in
    let s = unsigned_some limit w.0 x.0 w.2 in
    (s.1, number_takes total bytes (w.0, x.1) (pos x.0) w.1 s.0)

pub signed_takes : (half total : ℕ) (bytes : List ℕ) (x : ℤ × List ℕ) → within_at (as_signed half) total bytes ≡ Ok x
    → (is_within half x.0 ≡ true) × (bytes ≡ signed_decimal x.0 ++ x.1)
signed_takes half total bytes x e =
    let w = within_parts (as_signed half) total bytes x e in
    let s = signed_some half w.0 x.0 w.2 in
    (s.1, number_takes total bytes (w.0, x.1) x.0 w.1 s.0)

pub unsigned_again : (limit total n : ℕ) (rest : List ℕ) → limit ≤ 2 ^ 64 → n < limit → Stops rest
    → within_at (as_unsigned limit) total (decimal n ++ rest) ≡ Ok (n, rest)
unsigned_again limit total n rest le lt stops = rw (natural_again total n rest (omega arith) stops, lt-ltb n limit lt) refl

pub signed_again : (half total : ℕ) (z : ℤ) (rest : List ℕ) → half ≤ 2 ^ 63 → is_within half z ≡ true → Stops rest
    → within_at (as_signed half) total (signed_decimal z ++ rest) ≡ Ok (z, rest)
signed_again half total z rest le within stops = rw (number_again total z rest half le within stops, within) refl
