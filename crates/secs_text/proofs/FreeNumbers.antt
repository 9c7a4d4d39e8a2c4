-- Numbers that may be of any size: what is read has the form of a number, and what has it is read.
use Rattle.std.proofs.Common.{◌≡◌, ℕ, ◌≤◌, ◌<◌, ℤ, pos, Bool, true, false, leb, inl, inr, List, [], ◌∷◌, ◌++◌, length, Option, Some, Ok, refl, sym, ap, ◌∙◌, arith}
use Rattle.std.specs.Char.{is_ascii_digit}
use Rattle.std.specs.Str.{all_ascii_digits}
use Rattle.std.proofs.lemmas.Bool.{and_parts, leb-true, ne_eqb}
use Rattle.secs_text.specs.Grammar.{ArePositive, IsNumber, IsNumeral}
use Rattle.secs_text.specs.Names.{is_blank}
use Rattle.secs_text.specs.Reading.{number_at, within_at}
use Rattle.secs_text.proofs.Elements.{IsForm, Solid, blank_low, not_true}
use Rattle.secs_text.proofs.Numerals.{Stops, number_parts, numeral_again, signed_digits, within_parts}

pub digit_solid : (text : List ℕ) → 0 < length text → all_ascii_digits text ≡ true → Solid text
digit_solid [] some digits = absurd (omega arith)
digit_solid (b ∷ ds) some digits =
    let p = and_parts (is_ascii_digit b) (all_ascii_digits ds) digits in
    let q = and_parts (leb 48 b) (leb b 57) p.0 in
    let low : 48 ≤ b = leb-true 48 b q.0 in
    let high : b ≤ 57 = leb-true b 57 q.1 in
    (b, ds, refl, not_true (is_blank b) (λ (h : is_blank b ≡ true). omega (arith, blank_low b h, low)), ne_eqb b 62 (λ (h : b ≡ 62). omega arith))

positive_solid : (ds : List ℕ) → ArePositive ds → Solid ds
positive_solid [] p = absurd (cc (p.0))
positive_solid (b ∷ ds) p = digit_solid (b ∷ ds) (omega arith) p.1

number_solid : (text : List ℕ) → IsNumber text → Solid text
number_solid text (inl e) = (48, [], e, refl, refl)
number_solid text (inr (inl p)) = positive_solid text p
number_solid text (inr (inr n)) = (45, n.0, n.1, refl, refl)

pub numeral : (negative : Bool) (ds : List ℕ) → ArePositive ds → IsNumeral (signed_digits negative ds)
numeral true ds p = inr (ds, refl, p)
numeral false ds p = inl p

number_form_takes : (total : ℕ) (bytes : List ℕ) (x : Option ℤ × List ℕ) → number_at total bytes ≡ Ok x
    → (front : List ℕ) × IsNumber front × (bytes ≡ front ++ x.1)
number_form_takes total bytes x e =
    elim (number_parts total bytes x e) [
      | inl z ↦ (48 ∷ [], inl refl, z.1)
      | inr n ↦ (signed_digits n.0 n.1, inr (numeral n.0 n.1 n.2), n.3)
    ]

number_form_again : (total : ℕ) (front rest : List ℕ) → IsNumber front → Stops rest
    → (o : Option ℤ) × (number_at total (front ++ rest) ≡ Ok (o, rest))
unfolding number_at
number_form_again total front rest (inl e) stops = (Some (pos 0), rw e refl)
number_form_again total front rest (inr (inl p)) stops = (_, numeral_again false total front rest p stops)
number_form_again total front rest (inr (inr n)) stops =
    (_, ap (λ (s : List ℕ). number_at total (s ++ rest)) n.1 ∙ numeral_again true total n.0 rest n.2 stops)

-- any number, taken for the same value
pub free_form : {T : Type 0} (zeros : T) → IsForm (within_at (λ n. Some zeros)) (λ x text. (x ≡ zeros) × IsNumber text)
free_form {T} zeros = record {
  takes = λ total bytes x e.
      let w = within_parts (λ n. Some zeros) total bytes x e in
      let n = number_form_takes total bytes (w.0, x.1) w.1 in
      let same : zeros ≡ x.0 = cc (w.2) in
      (n.0, (sym same, n.1), n.2);
  again = λ total x front rest is stops.
      let n = number_form_again total front rest is.1 stops in
      rw (n.1) (ap (λ (z : T). Ok (z, rest)) (sym is.0));
  solid = λ x front is. number_solid front is.1;
}
