-- Elements: one in a form, and many, up to the end.
use Rattle.std.proofs.Common.{◌≡◌, ◌≢◌, ℕ, zero, suc, ◌+◌, ◌*◌, ◌<◌, Bool, true, false, eqb, leb, ◌||◌, inl, inr, List, [], ◌∷◌, ◌++◌, length, Some, None, Result, Ok, refl, sym, ap, subst, ◌∙◌, append_assoc, length-append, arith}
use Rattle.std.specs.Char.{is_ascii_digit}
use Rattle.std.proofs.lemmas.Bool.{and_left, eqb-true, lt-leb, ne_eqb, or_cases}
use Rattle.hex.specs.Hex.{hex_digit_value}
use Rattle.secs_text.specs.declared.text_fault.TextFault.{TextFault}
use Rattle.secs_text.specs.Grammar.{AfterBlanks, AreBlanks, InTurn, IsHexByte, IsHexBytes}
use Rattle.secs_text.specs.Names.{is_blank}
use Rattle.secs_text.specs.Reading.{◌>>=◌, Next, Ends, Goes, Reader, byte_in, each_at, each_from, element_next, hex_byte_at, hex_bytes_at}
use Rattle.secs_text.proofs.Blanks.{bind_ok, end_again, goes_again, in_table, next_ends, next_goes}
use Rattle.secs_text.proofs.Numerals.{Stops}

-- the text begins with a byte that is neither a blank nor `>`
abbrev pub Solid : List ℕ → Type 0
Solid text = (b : ℕ) × (more : List ℕ) × (text ≡ b ∷ more) × (is_blank b ≡ false) × (eqb b 62 ≡ false)

-- what is read is in the form, and what is in it is read
pub record IsForm {T : Type 0} (one : Reader T) (Is : T → List ℕ → Type 0) : Type 0 where
  pub takes : (total : ℕ) (bytes : List ℕ) (x : T × List ℕ) → one total bytes ≡ Ok x → (front : List ℕ) × Is x.0 front × (bytes ≡ front ++ x.1)
  pub again : (total : ℕ) (x : T) (front rest : List ℕ) → Is x front → Stops rest → one total (front ++ rest) ≡ Ok (x, rest)
  pub solid : (x : T) (front : List ℕ) → Is x front → Solid front

-- ---- where digits stop

pub blank_low : (b : ℕ) → is_blank b ≡ true → b < 48
blank_low b h =
    elim (or_cases (eqb b 32 || eqb b 9 || eqb b 13) (eqb b 10) h) [
      | inr e ↦ omega (arith, eqb-true b 10 e)
      | inl h ↦ elim (or_cases (eqb b 32 || eqb b 9) (eqb b 13) h) [
        | inr e ↦ omega (arith, eqb-true b 13 e)
        | inl h ↦ elim (or_cases (eqb b 32) (eqb b 9) h) [
          | inr e ↦ omega (arith, eqb-true b 9 e)
          | inl e ↦ omega (arith, eqb-true b 32 e)
        ]
      ]
    ]

low_no_digit : (b : ℕ) → b < 48 → is_ascii_digit b ≡ false
low_no_digit b low = and_left (leb 48 b) (leb b 57) (lt-leb 48 b low)

pub stops_end : (rest : List ℕ) → Stops (62 ∷ rest)
stops_end rest n = refl

pub stops_blanks : (blanks rest : List ℕ) → AreBlanks blanks → Stops rest → Stops (blanks ++ rest)
stops_blanks [] rest h stops = stops
stops_blanks (b ∷ blanks) rest h stops = λ n. rw (low_no_digit b (blank_low b h.0)) refl

stops_some : (blanks rest : List ℕ) → AreBlanks blanks → blanks ≢ [] → Stops (blanks ++ rest)
stops_some [] rest h some = absurd (some refl)
stops_some (b ∷ blanks) rest h some = λ n. rw (low_no_digit b (blank_low b h.0)) refl

-- ---- many elements

abbrev pub Ended : {T : Type 0} → (T → List ℕ → Type 0) → List T → List ℕ → List ℕ → Type 0
Ended Is xs bytes rest =
    (elements : List ℕ) × (blanks : List ℕ) × InTurn (AfterBlanks Is) xs elements × AreBlanks blanks × (bytes ≡ elements ++ (blanks ++ 62 ∷ rest))

from_ends : {T : Type 0} (one : Reader T) (Is : T → List ℕ → Type 0) (total most : ℕ) (bytes after : List ℕ) (xs : List T × List ℕ)
    → element_next total bytes ≡ Ok (Ends after) → ◌≡◌ {A = Result (List T × List ℕ) TextFault} (Ok ([], after)) (Ok xs) → Ended Is xs.0 bytes xs.1
from_ends {T} one Is total most bytes after xs found e =
    let made : ◌≡◌ {A = List T × List ℕ} ([], after) xs = cc in
    let n = next_ends total bytes after found in
    subst (λ (y : List T × List ℕ). Ended Is y.0 bytes y.1) made ([], n.0, refl, n.1, n.2)

joined : (blanks front rest others end : List ℕ) → blanks ++ (front ++ (others ++ end)) ≡ ((blanks ++ front) ++ others) ++ end
joined blanks front rest others end = simp append_assoc

from_next : {T : Type 0} (one : Reader T) (Is : T → List ℕ → Type 0) → IsForm one Is → (most total : ℕ)
    → ((bytes : List ℕ) (xs : List T × List ℕ) → each_at element_next one most total bytes ≡ Ok xs → Ended Is xs.0 bytes xs.1)
    → (bytes : List ℕ) (n : Next) (xs : List T × List ℕ) → element_next total bytes ≡ Ok n
    → each_from (each_at element_next one most total) (one total) n ≡ Ok xs → Ended Is xs.0 bytes xs.1
from_next one Is form most total others bytes (Ends after) xs found e = from_ends one Is total most bytes after xs found e
from_next {T} one Is form most total others bytes (Goes after) xs found e =
    let a =
    bind_ok (one total after) (λ (first : T × List ℕ). each_at element_next one most total first.1 >>= λ ys. Ok (first.0 ∷ ys.0, ys.1)) xs e in
    let b = bind_ok (each_at element_next one most total a.0.1) (λ (ys : List T × List ℕ). Ok (a.0.0 ∷ ys.0, ys.1)) xs a.2 in
    let made : ◌≡◌ {A = List T × List ℕ} (a.0.0 ∷ b.0.0, b.0.1) xs = cc (b.2) in
    let g = next_goes total bytes after found in
    let f = form.takes total after a.0 a.1 in
    let o = others a.0.1 b.0 b.1 in
    let end = o.1 ++ 62 ∷ b.0.1 in
    let whole : bytes ≡ ((g.0 ++ f.0) ++ o.0) ++ end =
    g.3 ∙ ap (λ (s : List ℕ). g.0 ++ s) (f.2 ∙ ap (λ (s : List ℕ). f.0 ++ s) o.4) ∙ joined g.0 f.0 [] o.0 end in
    subst (λ (y : List T × List ℕ). Ended Is y.0 bytes y.1) made
    ((g.0 ++ f.0) ++ o.0, o.1, (g.0 ++ f.0, o.0, refl, (g.0, f.0, refl, g.1, g.2, f.1), o.2), o.3, whole)

each_takes : {T : Type 0} (one : Reader T) (Is : T → List ℕ → Type 0) → IsForm one Is → (most total : ℕ) (bytes : List ℕ) (xs : List T × List ℕ)
    → each_at element_next one most total bytes ≡ Ok xs → Ended Is xs.0 bytes xs.1
each_takes one Is form zero total bytes xs e = absurd cc
each_takes one Is form (suc most) total bytes xs e =
    let a = bind_ok (element_next total bytes) (each_from (each_at element_next one most total) (one total)) xs e in
    from_next one Is form most total (each_takes one Is form most total) bytes a.0 xs a.1 a.2

pub elements_takes : {T : Type 0} (one : Reader T) (Is : T → List ℕ → Type 0) → IsForm one Is → (total : ℕ) (bytes : List ℕ) (xs : List T × List ℕ)
    → each_at element_next one (length bytes) total bytes ≡ Ok xs
    → (elements : List ℕ) × (blanks : List ℕ) × InTurn (AfterBlanks Is) xs.0 elements × AreBlanks blanks × (bytes ≡ elements ++ (blanks ++ 62 ∷ xs.1))
elements_takes one Is form total bytes xs e = each_takes one Is form (length bytes) total bytes xs e

stops_after : {T : Type 0} (Is : T → List ℕ → Type 0) (xs : List T) (elements blanks rest : List ℕ) → InTurn (AfterBlanks Is) xs elements
    → AreBlanks blanks → Stops (elements ++ (blanks ++ 62 ∷ rest))
stops_after Is [] elements blanks rest t h = rw t (stops_blanks blanks (62 ∷ rest) h (stops_end rest))
stops_after Is (x ∷ xs) elements blanks rest t h =
    let e = t.3 in
    let end = blanks ++ 62 ∷ rest in
    let regrouped : elements ++ end ≡ e.0 ++ (e.1 ++ (t.1 ++ end)) =
    ap (λ (s : List ℕ). s ++ end) (t.2 ∙ ap (λ (s : List ℕ). s ++ t.1) e.2) ∙ simp append_assoc in
    subst Stops (sym regrouped) (stops_some e.0 (e.1 ++ (t.1 ++ end)) e.3 e.4)

each_again : {T : Type 0} (one : Reader T) (Is : T → List ℕ → Type 0) → IsForm one Is → (most total : ℕ) (xs : List T) (elements blanks rest : List ℕ)
    → length elements < most → InTurn (AfterBlanks Is) xs elements → AreBlanks blanks
    → each_at element_next one most total (elements ++ (blanks ++ 62 ∷ rest)) ≡ Ok (xs, rest)
each_again one Is form zero total xs elements blanks rest lt t h = absurd (omega arith)
each_again one Is form (suc most) total [] elements blanks rest lt t h = rw (t, end_again total blanks rest h) refl
each_again {T} one Is form (suc most) total (x ∷ xs) elements blanks rest lt t h =
    let e = t.3 in
    let s = form.solid x e.1 e.5 in
    let end = blanks ++ 62 ∷ rest in
    let regrouped : elements ++ end ≡ e.0 ++ (e.1 ++ (t.1 ++ end)) =
    ap (λ (s : List ℕ). s ++ end) (t.2 ∙ ap (λ (s : List ℕ). s ++ t.1) e.2) ∙ simp append_assoc in
    let opened : e.1 ++ (t.1 ++ end) ≡ s.0 ∷ (s.1 ++ (t.1 ++ end)) = ap (λ (f : List ℕ). f ++ (t.1 ++ end)) s.2 in
    let goes : element_next total (e.0 ++ (e.1 ++ (t.1 ++ end))) ≡ Ok (Goes (e.1 ++ (t.1 ++ end))) =
    ap (λ (f : List ℕ). element_next total (e.0 ++ f)) opened ∙ goes_again total s.0 e.0 (s.1 ++ (t.1 ++ end)) e.3 e.4 s.3 s.4
    ∙ ap (λ (f : List ℕ). Ok (Goes f)) (sym opened) in
    let first : one total (e.1 ++ (t.1 ++ end)) ≡ Ok (x, t.1 ++ end) =
    form.again total x e.1 (t.1 ++ end) e.5 (stops_after Is xs t.1 blanks rest t.4 h) in
    let shorter : length t.1 < most = omega (arith, lt, ap length t.2, length-append t.0 t.1, ap length e.2, length-append e.0 e.1, ap length s.2) in
    ap (each_at element_next one (suc most) total) regrouped ∙ rw (goes, first, each_again one Is form most total xs t.1 blanks rest shorter t.4 h) refl

pub elements_again : {T : Type 0} (one : Reader T) (Is : T → List ℕ → Type 0) → IsForm one Is
    → (total : ℕ) (xs : List T) (elements blanks rest : List ℕ) → InTurn (AfterBlanks Is) xs elements → AreBlanks blanks
    → each_at element_next one (length (elements ++ (blanks ++ 62 ∷ rest))) total (elements ++ (blanks ++ 62 ∷ rest)) ≡ Ok (xs, rest)
elements_again one Is form total xs elements blanks rest t h =
    each_again one Is form (length (elements ++ (blanks ++ 62 ∷ rest))) total xs elements blanks rest (omega (arith, length-append elements (blanks ++ 62 ∷ rest), length-append blanks (62 ∷ rest))) t h

-- ---- hex

hex_low : (c : ℕ) → c < 48 → hex_digit_value c ≡ None
hex_low c low = rw (lt-leb 65 c (omega arith), lt-leb 97 c (omega arith), lt-leb 48 c low) refl

pub not_true : (t : Bool) → (t ≡ true → ⊥) → t ≡ false
not_true true h = absurd (h refl)
not_true false h = refl

hex_solid : (c v : ℕ) (more : List ℕ) → hex_digit_value c ≡ Some v → Solid (c ∷ more)
hex_solid c v more e =
    (c, more, refl, not_true (is_blank c) (λ (h : is_blank c ≡ true). let none : hex_digit_value c ≡ None = hex_low c (blank_low c h) in cc), ne_eqb c 62 (λ (h : c ≡ 62). let none : hex_digit_value c ≡ None = ap hex_digit_value h in cc))

pub hex_byte_takes : (total : ℕ) (bytes : List ℕ) (x : ℕ × List ℕ) → hex_byte_at total bytes ≡ Ok x
    → (front : List ℕ) × IsHexByte x.0 front × (bytes ≡ front ++ x.1)
unfolding hex_byte_at
hex_byte_takes total bytes x e =
    let a =
    bind_ok (byte_in hex_digit_value total bytes)
    (λ (high : ℕ × List ℕ). byte_in hex_digit_value total high.1 >>= λ low. Ok (16 * high.0 + low.0, low.1)) x e in
    let b = bind_ok (byte_in hex_digit_value total a.0.1) (λ (low : ℕ × List ℕ). Ok (16 * a.0.0 + low.0, low.1)) x a.2 in
    let made : ◌≡◌ {A = ℕ × List ℕ} (16 * a.0.0 + b.0.0, b.0.1) x = cc (b.2) in
    let h = in_table hex_digit_value total bytes a.0 a.1 in
    let l = in_table hex_digit_value total a.0.1 b.0 b.1 in
    (h.0 ∷ l.0 ∷ [], (a.0.0, b.0.0, h.1, l.1, sym (ap (λ p. p.0) made)), h.2 ∙ ap (λ (s : List ℕ). h.0 ∷ s) (l.2 ∙ ap (λ (s : List ℕ). l.0 ∷ s) (ap (λ p. p.1) made)))

pub hex_byte_again : (total b : ℕ) (front rest : List ℕ) → IsHexByte b front → hex_byte_at total (front ++ rest) ≡ Ok (b, rest)
unfolding hex_byte_at
hex_byte_again total b [] rest is = absurd is
hex_byte_again total b (c ∷ []) rest is = absurd is
hex_byte_again total b (c ∷ d ∷ []) rest is = rw (is.2, is.3, is.4) refl
hex_byte_again total b (c ∷ d ∷ e ∷ front) rest is = absurd is

hex_byte_solid : (b : ℕ) (front : List ℕ) → IsHexByte b front → Solid front
hex_byte_solid b [] is = absurd is
hex_byte_solid b (c ∷ []) is = absurd is
hex_byte_solid b (c ∷ d ∷ []) is = hex_solid c is.0 (d ∷ []) is.2
hex_byte_solid b (c ∷ d ∷ e ∷ front) is = absurd is

pub hex_byte_form : IsForm hex_byte_at IsHexByte
hex_byte_form = record {
  takes = hex_byte_takes;
  again = λ total b front rest is stops. hex_byte_again total b front rest is;
  solid = hex_byte_solid;
}

hex_bytes_takes : (size total : ℕ) (bytes : List ℕ) (x : List ℕ × List ℕ) → hex_bytes_at size total bytes ≡ Ok x
    → (front : List ℕ) × IsHexBytes size x.0 front × (bytes ≡ front ++ x.1)
hex_bytes_takes zero total bytes x e =
    let made : ◌≡◌ {A = List ℕ × List ℕ} ([], bytes) x = cc in
    subst (λ (y : List ℕ × List ℕ). (front : List ℕ) × IsHexBytes 0 y.0 front × (bytes ≡ front ++ y.1)) made ([], (refl, refl), refl)
hex_bytes_takes (suc size) total bytes x e =
    let a = bind_ok (hex_byte_at total bytes) (λ (byte : ℕ × List ℕ). hex_bytes_at size total byte.1 >>= λ ys. Ok (byte.0 ∷ ys.0, ys.1)) x e in
    let b = bind_ok (hex_bytes_at size total a.0.1) (λ (ys : List ℕ × List ℕ). Ok (a.0.0 ∷ ys.0, ys.1)) x a.2 in
    let made : ◌≡◌ {A = List ℕ × List ℕ} (a.0.0 ∷ b.0.0, b.0.1) x = cc (b.2) in
    let f = hex_byte_takes total bytes a.0 a.1 in
    let o = hex_bytes_takes size total a.0.1 b.0 b.1 in
    subst (λ (y : List ℕ × List ℕ). (front : List ℕ) × IsHexBytes (suc size) y.0 front × (bytes ≡ front ++ y.1)) made
    (f.0 ++ o.0, (ap suc o.1.0, (f.0, o.0, refl, f.1, o.1.1)), f.2 ∙ ap (λ (s : List ℕ). f.0 ++ s) o.2 ∙ sym (append_assoc f.0 o.0 b.0.1))

hex_bytes_again : (total : ℕ) (xs front rest : List ℕ) → InTurn IsHexByte xs front → hex_bytes_at (length xs) total (front ++ rest) ≡ Ok (xs, rest)
hex_bytes_again total [] front rest is = rw is refl
hex_bytes_again total (x ∷ xs) front rest is =
    let regrouped : front ++ rest ≡ is.0 ++ (is.1 ++ rest) = ap (λ (s : List ℕ). s ++ rest) is.2 ∙ append_assoc is.0 is.1 rest in
    rw (regrouped, hex_byte_again total x is.0 (is.1 ++ rest) is.3, hex_bytes_again total xs is.1 rest is.4) refl

pub solid_front : (front first rest : List ℕ) → front ≡ first ++ rest → Solid first → Solid front
solid_front front first rest e s = (s.0, s.1 ++ rest, e ∙ ap (λ (f : List ℕ). f ++ rest) s.2, s.3, s.4)

hex_bytes_solid : (size : ℕ) (xs front : List ℕ) → 0 < size → IsHexBytes size xs front → Solid front
hex_bytes_solid size [] front some is = absurd (omega (arith, is.0))
hex_bytes_solid size (x ∷ xs) front some is = solid_front front is.1.0 is.1.1 is.1.2 (hex_byte_solid x is.1.0 is.1.3)

pub hex_bytes_form : (size : ℕ) → 0 < size → IsForm (hex_bytes_at size) (IsHexBytes size)
hex_bytes_form size some = record {
  takes = hex_bytes_takes size;
  again = λ total xs front rest is stops. ap (λ (n : ℕ). hex_bytes_at n total (front ++ rest)) (sym is.0) ∙ hex_bytes_again total xs front rest is.1;
  solid = λ xs front is. hex_bytes_solid size xs front some is;
}

pub stops_only : (blanks : List ℕ) → AreBlanks blanks → Stops blanks
stops_only [] h = λ n. refl
stops_only (b ∷ blanks) h = λ n. rw (low_no_digit b (blank_low b h.0)) refl
