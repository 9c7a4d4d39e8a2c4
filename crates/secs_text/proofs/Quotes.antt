-- Texts in quotes.
use Rattle.std.proofs.Common.{◌≡◌, ◌≢◌, ℕ, zero, suc, ◌-◌, ◌+◌, ◌*◌, ◌≤◌, ◌<◌, Bool, true, false, not, cond, eqb, leb, ◌&&◌, ◌⊎◌, inl, inr, List, [], ◌∷◌, ◌++◌, length, drop, Some, Result, Ok, Err, refl, sym, ap, subst, ◌∙◌, append_assoc, length-append, arith}
use Rattle.std.proofs.lemmas.Bool.{and_from, and_parts, eqb-true, eqb-false, le-leb, ne_eqb, not-true}
use Rattle.hex.specs.Hex.{hex_digit_value}
use Rattle.secs_text.specs.declared.text_fault.TextFault.{TextFault}
use Rattle.secs_text.specs.declared.text_fault.TextFault.TheVariants as fault
use Rattle.secs_text.specs.Grammar.{AfterBlanks, AreBlanks, InTurn, IsHexByte, IsQuoted, IsShown}
use Rattle.secs_text.specs.Names.{is_blank}
use Rattle.short_text.specs.Shown.{stands_for_itself}
use Rattle.secs_text.specs.Reading.{◌>>=◌, Next, Ends, Goes, after_blanks, after_byte, after_end, after_space, begins, begins_escape, syntax_fault, byte_in, each_at, each_from, escape_at, quoted_at, shown_at, shown_next, text_at}
use Rattle.secs_text.proofs.Blanks.{bind_ok, blanks_found, blanks_skipped, begins_there, byte_again, byte_there, chosen, in_table, longer, stays}

quote_no_self : (b : ℕ) → stands_for_itself b ≡ true → eqb b 34 ≡ false
quote_no_self b h =
    not-true (eqb b 34)
    (and_parts (leb 32 b && leb b 126) (not (eqb b 34)) (and_parts (leb 32 b && leb b 126 && not (eqb b 34)) (not (eqb b 92)) h).0).1

-- ---- the digits of an escape

-- the byte of two digits, where it doesn't stand for itself
escape_end : (total byte : ℕ) (rest after : List ℕ) (x : ℕ × List ℕ) → cond (stands_for_itself byte) (syntax_fault total rest) (Ok (byte, after)) ≡ Ok x
    → (stands_for_itself byte ≡ false) × (◌≡◌ {A = ℕ × List ℕ} (byte, after) x)
escape_end total byte rest after x e =
    elim (chosen (stands_for_itself byte) (syntax_fault total rest) (Ok (byte, after)) x e) [
      | inl h ↦ absurd (cc (h.1))
      | inr h ↦ (h.0, cc (h.1))
    ]

allowed : {A : Type 0} (b : Bool) (r : Result A TextFault) (total : ℕ) (bytes : List ℕ) (y : A) → cond b r (syntax_fault total bytes) ≡ Ok y → r ≡ Ok y
allowed true r total bytes y e = e
allowed false r total bytes y e = absurd cc

escape_takes : (total : ℕ) (bytes : List ℕ) (x : ℕ × List ℕ) → escape_at total bytes ≡ Ok x
    → (digits : List ℕ) × (stands_for_itself x.0 ≡ false) × IsHexByte x.0 digits × (bytes ≡ digits ++ x.1)
unfolding escape_at
escape_takes total bytes x e =
    let a =
    bind_ok (byte_in hex_digit_value total bytes)
    (λ (high : ℕ × List ℕ). (cond (begins_escape high.0) (byte_in hex_digit_value total high.1) (syntax_fault total bytes)) >>= λ low. cond (stands_for_itself (16 * high.0 + low.0)) (syntax_fault total high.1) (Ok (16 * high.0 + low.0, low.1))) x e in
    let b =
    bind_ok (cond (begins_escape a.0.0) (byte_in hex_digit_value total a.0.1) (syntax_fault total bytes))
    (λ (low : ℕ × List ℕ). cond (stands_for_itself (16 * a.0.0 + low.0)) (syntax_fault total a.0.1) (Ok (16 * a.0.0 + low.0, low.1))) x a.2 in
    let s = escape_end total (16 * a.0.0 + b.0.0) a.0.1 b.0.1 x b.2 in
    let h = in_table hex_digit_value total bytes a.0 a.1 in
    let l = in_table hex_digit_value total a.0.1 b.0 (allowed (begins_escape a.0.0) (byte_in hex_digit_value total a.0.1) total bytes b.0 b.1) in
    (h.0 ∷ l.0 ∷ [], ap stands_for_itself (sym (ap (λ p. p.0) s.1)) ∙ s.0, (a.0.0, b.0.0, h.1, l.1, sym (ap (λ p. p.0) s.1)), h.2 ∙ ap (λ (s : List ℕ). h.0 ∷ s) (l.2 ∙ ap (λ (t : List ℕ). l.0 ∷ t) (ap (λ p. p.1) s.1)))

-- a digit is below 16
pub digit_small : (c v : ℕ) → hex_digit_value c ≡ Some v → v < 16
digit_small c v e = grind (arith, e)

plain : (b : ℕ) → 48 ≤ b → b ≤ 111 → (b ≡ 92 → ⊥) → stands_for_itself b ≡ true
plain b low high other =
    and_from (leb 32 b && leb b 126 && not (eqb b 34)) (not (eqb b 92))
    (and_from (leb 32 b && leb b 126) (not (eqb b 34)) (and_from (leb 32 b) (leb b 126) (le-leb 32 b (omega arith)) (le-leb b 126 (omega arith))) (ap not (ne_eqb b 34 (λ (e : b ≡ 34). omega arith))))
    (ap not (ne_eqb b 92 other))

stood : (b : ℕ) → stands_for_itself b ≡ false → 48 ≤ b → b ≤ 111 → (b ≡ 92 → ⊥) → ⊥
stood b bad low high other = let good : stands_for_itself b ≡ true = plain b low high other in cc

escape_high : (h l : ℕ) → l < 16 → stands_for_itself (16 * h + l) ≡ false → begins_escape h ≡ true
escape_high h l small bad =
    rw (
      ne_eqb h 3 (λ (e : h ≡ 3). stood (16 * h + l) bad (omega arith) (omega arith) (λ d. omega (arith, e, d, small))),
      ne_eqb h 4 (λ (e : h ≡ 4). stood (16 * h + l) bad (omega arith) (omega arith) (λ d. omega (arith, e, d, small))),
      ne_eqb h 6 (λ (e : h ≡ 6). stood (16 * h + l) bad (omega arith) (omega arith) (λ d. omega (arith, e, d, small))),
    ) refl

escape_again : (total b : ℕ) (digits rest : List ℕ) → stands_for_itself b ≡ false → IsHexByte b digits
    → escape_at total (digits ++ rest) ≡ Ok (b, rest)
unfolding escape_at
escape_again total b [] rest bad is = absurd is
escape_again total b (c ∷ []) rest bad is = absurd is
escape_again total b (c ∷ d ∷ []) rest bad is =
    let byte : stands_for_itself (16 * is.0 + is.1) ≡ false = ap stands_for_itself (sym is.4) ∙ bad in
    rw (is.2, escape_high is.0 is.1 (digit_small d is.1 is.3) byte, is.3, byte, is.4) refl
escape_again total b (c ∷ d ∷ e ∷ digits) rest bad is = absurd is

-- ---- one byte

shown_cases : (total b : ℕ) (rest : List ℕ) (x : ℕ × List ℕ)
    → cond (stands_for_itself b) (Ok (b, rest)) (cond (eqb b 92) (after_byte 120 total rest >>= escape_at total) (Err (fault.Syntax (total - suc (length rest))))) ≡ Ok x
    → (front : List ℕ) × IsShown x.0 front × (b ∷ rest ≡ front ++ x.1)
shown_cases total b rest x e =
    elim (chosen (stands_for_itself b) (Ok (b, rest)) (cond (eqb b 92) (after_byte 120 total rest >>= escape_at total) (Err (fault.Syntax (total - suc (length rest))))) x e) [
      | inl h ↦
          let made : ◌≡◌ {A = ℕ × List ℕ} (b, rest) x = cc (h.1) in
          subst (λ (y : ℕ × List ℕ). (front : List ℕ) × IsShown y.0 front × (b ∷ rest ≡ front ++ y.1)) made (b ∷ [], inl (h.0, refl), refl)
      | inr h ↦ elim (chosen (eqb b 92) (after_byte 120 total rest >>= escape_at total) (Err (fault.Syntax (total - suc (length rest)))) x h.1) [
        | inl g ↦
            let a = bind_ok (after_byte 120 total rest) (escape_at total) x g.1 in
            let d = escape_takes total a.0 x a.2 in
            (92 ∷ 120 ∷ d.0, inr (d.1, d.0, refl, d.2), ap (λ (c : ℕ). c ∷ rest) (eqb-true b 92 g.0) ∙ ap (λ (s : List ℕ). 92 ∷ s) (byte_there 120 total rest a.0 a.1 ∙ ap (λ (s : List ℕ). 120 ∷ s) d.3))
        | inr g ↦ absurd (cc (g.1))
      ]
    ]

pub shown_takes : (total : ℕ) (bytes : List ℕ) (x : ℕ × List ℕ) → shown_at total bytes ≡ Ok x
    → (front : List ℕ) × IsShown x.0 front × (bytes ≡ front ++ x.1)
unfolding shown_at
shown_takes total [] x e = absurd cc
shown_takes total (b ∷ rest) x e = shown_cases total b rest x e

shown_again : (total b : ℕ) (front rest : List ℕ) → IsShown b front
    → (shown_at total (front ++ rest) ≡ Ok (b, rest)) × (begins 34 (front ++ rest) ≡ false) × (0 < length front)
unfolding shown_at
shown_again total b front rest (inl h) = rw h.1 (rw h.0 refl, quote_no_self b h.0, omega arith)
shown_again total b front rest (inr h) = rw h.2 (escape_again total b h.1 rest h.0 h.3, refl, omega arith)

pub shown_some : (b : ℕ) (front : List ℕ) → IsShown b front → 0 < length front
shown_some b front (inl h) = omega (arith, ap length h.1)
shown_some b front (inr h) = omega (arith, ap length h.2)

-- ---- all of them

abbrev Inner : List ℕ → List ℕ → List ℕ → Type 0
Inner xs bytes rest = (inner : List ℕ) × InTurn IsShown xs inner × (bytes ≡ inner ++ 34 ∷ rest)

closed : (bytes : List ℕ) (n : Next) (b : Bool) → begins 34 bytes ≡ b
    → ◌≡◌ {A = Result Next TextFault} (cond b (Ok (Ends (drop 1 bytes))) (Ok (Goes bytes))) (Ok n)
    → ((bytes ≡ 34 ∷ drop 1 bytes) × (n ≡ Ends (drop 1 bytes))) ⊎ (n ≡ Goes bytes)
closed bytes n true h e = inl (begins_there 34 bytes h, cc)
closed bytes n false h e = inr cc

pub next_shown : (total : ℕ) (bytes : List ℕ) (n : Next) → shown_next total bytes ≡ Ok n
    → ((bytes ≡ 34 ∷ drop 1 bytes) × (n ≡ Ends (drop 1 bytes))) ⊎ (n ≡ Goes bytes)
unfolding shown_next
next_shown total bytes n e = closed bytes n (begins 34 bytes) refl e

abbrev Each : ℕ → ℕ → List ℕ → Result (List ℕ × List ℕ) TextFault
Each most total bytes = each_at shown_next shown_at most total bytes

from_shown : (most total : ℕ) → ((bytes : List ℕ) (xs : List ℕ × List ℕ) → Each most total bytes ≡ Ok xs → Inner xs.0 bytes xs.1)
    → (bytes : List ℕ) (n : Next) (xs : List ℕ × List ℕ) → shown_next total bytes ≡ Ok n
    → each_from (each_at shown_next shown_at most total) (shown_at total) n ≡ Ok xs → Inner xs.0 bytes xs.1
from_shown most total others bytes (Ends after) xs found e =
    let made : ◌≡◌ {A = List ℕ × List ℕ} ([], after) xs = cc in
    elim (next_shown total bytes (Ends after) found) [
      | inl h ↦ let left : drop 1 bytes ≡ after = cc (h.1) in subst (λ (y : List ℕ × List ℕ). Inner y.0 bytes y.1) made ([], refl, h.0 ∙ ap (λ (s : List ℕ). 34 ∷ s) left)
      | inr h ↦ absurd (cc (h))
    ]
from_shown most total others bytes (Goes after) xs found e =
    let a = bind_ok (shown_at total after) (λ (first : ℕ × List ℕ). Each most total first.1 >>= λ ys. Ok (first.0 ∷ ys.0, ys.1)) xs e in
    let b = bind_ok (Each most total a.0.1) (λ (ys : List ℕ × List ℕ). Ok (a.0.0 ∷ ys.0, ys.1)) xs a.2 in
    let made : ◌≡◌ {A = List ℕ × List ℕ} (a.0.0 ∷ b.0.0, b.0.1) xs = cc (b.2) in
    let f = shown_takes total after a.0 a.1 in
    let o = others a.0.1 b.0 b.1 in
    elim (next_shown total bytes (Goes after) found) [
      | inl h ↦ absurd (cc (h.1))
      | inr h ↦
          let left : bytes ≡ after = cc (h) in
          subst (λ (y : List ℕ × List ℕ). Inner y.0 bytes y.1) made
          (f.0 ++ o.0, (f.0, o.0, refl, f.1, o.1), left ∙ f.2 ∙ ap (λ (s : List ℕ). f.0 ++ s) o.2 ∙ sym (append_assoc f.0 o.0 (34 ∷ b.0.1)))
    ]

each_shown : (most total : ℕ) (bytes : List ℕ) (xs : List ℕ × List ℕ) → Each most total bytes ≡ Ok xs → Inner xs.0 bytes xs.1
each_shown zero total bytes xs e = absurd cc
each_shown (suc most) total bytes xs e =
    let a = bind_ok (shown_next total bytes) (each_from (each_at shown_next shown_at most total) (shown_at total)) xs e in
    from_shown most total (each_shown most total) bytes a.0 xs a.1 a.2

goes_shown : (total : ℕ) (bytes : List ℕ) → begins 34 bytes ≡ false → shown_next total bytes ≡ Ok (Goes bytes)
unfolding shown_next
goes_shown total bytes h = rw h refl

ends_shown : (total : ℕ) (rest : List ℕ) → shown_next total (34 ∷ rest) ≡ Ok (Ends rest)
unfolding shown_next
ends_shown total rest = refl

inner_again : (most total : ℕ) (xs inner rest : List ℕ) → length inner < most → InTurn IsShown xs inner
    → Each most total (inner ++ 34 ∷ rest) ≡ Ok (xs, rest)
inner_again zero total xs inner rest lt t = absurd (omega arith)
inner_again (suc most) total [] inner rest lt t = rw (t, ends_shown total rest) refl
inner_again (suc most) total (x ∷ xs) inner rest lt t =
    let tail = t.1 ++ 34 ∷ rest in
    let s = shown_again total x t.0 tail t.3 in
    let regrouped : inner ++ 34 ∷ rest ≡ t.0 ++ tail = ap (λ (f : List ℕ). f ++ 34 ∷ rest) t.2 ∙ append_assoc t.0 t.1 (34 ∷ rest) in
    let shorter : length t.1 < most = omega (arith, lt, s.2, ap length t.2, length-append t.0 t.1) in
    ap (Each (suc most) total) regrouped ∙ rw (goes_shown total (t.0 ++ tail) s.1, s.0, inner_again most total xs t.1 rest shorter t.4) refl

pub quoted_takes : (total : ℕ) (bytes : List ℕ) (x : List ℕ × List ℕ) → quoted_at total bytes ≡ Ok x
    → (front : List ℕ) × IsQuoted x.0 front × (bytes ≡ front ++ x.1)
unfolding quoted_at
quoted_takes total bytes x e =
    let a = bind_ok (after_byte 34 total bytes) (λ inner. Each (length inner) total inner) x e in
    let i = each_shown (length a.0) total a.0 x a.2 in
    (34 ∷ i.0 ++ 34 ∷ [], (i.0, refl, i.1), byte_there 34 total bytes a.0 a.1 ∙ ap (λ (s : List ℕ). 34 ∷ s) (i.2 ∙ sym (append_assoc i.0 (34 ∷ []) x.1)))

quoted_again : (total : ℕ) (xs front rest : List ℕ) → IsQuoted xs front → quoted_at total (front ++ rest) ≡ Ok (xs, rest)
unfolding quoted_at
quoted_again total xs front rest is =
    let inner = is.0 in
    let regrouped : front ++ rest ≡ 34 ∷ (inner ++ 34 ∷ rest) =
    ap (λ (s : List ℕ). s ++ rest) is.1 ∙ ap (λ (s : List ℕ). 34 ∷ s) (append_assoc inner (34 ∷ []) rest) in
    rw regrouped (inner_again (length (inner ++ 34 ∷ rest)) total xs inner rest (omega (arith, length-append inner (34 ∷ rest))) is.2)

-- ---- the one element of an A

pub space_there : (total : ℕ) (bytes rest : List ℕ) (b : Bool) → eqb (length (after_blanks bytes)) (length bytes) ≡ b
    → cond b (syntax_fault total bytes) (Ok (after_blanks bytes)) ≡ Ok rest
    → (blanks : List ℕ) × AreBlanks blanks × (blanks ≢ []) × (bytes ≡ blanks ++ rest)
space_there total bytes rest true h e = absurd cc
space_there total bytes rest false h e =
    let f = blanks_found bytes in
    let left : after_blanks bytes ≡ rest = cc in
    (f.0, f.1, λ (none : f.0 ≡ []). eqb-false (length (after_blanks bytes)) (length bytes) h (ap length (sym (f.2 ∙ ap (λ (s : List ℕ). s ++ after_blanks bytes) none))), f.2 ∙ ap (λ (s : List ℕ). f.0 ++ s) left)

-- an A's text and its end
pub text_takes : (total : ℕ) (bytes : List ℕ) (x : List ℕ × List ℕ) → text_at total bytes ≡ Ok x
    → (elements : List ℕ) × (blanks : List ℕ) × AfterBlanks IsQuoted x.0 elements × AreBlanks blanks × (bytes ≡ elements ++ (blanks ++ 62 ∷ x.1))
unfolding text_at
text_takes total bytes x e =
    let a = bind_ok (after_space total bytes) (λ front. quoted_at total front >>= λ text. after_end total text.1 >>= λ rest. Ok (text.0, rest)) x e in
    let b = bind_ok (quoted_at total a.0) (λ (text : List ℕ × List ℕ). after_end total text.1 >>= λ rest. Ok (text.0, rest)) x a.2 in
    let c = bind_ok (after_end total b.0.1) (λ rest. Ok (b.0.0, rest)) x b.2 in
    let made : ◌≡◌ {A = List ℕ × List ℕ} (b.0.0, c.0) x = cc (c.2) in
    let s = space_there total bytes a.0 (eqb (length (after_blanks bytes)) (length bytes)) refl a.1 in
    let q = quoted_takes total a.0 b.0 b.1 in
    let f = blanks_found b.0.1 in
    let end = byte_there 62 total (after_blanks b.0.1) c.0 c.1 in
    subst (λ (y : List ℕ × List ℕ). (elements : List ℕ) × (blanks : List ℕ) × AfterBlanks IsQuoted y.0 elements × AreBlanks blanks × (bytes ≡ elements ++ (blanks ++ 62 ∷ y.1))) made
    (s.0 ++ q.0, f.0, (s.0, q.0, refl, s.1, s.2, q.1), f.1, s.3 ∙ ap (λ (t : List ℕ). s.0 ++ t) (q.2 ∙ ap (λ (t : List ℕ). q.0 ++ t) (f.2 ∙ ap (λ (t : List ℕ). f.0 ++ t) end)) ∙ sym (append_assoc s.0 q.0 (f.0 ++ 62 ∷ c.0)))

space_again : (total b : ℕ) (blanks more : List ℕ) → AreBlanks blanks → blanks ≢ [] → is_blank b ≡ false
    → after_space total (blanks ++ b ∷ more) ≡ Ok (b ∷ more)
space_again total b blanks more h some solid =
    let skipped : after_blanks (blanks ++ b ∷ more) ≡ b ∷ more = blanks_skipped blanks (b ∷ more) h ∙ stays b more solid in
    rw (skipped, ne_eqb (length (b ∷ more)) (length (blanks ++ b ∷ more)) (longer blanks (b ∷ more) some)) refl

pub end_there : (total : ℕ) (blanks rest : List ℕ) → AreBlanks blanks → after_end total (blanks ++ 62 ∷ rest) ≡ Ok rest
end_there total blanks rest h = ap (after_byte 62 total) (blanks_skipped blanks (62 ∷ rest) h) ∙ byte_again 62 total rest

pub text_again : (total : ℕ) (xs elements blanks rest : List ℕ) → AfterBlanks IsQuoted xs elements → AreBlanks blanks
    → text_at total (elements ++ (blanks ++ 62 ∷ rest)) ≡ Ok (xs, rest)
unfolding text_at
text_again total xs elements blanks rest t h =
    let end = blanks ++ 62 ∷ rest in
    let inner = t.5.0 ++ 34 ∷ [] in
    let regrouped : elements ++ end ≡ t.0 ++ (t.1 ++ end) = ap (λ (s : List ℕ). s ++ end) t.2 ∙ append_assoc t.0 t.1 end in
    let opened : t.1 ++ end ≡ 34 ∷ (inner ++ end) = ap (λ (s : List ℕ). s ++ end) t.5.1 in
    let space : after_space total (t.0 ++ (t.1 ++ end)) ≡ Ok (t.1 ++ end) =
    ap (λ (s : List ℕ). after_space total (t.0 ++ s)) opened ∙ space_again total 34 t.0 (inner ++ end) t.3 t.4 refl
    ∙ ap (λ (s : List ℕ). Ok s) (sym opened) in
    rw (regrouped, space, quoted_again total xs t.1 end t.5, end_there total blanks rest h) refl
