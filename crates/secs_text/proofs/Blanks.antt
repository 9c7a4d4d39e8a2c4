-- Blanks, and the next step in a run of elements.
use Rattle.std.proofs.Common.{◌≡◌, ◌≢◌, ℕ, suc, ◌-◌, Bool, true, false, cond, eqb, ◌⊎◌, inl, inr, List, [], ◌∷◌, ◌++◌, length, drop, Option, Some, None, Result, Ok, Err, refl, sym, ap, ◌∙◌, length-append, arith}
use Rattle.std.proofs.lemmas.Bool.{eq-eqb, eqb-true, eqb-false, ne_eqb}
use Rattle.std.specs.Option.{ok_or}
use Rattle.secs_text.specs.declared.text_fault.TextFault.{TextFault}
use Rattle.secs_text.specs.declared.text_fault.TextFault.TheVariants as fault
use Rattle.secs_text.specs.Grammar.{AreBlanks}
use Rattle.secs_text.specs.Names.{is_blank}
use Rattle.secs_text.specs.Reading.{◌>>=◌, Next, Ends, Goes, after_blanks, after_byte, begins, syntax_fault, byte_in, element_next}

-- ---- steps that did not fail

pub bind_ok : {A B : Type 0} (r : Result A TextFault) (f : A → Result B TextFault) (y : B) → (r >>= f) ≡ Ok y → (x : A) × (r ≡ Ok x) × (f x ≡ Ok y)
bind_ok (Ok x) f y e = (x, refl, e)
bind_ok (Err d) f y e = absurd cc

-- an answer isn't a fault
pub not_ok : {A : Type 0} (e : TextFault) (x : A) → ◌≡◌ {A = Result A TextFault} (Err e) (Ok x) → ⊥
not_ok e x h = cc

pub chosen : {A : Type 0} (b : Bool) (x y : Result A TextFault) (z : A) → cond b x y ≡ Ok z → ((b ≡ true) × (x ≡ Ok z)) ⊎ ((b ≡ false) × (y ≡ Ok z))
chosen true x y z e = inl (refl, e)
chosen false x y z e = inr (refl, e)

pub ok_or_ok : {A : Type 0} (o : Option A) (d : TextFault) (y : A) → ok_or o d ≡ Ok y → o ≡ Some y
ok_or_ok None d y e = absurd cc
ok_or_ok (Some x) d y e = cc

-- ---- single bytes

pub byte_there : (wanted total : ℕ) (bytes rest : List ℕ) → after_byte wanted total bytes ≡ Ok rest → bytes ≡ wanted ∷ rest
byte_there wanted total [] rest e = absurd cc
byte_there wanted total (b ∷ bytes) rest e =
    elim (chosen (eqb b wanted) (Ok bytes) (Err (fault.Syntax (total - suc (length bytes)))) rest e) [
      | inl h ↦ let same : b ≡ wanted = eqb-true b wanted h.0 in let left : bytes ≡ rest = cc (h.1) in cc
      | inr h ↦ absurd (cc (h.1))
    ]

pub byte_again : (wanted total : ℕ) (rest : List ℕ) → after_byte wanted total (wanted ∷ rest) ≡ Ok rest
byte_again wanted total rest = rw (eq-eqb wanted wanted refl) refl

-- a byte for which the table has a value
pub in_table : {T : Type 0} (table : ℕ → Option T) (total : ℕ) (bytes : List ℕ) (x : T × List ℕ) → byte_in table total bytes ≡ Ok x
    → (b : ℕ) × (table b ≡ Some x.0) × (bytes ≡ b ∷ x.1)
in_table table total [] x e = absurd cc
in_table table total (b ∷ rest) x e =
    let a = bind_ok (ok_or (table b) (fault.Syntax (total - suc (length rest)))) (λ value. Ok (value, rest)) x e in
    let same = a.2 in
    let made : ◌≡◌ {A = _ × List ℕ} (a.0, rest) x = cc (a.2) in
    (b, ok_or_ok (table b) (fault.Syntax (total - suc (length rest))) a.0 a.1 ∙ ap (λ p. Some p.0) made, ap (λ p. b ∷ p.1) made)

pub table_again : {T : Type 0} (table : ℕ → Option T) (total b : ℕ) (rest : List ℕ) (value : T) → table b ≡ Some value
    → byte_in table total (b ∷ rest) ≡ Ok (value, rest)
table_again table total b rest value h = rw h refl

-- ---- blanks

found_step : (b : ℕ) (rest : List ℕ) (t : Bool) → is_blank b ≡ t → (blanks : List ℕ) × AreBlanks blanks × (rest ≡ blanks ++ after_blanks rest)
    → (blanks : List ℕ) × AreBlanks blanks × (b ∷ rest ≡ blanks ++ cond t (after_blanks rest) (b ∷ rest))
found_step b rest true e ih = (b ∷ ih.0, (e, ih.1), ap (λ (s : List ℕ). b ∷ s) ih.2)
found_step b rest false e ih = ([], tt, refl)

pub blanks_found : (bytes : List ℕ) → (blanks : List ℕ) × AreBlanks blanks × (bytes ≡ blanks ++ after_blanks bytes)
blanks_found [] = ([], tt, refl)
blanks_found (b ∷ rest) = found_step b rest (is_blank b) refl (blanks_found rest)

pub blanks_skipped : (blanks rest : List ℕ) → AreBlanks blanks → after_blanks (blanks ++ rest) ≡ after_blanks rest
blanks_skipped [] rest h = refl
blanks_skipped (b ∷ blanks) rest h = rw (h.0) (blanks_skipped blanks rest h.1)

pub blanks_alone : (blanks : List ℕ) → AreBlanks blanks → after_blanks blanks ≡ []
blanks_alone [] h = refl
blanks_alone (b ∷ blanks) h = rw (h.0) (blanks_alone blanks h.1)

pub stays : (b : ℕ) (rest : List ℕ) → is_blank b ≡ false → after_blanks (b ∷ rest) ≡ b ∷ rest
stays b rest h = rw h refl

-- ---- the next element

pub begins_there : (wanted : ℕ) (bytes : List ℕ) → begins wanted bytes ≡ true → bytes ≡ wanted ∷ drop 1 bytes
begins_there wanted [] h = absurd cc
begins_there wanted (b ∷ rest) h = ap (λ (c : ℕ). c ∷ rest) (eqb-true b wanted h)

-- what was found, where the blanks are passed
abbrev Found : List ℕ → List ℕ → Next → Type 0
Found bytes after n = ((after ≡ 62 ∷ drop 1 after) × (n ≡ Ends (drop 1 after))) ⊎ ((length after ≡ length bytes → ⊥) × (n ≡ Goes after))

decided : (total : ℕ) (bytes after : List ℕ) (n : Next)
    → cond (begins 62 after) (Ok (Ends (drop 1 after))) (cond (eqb (length after) (length bytes)) (syntax_fault total bytes) (Ok (Goes after))) ≡ Ok n
    → Found bytes after n
decided total bytes after n e =
    elim (chosen (begins 62 after) (Ok (Ends (drop 1 after))) (cond (eqb (length after) (length bytes)) (syntax_fault total bytes) (Ok (Goes after))) n e) [
      | inl h ↦ inl (begins_there 62 after h.0, cc (h.1))
      | inr h ↦ elim (chosen (eqb (length after) (length bytes)) (syntax_fault total bytes) (Ok (Goes after)) n h.1) [
        | inl g ↦ absurd (cc (g.1))
        | inr g ↦ inr (eqb-false (length after) (length bytes) g.0, cc (g.1))
      ]
    ]

next_found : (total : ℕ) (bytes : List ℕ) (n : Next) → element_next total bytes ≡ Ok n → Found bytes (after_blanks bytes) n
unfolding element_next
next_found total bytes n e = decided total bytes (after_blanks bytes) n e

pub next_ends : (total : ℕ) (bytes rest : List ℕ) → element_next total bytes ≡ Ok (Ends rest)
    → (blanks : List ℕ) × AreBlanks blanks × (bytes ≡ blanks ++ 62 ∷ rest)
next_ends total bytes rest e =
    let f = blanks_found bytes in
    elim (next_found total bytes (Ends rest) e) [
      | inl h ↦ let left : drop 1 (after_blanks bytes) ≡ rest = cc (h.1) in (f.0, f.1, f.2 ∙ ap (λ (s : List ℕ). f.0 ++ s) (h.0 ∙ ap (λ (s : List ℕ). 62 ∷ s) left))
      | inr h ↦ absurd (cc (h.1))
    ]

pub next_goes : (total : ℕ) (bytes after : List ℕ) → element_next total bytes ≡ Ok (Goes after)
    → (blanks : List ℕ) × AreBlanks blanks × (blanks ≢ []) × (bytes ≡ blanks ++ after)
next_goes total bytes after e =
    let f = blanks_found bytes in
    elim (next_found total bytes (Goes after) e) [
      | inl h ↦ absurd (cc (h.1))
      | inr h ↦
          let left : after_blanks bytes ≡ after = cc (h.1) in
          (f.0, f.1, λ (none : f.0 ≡ []). h.0 (ap length (sym (f.2 ∙ ap (λ (s : List ℕ). s ++ after_blanks bytes) none))), f.2 ∙ ap (λ (s : List ℕ). f.0 ++ s) left)
    ]

pub end_again : (total : ℕ) (blanks rest : List ℕ) → AreBlanks blanks → element_next total (blanks ++ 62 ∷ rest) ≡ Ok (Ends rest)
unfolding element_next
end_again total blanks rest h = rw (blanks_skipped blanks (62 ∷ rest) h) refl

pub longer : (blanks s : List ℕ) → blanks ≢ [] → length s ≡ length (blanks ++ s) → ⊥
longer [] s some e = some refl
longer (b ∷ blanks) s some e = absurd (omega (arith, e, length-append blanks s))

pub goes_again : (total b : ℕ) (blanks more : List ℕ) → AreBlanks blanks → blanks ≢ [] → is_blank b ≡ false → eqb b 62 ≡ false
    → element_next total (blanks ++ b ∷ more) ≡ Ok (Goes (b ∷ more))
unfolding element_next
goes_again total b blanks more h some solid other =
    let skipped : after_blanks (blanks ++ b ∷ more) ≡ b ∷ more = blanks_skipped blanks (b ∷ more) h ∙ stays b more solid in
    rw (skipped, other, ne_eqb (length (b ∷ more)) (length (blanks ++ b ∷ more)) (longer blanks (b ∷ more) some)) refl
