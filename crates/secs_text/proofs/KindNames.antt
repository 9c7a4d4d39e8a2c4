-- Names of kinds: what is read is a name, and each name is read.
use Rattle.std.proofs.Common.{◌≡◌, ℕ, Bool, true, false, cond, eqb, ◌⊎◌, inl, inr, List, [], ◌∷◌, ◌++◌, Option, Some, None, Result, Ok, refl, sym, ap, subst, ◌∙◌}
use Rattle.std.specs.Prelude.{codes}
use Rattle.std.proofs.lemmas.Bool.{eqb-true}
use Rattle.secs_items.specs.declared.kind.Kind.{Kind}
use Rattle.secs_items.specs.declared.kind.Kind.TheVariants as kind
use Rattle.secs_text.specs.declared.text_fault.TextFault.{TextFault}
use Rattle.secs_text.specs.Names.{name_of}
use Rattle.secs_text.specs.Reading.{◌>>=◌, after_byte, after_word, begins, binary_at, byte_in, float_kind, integer_kind, kind_at, name_at, unsigned_kind}
use Rattle.secs_text.proofs.Blanks.{bind_ok, byte_there, chosen, in_table}

picked : (b : Bool) (k k' : Kind) (o : Option Kind) → cond b (Some k) o ≡ Some k' → ((b ≡ true) × (k ≡ k')) ⊎ (o ≡ Some k')
picked true k k' o e = inl (refl, cc)
picked false k k' o e = inr e

digit_name : (letter d b : ℕ) (k k' : Kind) → name_of k ≡ letter ∷ d ∷ [] → (eqb b d ≡ true) × (k ≡ k') → name_of k' ≡ letter ∷ b ∷ []
digit_name letter d b k k' named p = ap name_of (sym p.1) ∙ named ∙ ap (λ (c : ℕ). letter ∷ c ∷ []) (sym (eqb-true b d p.0))

integer_name : (b : ℕ) (k : Kind) → integer_kind b ≡ Some k → name_of k ≡ 73 ∷ b ∷ []
integer_name b k e =
    elim (picked (eqb b 49) kind.I1 k _ e) [
      | inl p ↦ digit_name 73 49 b kind.I1 k refl p
      | inr e ↦ elim (picked (eqb b 50) kind.I2 k _ e) [
        | inl p ↦ digit_name 73 50 b kind.I2 k refl p
        | inr e ↦ elim (picked (eqb b 52) kind.I4 k _ e) [
          | inl p ↦ digit_name 73 52 b kind.I4 k refl p
          | inr e ↦ elim (picked (eqb b 56) kind.I8 k None e) [
            | inl p ↦ digit_name 73 56 b kind.I8 k refl p
            | inr e ↦ absurd (cc (e))
          ]
        ]
      ]
    ]

unsigned_name : (b : ℕ) (k : Kind) → unsigned_kind b ≡ Some k → name_of k ≡ 85 ∷ b ∷ []
unsigned_name b k e =
    elim (picked (eqb b 49) kind.U1 k _ e) [
      | inl p ↦ digit_name 85 49 b kind.U1 k refl p
      | inr e ↦ elim (picked (eqb b 50) kind.U2 k _ e) [
        | inl p ↦ digit_name 85 50 b kind.U2 k refl p
        | inr e ↦ elim (picked (eqb b 52) kind.U4 k _ e) [
          | inl p ↦ digit_name 85 52 b kind.U4 k refl p
          | inr e ↦ elim (picked (eqb b 56) kind.U8 k None e) [
            | inl p ↦ digit_name 85 56 b kind.U8 k refl p
            | inr e ↦ absurd (cc (e))
          ]
        ]
      ]
    ]

float_name : (b : ℕ) (k : Kind) → float_kind b ≡ Some k → name_of k ≡ 70 ∷ b ∷ []
float_name b k e =
    elim (picked (eqb b 52) kind.F4 k _ e) [
      | inl p ↦ digit_name 70 52 b kind.F4 k refl p
      | inr e ↦ elim (picked (eqb b 56) kind.F8 k None e) [
        | inl p ↦ digit_name 70 56 b kind.F8 k refl p
        | inr e ↦ absurd (cc (e))
      ]
    ]

word_there : (word : List ℕ) (total : ℕ) (bytes rest : List ℕ) → after_word word total bytes ≡ Ok rest → bytes ≡ word ++ rest
word_there [] total bytes rest e = cc
word_there (b ∷ word) total bytes rest e =
    let a = bind_ok (after_byte b total bytes) (after_word word total) rest e in
    byte_there b total bytes a.0 a.1 ∙ ap (λ (s : List ℕ). b ∷ s) (word_there word total a.0 rest a.2)

abbrev Named : List ℕ → Kind × List ℕ → Type 0
Named bytes x = bytes ≡ name_of x.0 ++ x.1

letter_alone : (c letter : ℕ) (rest : List ℕ) (k : Kind) (x : Kind × List ℕ) → name_of k ≡ letter ∷ [] → eqb c letter ≡ true
    → ◌≡◌ {A = Result (Kind × List ℕ) TextFault} (Ok (k, rest)) (Ok x) → Named (c ∷ rest) x
letter_alone c letter rest k x named is e =
    let made : ◌≡◌ {A = Kind × List ℕ} (k, rest) x = cc in
    subst (Named (c ∷ rest)) made (ap (λ (b : ℕ). b ∷ rest) (eqb-true c letter is) ∙ ap (λ (s : List ℕ). s ++ rest) (sym named))

by_digit : (c letter total : ℕ) (rest : List ℕ) (table : ℕ → Option Kind) (x : Kind × List ℕ)
    → ((b : ℕ) (k : Kind) → table b ≡ Some k → name_of k ≡ letter ∷ b ∷ []) → eqb c letter ≡ true → byte_in table total rest ≡ Ok x
    → Named (c ∷ rest) x
by_digit c letter total rest table x names is e =
    let t = in_table table total rest x e in
    ap (λ (b : ℕ). b ∷ rest) (eqb-true c letter is) ∙ ap (λ (s : List ℕ). letter ∷ s) t.2 ∙ ap (λ (s : List ℕ). s ++ x.1) (sym (names t.0 x.0 t.1))

binary_name : (c total : ℕ) (rest : List ℕ) (x : Kind × List ℕ) → eqb c 66 ≡ true → binary_at total rest ≡ Ok x → Named (c ∷ rest) x
unfolding binary_at
binary_name c total rest x is e =
    elim (chosen (begins 79 rest) (after_word (codes "OOLEAN") total rest >>= λ after. Ok (kind.Bool, after)) (Ok (kind.B, rest)) x e) [
      | inl h ↦
          let a = bind_ok (after_word (codes "OOLEAN") total rest) (λ after. Ok (kind.Bool, after)) x h.1 in
          let made : ◌≡◌ {A = Kind × List ℕ} (kind.Bool, a.0) x = cc (a.2) in
          subst (Named (c ∷ rest)) made (ap (λ (b : ℕ). b ∷ rest) (eqb-true c 66 is) ∙ ap (λ (s : List ℕ). 66 ∷ s) (word_there (codes "OOLEAN") total rest a.0 a.1))
      | inr h ↦ letter_alone c 66 rest kind.B x refl is h.1
    ]

name_takes : (total : ℕ) (bytes : List ℕ) (x : Kind × List ℕ) → name_at total bytes ≡ Ok x → Named bytes x
unfolding name_at
name_takes total [] x e = absurd cc
name_takes total (c ∷ rest) x e =
    elim (chosen (eqb c 76) (Ok (kind.L, rest)) _ x e) [
      | inl h ↦ letter_alone c 76 rest kind.L x refl h.0 h.1
      | inr h ↦ elim (chosen (eqb c 65) (Ok (kind.A, rest)) _ x h.1) [
        | inl h ↦ letter_alone c 65 rest kind.A x refl h.0 h.1
        | inr h ↦ elim (chosen (eqb c 74) (Ok (kind.J, rest)) _ x h.1) [
          | inl h ↦ letter_alone c 74 rest kind.J x refl h.0 h.1
          | inr h ↦ elim (chosen (eqb c 66) (binary_at total rest) _ x h.1) [
            | inl h ↦ binary_name c total rest x h.0 h.1
            | inr h ↦ elim (chosen (eqb c 73) (byte_in integer_kind total rest) _ x h.1) [
              | inl h ↦ by_digit c 73 total rest integer_kind x integer_name h.0 h.1
              | inr h ↦ elim (chosen (eqb c 85) (byte_in unsigned_kind total rest) _ x h.1) [
                | inl h ↦ by_digit c 85 total rest unsigned_kind x unsigned_name h.0 h.1
                | inr h ↦ elim (chosen (eqb c 70) (byte_in float_kind total rest) _ x h.1) [
                  | inl h ↦ by_digit c 70 total rest float_kind x float_name h.0 h.1
                  | inr h ↦ absurd (cc (h.1))
                ]
              ]
            ]
          ]
        ]
      ]
    ]

pub kind_takes : (total : ℕ) (bytes : List ℕ) (x : Kind × List ℕ) → kind_at total bytes ≡ Ok x → bytes ≡ 60 ∷ name_of x.0 ++ x.1
unfolding kind_at
kind_takes total bytes x e =
    let a = bind_ok (after_byte 60 total bytes) (name_at total) x e in
    byte_there 60 total bytes a.0 a.1 ∙ ap (λ (s : List ℕ). 60 ∷ s) (name_takes total a.0 x a.2)

pub kind_again : (total : ℕ) (k : Kind) (rest : List ℕ) → begins 79 rest ≡ false → kind_at total (60 ∷ name_of k ++ rest) ≡ Ok (k, rest)
unfolding kind_at name_at binary_at
kind_again total kind.L rest h = refl
kind_again total kind.B rest h = rw h refl
kind_again total kind.Bool rest h = refl
kind_again total kind.A rest h = refl
kind_again total kind.J rest h = refl
kind_again total kind.I1 rest h = refl
kind_again total kind.I2 rest h = refl
kind_again total kind.I4 rest h = refl
kind_again total kind.I8 rest h = refl
kind_again total kind.U1 rest h = refl
kind_again total kind.U2 rest h = refl
kind_again total kind.U4 rest h = refl
kind_again total kind.U8 rest h = refl
kind_again total kind.F4 rest h = refl
kind_again total kind.F8 rest h = refl
