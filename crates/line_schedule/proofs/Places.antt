-- Where a byte first stands in a text.
use Rattle.std.proofs.Common.{◌≡◌, ℕ, suc, ◌+◌, ◌<◌, ◌≤◌, Bool, true, false, not, cond, eqb, nat_lt, List, [], ◌∷◌, ◌++◌, length, take, drop, Option, Some, None, refl, sym, ap, subst, ◌∙◌, arith, length-append, ◌&&◌}
use Rattle.std.proofs.lemmas.Bool.{eqb-true, eq-eqb, lt-ltb, ltb-true, ltb-false}
use Rattle.std.proofs.lemmas.List.Recursion.{is_position_or_len}
use Rattle.std.specs.List.{list_all, position, position_or_len}

-- the byte doesn't stand in the text
abbrev pub Lacks : ℕ → List ℕ → Type 0
Lacks wanted text = list_all (λ b. not (eqb b wanted)) text ≡ true

-- the byte stands first at this place
abbrev pub StandsAt : ℕ → List ℕ → ℕ → Type 0
StandsAt wanted text at = (text ≡ take at text ++ wanted ∷ drop (suc at) text) × Lacks wanted (take at text)

abbrev first : ℕ → List ℕ → ℕ
first wanted [] = 0
first wanted (b ∷ rest) = cond (eqb b wanted) 0 (suc (first wanted rest))

first_is : (wanted : ℕ) (text : List ℕ) → first wanted text ≡ position_or_len (λ b. eqb b wanted) text
first_is wanted = is_position_or_len (first wanted) (λ b. eqb b wanted) refl step where
  step : (b : ℕ) (rest : List ℕ) → cond (eqb b wanted) 0 (suc (first wanted rest)) ≡ cond (eqb b wanted) 0 (1 + first wanted rest)
  step b rest = let e : suc (first wanted rest) ≡ 1 + first wanted rest = omega arith in ap (λ n. cond (eqb b wanted) 0 n) e

stands_step : (wanted b : ℕ) (rest : List ℕ) (t : Bool) → eqb b wanted ≡ t → (first wanted rest < length rest →
    StandsAt wanted rest (first wanted rest)) →
    cond t 0 (suc (first wanted rest)) < suc (length rest) → StandsAt wanted (b ∷ rest) (cond t 0 (suc (first wanted rest)))
stands_step wanted b rest true e ih h = (ap (λ (c : ℕ). c ∷ rest) (eqb-true b wanted e), refl)
stands_step wanted b rest false e ih h = let s = ih (omega (arith, h)) in (ap (λ (r : List ℕ). b ∷ r) s.0, rw e (s.1))

stands : (wanted : ℕ) (text : List ℕ) → first wanted text < length text → StandsAt wanted text (first wanted text)
stands wanted [] h = absurd (omega (arith, h))
stands wanted (b ∷ rest) h = stands_step wanted b rest (eqb b wanted) refl (stands wanted rest) h

lacks_step : (wanted b : ℕ) (rest : List ℕ) (t : Bool) → eqb b wanted ≡ t → (length rest ≤ first wanted rest →
    Lacks wanted rest) →
    suc (length rest) ≤ cond t 0 (suc (first wanted rest)) → Lacks wanted (b ∷ rest)
lacks_step wanted b rest true e ih h = absurd (omega (arith, h))
lacks_step wanted b rest false e ih h = rw e (ih (omega (arith, h)))

lacks : (wanted : ℕ) (text : List ℕ) → length text ≤ first wanted text → Lacks wanted text
lacks wanted [] h = refl
lacks wanted (b ∷ rest) h = lacks_step wanted b rest (eqb b wanted) refl (lacks wanted rest) h

-- the first place below the length, where there is one
place_some : (n most at : ℕ) (t : Bool) → nat_lt n most ≡ t → cond t (Some n) None ≡ Some at → (n < most) × (n ≡ at)
place_some n most at true e h = (ltb-true n most e, cc)
place_some n most at false e h = absurd cc

place_none : (n most : ℕ) (t : Bool) → nat_lt n most ≡ t → ◌≡◌ {A = Option ℕ} (cond t (Some n) None) None → most ≤ n
place_none n most true e h = absurd cc
place_none n most false e h = ltb-false n most e

pub stands_at : (wanted : ℕ) (text : List ℕ) (at : ℕ) → position (λ b. eqb b wanted) text ≡ Some at → StandsAt wanted text at
stands_at wanted text at e =
    let p =
    place_some (position_or_len (λ b. eqb b wanted) text) (length text) at (nat_lt (position_or_len (λ b. eqb b wanted) text) (length text)) refl e in
    let same = first_is wanted text in
    subst (λ n. StandsAt wanted text n) (same ∙ p.1) (stands wanted text (rw same (p.0)))

pub stands_nowhere : (wanted : ℕ) (text : List ℕ) → position (λ b. eqb b wanted) text ≡ None → Lacks wanted text
stands_nowhere wanted text e =
    let p =
    place_none (position_or_len (λ b. eqb b wanted) text) (length text) (nat_lt (position_or_len (λ b. eqb b wanted) text) (length text)) refl e in
    lacks wanted text (rw (first_is wanted text) p)

-- the first byte is no such byte, nor is one behind it
pub lacks_first : (wanted b : ℕ) (text : List ℕ) → Lacks wanted (b ∷ text) → (eqb b wanted ≡ false) × Lacks wanted text
lacks_first wanted b text h = go (eqb b wanted) refl h where
  go : (t : Bool) → eqb b wanted ≡ t → (not t && list_all (λ b. not (eqb b wanted)) text) ≡ true →
      (eqb b wanted ≡ false) × Lacks wanted text
  go true e h = absurd cc
  go false e h = (e, h)

first_behind : (wanted : ℕ) (front rest : List ℕ) → Lacks wanted front → first wanted (front ++ wanted ∷ rest) ≡ length front
first_behind wanted [] rest h = rw (eq-eqb wanted wanted refl) refl
first_behind wanted (b ∷ front) rest h = let l = lacks_first wanted b front h in rw (l.0) (ap suc (first_behind wanted front rest l.1))

pub found_behind : (wanted : ℕ) (front rest : List ℕ) → Lacks wanted front →
    position (λ b. eqb b wanted) (front ++ wanted ∷ rest) ≡ Some (length front)
found_behind wanted front rest h =
    let text = front ++ wanted ∷ rest in
    let placed : position_or_len (λ b. eqb b wanted) text ≡ length front =
    sym (first_is wanted text) ∙ first_behind wanted front rest h in
    let within : nat_lt (length front) (length text) ≡ true =
    lt-ltb (length front) (length text) (omega (arith, length-append front (wanted ∷ rest))) in
    rw (placed, within) refl
