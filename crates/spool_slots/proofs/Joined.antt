-- That the pieces of a body, each in the area of its slot, are the body.
use Rattle.std.proofs.Common.{◌≡◌, ◌⊎◌, ℕ, zero, suc, ◌+◌, ◌-◌, ◌*◌, ◌/◌, ◌%◌, ◌<◌, ◌≤◌, ◌==◌, Bool, true, false}
use Rattle.std.proofs.Common.{if◌then◌else◌, List, [], ◌∷◌, ◌++◌, length, take, drop}
use Rattle.std.proofs.Common.{length-drop, refl, sym, ap, subst, ◌∙◌, arith, inl, inr}
use Rattle.std.proofs.lemmas.Bool.{cases_lt}
use Rattle.std.proofs.lemmas.List.{drop-drop, length-take-le, take-append-drop, take-append-le, take_all}
use Rattle.spool_file.specs.Sizes.{slots_for}
use Rattle.spool_file.specs.Slot.{Slot, areas_from}
use Rattle.spool_slots.specs.Calls.{piece_of}

-- each of its slots has some of a body
pub slots_reach : (long place : ℕ) → place < slots_for long → 4081 * place ≤ long
unfolding slots_for
slots_reach long place = by_test (long == 0) refl where
  by_test : (b : Bool) → (long == 0) ≡ b → place < (if b then 1 else (long + 4080) / 4081) → 4081 * place ≤ long
  by_test true is below = omega (arith, below)
  by_test false is below = omega (arith, below)

none_long : (body : List ℕ) → length body ≤ 0 → body ≡ []
none_long [] less = refl
none_long (byte ∷ body) less = absurd (omega (arith, less))

-- more than the first list is the first and some of the second
take-over : (n : ℕ) (xs ys : List ℕ) → length xs ≤ n → take n (xs ++ ys) ≡ xs ++ take (n - length xs) ys
take-over n [] ys within = let same : n ≡ n - 0 = omega arith in ap (λ (m : ℕ). take m ys) same
take-over zero (x ∷ xs) ys within = absurd (omega (arith, within))
take-over (suc n) (x ∷ xs) ys within =
    let left : n - length xs ≡ suc n - suc (length xs) = omega arith in
    ap (λ (l : List ℕ). x ∷ l) (take-over n xs ys (omega (arith, within)))
    ∙ ap (λ (m : ℕ). x ∷ (xs ++ take m ys)) left

piece_next : (body : List ℕ) (p : ℕ) → piece_of body (p + 1) ≡ piece_of (drop 4081 body) p
piece_next body p =
    let at : 4081 * (p + 1) ≡ 4081 + 4081 * p = omega arith in
    ap (λ (n : ℕ). take 4081 (drop n body)) at
    ∙ ap (λ (xs : List ℕ). take 4081 xs) (sym (drop-drop (4081 * p) 4081 body))

pub joined : (f : ℕ → Slot) (slots number more : ℕ) (body : List ℕ) → length body ≤ 4081 * more →
    ((p : ℕ) → p < more → length (f ((number + p) % slots)).area ≡ 4081) →
    ((p : ℕ) → p < more → take (length (piece_of body p)) (f ((number + p) % slots)).area ≡ piece_of body p) →
    take (length body) (areas_from slots f number more) ≡ body
joined f slots number zero body within full there =
    let none = none_long body (omega (arith, within)) in
    ap (λ (b : List ℕ). take (length b) []) none ∙ sym none
joined f slots number (suc more) body within full there =
    let at : number + 0 ≡ number = omega arith in
    let area_long : length (f (number % slots)).area ≡ 4081 =
    subst (λ (x : ℕ). length (f (x % slots)).area ≡ 4081) at (full 0 (omega arith)) in
    let piece : take (length (take 4081 body)) (f (number % slots)).area ≡ take 4081 body =
    subst (λ (x : ℕ). take (length (take 4081 body)) (f (x % slots)).area ≡ take 4081 body) at (there 0 (omega arith)) in
    by_length (f (number % slots)).area area_long piece (cases_lt 4081 (length body))
    (λ long. joined f slots (number + 1) more (drop 4081 body) (omega (arith, within, length-drop 4081 body))
    (λ p less. let next : number + (p + 1) ≡ number + 1 + p = omega arith in
    subst (λ (x : ℕ). length (f (x % slots)).area ≡ 4081) next (full (p + 1) (omega (arith, less))))
    (λ p less. let next : number + (p + 1) ≡ number + 1 + p = omega arith in
    subst (λ (x : ℕ). take (length (piece_of (drop 4081 body) p)) (f (x % slots)).area ≡ piece_of (drop 4081 body) p) next
    (subst (λ (piece : List ℕ). take (length piece) (f ((number + (p + 1)) % slots)).area ≡ piece) (piece_next body p)
    (there (p + 1) (omega (arith, less)))))) where
      by_length : (area : List ℕ) → length area ≡ 4081 → take (length (take 4081 body)) area ≡ take 4081 body →
          (4081 < length body) ⊎ (length body ≤ 4081) →
          (4081 < length body → take (length (drop 4081 body)) (areas_from slots f (number + 1) more) ≡ drop 4081 body) →
          take (length body) (area ++ areas_from slots f (number + 1) more) ≡ body
      by_length area area_long piece (inr short) rest =
          let whole : take 4081 body ≡ body = take_all 4081 body short in
          take-append-le (length body) area (areas_from slots f (number + 1) more) (omega (arith, short, area_long))
          ∙ subst (λ (b : List ℕ). take (length b) area ≡ b) whole piece
      by_length area area_long piece (inl long) rest =
          let first_long : length (take 4081 body) ≡ 4081 = length-take-le 4081 body (omega (arith, long)) in
          let first : area ≡ take 4081 body =
          sym (take_all (length (take 4081 body)) area (omega (arith, area_long, first_long))) ∙ piece in
          let left : length body - length area ≡ length (drop 4081 body) =
          omega (arith, area_long, length-drop 4081 body) in
          take-over (length body) area (areas_from slots f (number + 1) more) (omega (arith, area_long, long))
          ∙ ap (λ (n : ℕ). area ++ take n (areas_from slots f (number + 1) more)) left
          ∙ ap (λ (xs : List ℕ). area ++ xs) (rest long)
          ∙ ap (λ (xs : List ℕ). xs ++ drop 4081 body) first
          ∙ take-append-drop 4081 body
