-- A list without its first element that passes, or with another one in its place.
use Rattle.std.proofs.Common.{◌≡◌, refl, ap, ◌∙◌, Bool, true, false, not, cond, ℕ, suc, ◌+◌, arith, List, [], ◌∷◌, set, All, Some}
use Rattle.std.specs.List.{find, position_or_len, remove}
use Rattle.std.proofs.lemmas.List.Elements.{All-nil, All-cons, All-head, All-tail}

pub one-more : (n : ℕ) → 1 + n ≡ suc n
one-more n = omega arith

abbrev pub without-first : {X : Type 0} → (X → Bool) → List X → List X
without-first test [] = []
without-first test (x ∷ xs) = cond (test x) xs (x ∷ without-first test xs)

abbrev pub replace-first : {X : Type 0} → (X → Bool) → X → List X → List X
replace-first test y [] = []
replace-first test y (x ∷ xs) = cond (test x) (y ∷ xs) (x ∷ replace-first test y xs)

pub removed : {X : Type 0} (test : X → Bool) (xs : List X) → remove xs (position_or_len test xs) ≡ without-first test xs
removed test [] = refl
removed test (x ∷ xs) =
    elim (test x) as (λ b. remove (x ∷ xs) (cond (not b) (1 + position_or_len test xs) 0)
    ≡ cond b xs (x ∷ without-first test xs)) [
      | true ↦ refl
      | false ↦ ap (remove (x ∷ xs)) (one-more (position_or_len test xs))
          ∙ ap (λ ys. x ∷ ys) (removed test xs)
    ]

pub replaced : {X : Type 0} (test : X → Bool) (y : X) (xs : List X)
    → set xs (position_or_len test xs) y ≡ replace-first test y xs
replaced test y [] = refl
replaced test y (x ∷ xs) =
    elim (test x) as (λ b. set (x ∷ xs) (cond (not b) (1 + position_or_len test xs) 0) y
    ≡ cond b (y ∷ xs) (x ∷ replace-first test y xs)) [
      | true ↦ refl
      | false ↦ ap (λ n. set (x ∷ xs) n y) (one-more (position_or_len test xs)) ∙ ap (λ ys. x ∷ ys) (replaced test y xs)
    ]

pub All-without : {X : Type 0} (test : X → Bool) (P : X → Type 0) (xs : List X) → All P xs
    → All P (without-first test xs)
All-without test P [] all = All-nil P
All-without test P (x ∷ xs) all =
    elim (test x) as (λ b. All P (cond b xs (x ∷ without-first test xs))) [
      | true ↦ All-tail P x xs all
      | false ↦ All-cons P x _ (All-head P x xs all) (All-without test P xs (All-tail P x xs all))
    ]

pub All-replace : {X : Type 0} (test : X → Bool) (P : X → Type 0) (y : X) (xs : List X) → P y → All P xs
    → All P (replace-first test y xs)
All-replace test P y [] is all = All-nil P
All-replace test P y (x ∷ xs) is all =
    elim (test x) as (λ b. All P (cond b (y ∷ xs) (x ∷ replace-first test y xs))) [
      | true ↦ All-cons P y xs is (All-tail P x xs all)
      | false ↦ All-cons P x _ (All-head P x xs all) (All-replace test P y xs is (All-tail P x xs all))
    ]

-- what is found has what all have
pub All-find : {X : Type 0} (test : X → Bool) (P : X → Type 0) (xs : List X) (x : X) → All P xs
    → find test xs ≡ Some x → P x
All-find test P [] x all found = absurd (cc)
All-find {X} test P (y ∷ ys) x all found = go (test y) (All-find test P ys x (All-tail P y ys all)) found
  where
    go : (b : Bool) → (find test ys ≡ Some x → P x) → cond b (Some y) (find test ys) ≡ Some x → P x
    go true next is = let same : y ≡ x = cc in rw (← same) (All-head P y ys all)
    go false next is = next is
