-- Members of lists, and what stands at a place, from 0 for the oldest.
use Rattle.std.specs.Prelude.{◌≡◌, ◌<◌, ◌≤◌, zero, suc, ℕ, ◌+◌, ◌==◌, Bool, true, false, List, [], ◌∷◌, ◌++◌, length, map, Option, Some, if◌then◌else◌, refl}
use Rattle.std.specs.List.{AllPairs, Contains}
use Rattle.std.proofs.Common.{sym, ap, ◌∙◌, subst, arith, inl, inr, length-append}
use Rattle.std.proofs.lemmas.Bool.Decides.{nat_tests}
use Rattle.std.proofs.lemmas.List.{length-map}
use Rattle.message_end.specs.Own.{Has}

-- ---- places

-- each has the place behind those before it, and behind so many others
abbrev pub ArePlaced : {X : Type 0} → (X → ℕ) → ℕ → List X → Type 0
ArePlaced at count [] = Unit {0}
ArePlaced at count (x ∷ xs) = (at x ≡ count + length xs) × ArePlaced at count xs

pub placed-below : {X : Type 0} (at : X → ℕ) (count : ℕ) (xs : List X) (x : X) → ArePlaced at count xs → Has xs x
    → at x < count + length xs
placed-below at count [] x placed is = absurd is
placed-below at count (z ∷ xs) x placed (inl same) =
    let here : at x ≡ count + length xs = ap at same ∙ placed.0 in omega (arith, here)
placed-below at count (z ∷ xs) x placed (inr has) =
    let below = placed-below at count xs x placed.1 has in omega (arith, below)

pub placed-above : {X : Type 0} (at : X → ℕ) (count : ℕ) (xs : List X) (x : X) → ArePlaced at count xs → Has xs x
    → count ≤ at x
placed-above at count [] x placed is = absurd is
placed-above at count (z ∷ xs) x placed (inl same) =
    let here : at x ≡ count + length xs = ap at same ∙ placed.0 in omega (arith, here)
placed-above at count (z ∷ xs) x placed (inr has) = placed-above at count xs x placed.1 has

pub placed-front : {X : Type 0} (at : X → ℕ) (xs ys : List X) → ArePlaced at 0 (xs ++ ys) → ArePlaced at (length ys) xs
placed-front at [] ys placed = tt
placed-front at (x ∷ xs) ys placed =
    let both = length-append xs ys in
    let here = placed.0 in
    (omega (arith, here, both), placed-front at xs ys placed.1)

-- ---- what a look-up by places finds

-- it looks from the newest element on for the one that has so many before it
pub record LooksUp {Y : Type 0} (look : ℕ → List Y → Option Y) : Type 0 where
  pub none : (place : ℕ) (y : Y) → look place [] ≡ Some y → ⊥
  pub steps :
      (place : ℕ) (y : Y) (ys : List Y)
      → look place (y ∷ ys) ≡ (if place == length ys then Some y else look place ys)

pub found-at : {X Y : Type 0} (look : ℕ → List Y → Option Y) → LooksUp look → (at : X → ℕ) (f : X → Y) (count : ℕ)
    (xs : List X) (x : X) (place : ℕ)
    → ArePlaced at count xs → Has xs x → at x ≡ count + place → look place (map f xs) ≡ Some (f x)
found-at look looks at f count [] x place placed is equal = absurd is
found-at look looks at f count (z ∷ xs) x place placed (inl same) equal =
    let here : at x ≡ count + length xs = ap at same ∙ placed.0 in
    let long = length-map xs f in
    let test : (place == length (map f xs)) ≡ true = grind (arith, nat_tests) in
    looks.steps place (f z) (map f xs) ∙ rw test (ap (λ w. Some (f w)) (sym same))
found-at look looks at f count (z ∷ xs) x place placed (inr has) equal =
    let below = placed-below at count xs x placed.1 has in
    let long = length-map xs f in
    let test : (place == length (map f xs)) ≡ false = grind (arith, nat_tests) in
    looks.steps place (f z) (map f xs) ∙ rw test (found-at look looks at f count xs x place placed.1 has equal)

-- what is found is a member
pub found-from : {X Y : Type 0} (look : ℕ → List Y → Option Y) → LooksUp look → (at : X → ℕ) (f : X → Y) (count : ℕ)
    (xs : List X) (place : ℕ) (y : Y)
    → ArePlaced at count xs → look place (map f xs) ≡ Some y
    → (x : X) × Has xs x × (y ≡ f x) × (at x ≡ count + place)
found-from look looks at f count [] place y placed is = absurd (looks.none place y is)
found-from {X} {Y} look looks at f count (z ∷ xs) place y placed is =
    go (place == length (map f xs)) refl (sym (looks.steps place (f z) (map f xs)) ∙ is)
    (found-from look looks at f count xs place y placed.1)
  where
    Found : List X → Type 0
    Found within = (x : X) × Has within x × (y ≡ f x) × (at x ≡ count + place)

    go : (test : Bool) → (place == length (map f xs)) ≡ test
        → (if test then Some (f z) else look place (map f xs)) ≡ Some y
        → (look place (map f xs) ≡ Some y → Found xs)
        → Found (z ∷ xs)
    go true here found later =
        let same : y ≡ f z = cc in
        let long = length-map xs f in
        let equal : place ≡ length (map f xs) = grind (arith, nat_tests) in
        let at_z = placed.0 in
        (z, inl refl, same, omega (arith, long, equal, at_z))
    go false here found later = let it = later found in (it.0, inr it.1, it.2, it.3)

-- ---- members by index

pub first-of-pairs : {X : Type 0} (R : X → X → Type 0) (x : X) (xs : List X) (y : X) → AllPairs R (x ∷ xs)
    → Contains xs y → R x y
first-of-pairs R x xs y pairs has =
    subst (R x) has.2 (pairs zero (suc has.0) y (omega arith) (omega (arith, has.1)))
