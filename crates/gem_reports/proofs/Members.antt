-- What is among numbers, and what a filter leaves.
use Rattle.std.proofs.Common.{◌≡◌, refl, sym, ◌∙◌, ap, Bool, true, false, cond, not, ◌&&◌, ◌||◌, ℕ, ◌≤◌, List, [], ◌∷◌, ◌++◌, length, filter, fold, nat_eq, arith}
use Rattle.std.proofs.lemmas.Bool.{eqb-true}
use Rattle.std.proofs.lemmas.Cmp.{nat_eq_equiv}
use Rattle.std.proofs.lemmas.List.Filters.{length-filter_both}
use Rattle.std.proofs.lemmas.List.Folds.{list_any-append}
use Rattle.std.proofs.lemmas.Map.Keys.{IsDistinct-push}
use Rattle.std.proofs.Math.Bool.{or_assoc}
use Rattle.std.specs.List.{IsDistinct, list_any}
use Rattle.gem_reports.specs.History.{each_once, with_number}

pub same_test : (a b : ℕ) → nat_eq a b ≡ nat_eq b a
same_test a b = nat_eq_equiv.symm a b

pub or_true : (b : Bool) → (b || true) ≡ true
or_true true = refl
or_true false = refl

pub or_false : (b : Bool) → (b || false) ≡ b
or_false true = refl
or_false false = refl

pub and_false : (b : Bool) → (b && false) ≡ false
and_false true = refl
and_false false = refl

-- two filters are one
pub filter_twice :
    (p q : ℕ → Bool) (xs : List ℕ) → filter p (filter q xs) ≡ filter (λ x. q x && p x) xs
filter_twice p q [] = refl
filter_twice p q (x ∷ xs) =
    elim (q x) as (λ b. filter p (cond b (x ∷ filter q xs) (filter q xs))
    ≡ cond (b && p x) (x ∷ filter (λ y. q y && p y) xs) (filter (λ y. q y && p y) xs))
    [ true ↦ ap (λ t. cond (p x) (x ∷ t) t) (filter_twice p q xs) | false ↦ filter_twice p q xs ]

pub filter_all : (xs : List ℕ) → filter (λ x. true) xs ≡ xs
filter_all [] = refl
filter_all (x ∷ xs) = ap (λ t. x ∷ t) (filter_all xs)

pub filter_shorter : (p : ℕ → Bool) (xs : List ℕ) → length (filter p xs) ≤ length xs
filter_shorter p xs =
    let both = length-filter_both p (λ x. not (p x)) (λ x. refl) xs in
    omega (arith, both)

-- a number that passes is among those that pass where it is among all
pub among_filtered :
    (p : ℕ → Bool) (q : ℕ) (xs : List ℕ) → list_any (nat_eq q) (filter p xs) ≡ (p q && list_any (nat_eq q) xs)
among_filtered p q [] = sym (and_false (p q))
among_filtered p q (x ∷ xs) = go (nat_eq q x) refl (p x) refl (among_filtered p q xs)
  where
    go : (b : Bool) → nat_eq q x ≡ b → (c : Bool) → p x ≡ c
        → list_any (nat_eq q) (filter p xs) ≡ (p q && list_any (nat_eq q) xs)
        → list_any (nat_eq q) (cond (p x) (x ∷ filter p xs) (filter p xs))
        ≡ (p q && (nat_eq q x || list_any (nat_eq q) xs))
    go true same true passes rest =
        let here : p q ≡ true = ap p (eqb-true q x same) ∙ passes in
        rw (passes, same, here) refl
    go true same false passes rest =
        let here : p q ≡ false = ap p (eqb-true q x same) ∙ passes in
        rw (passes, here) (rest ∙ ap (λ b. b && list_any (nat_eq q) xs) here)
    go false other true passes rest = rw (passes, other) rest
    go false other false passes rest = rw (passes, other) rest

-- what is among numbers of which one was put in
pub among_inserted :
    (xs : List ℕ) (k q : ℕ)
    → list_any (nat_eq q) (with_number xs k) ≡ (list_any (nat_eq q) xs || nat_eq q k)
among_inserted xs k q = go (list_any (nat_eq k) xs) refl (nat_eq q k) refl
  where
    go : (b : Bool) → list_any (nat_eq k) xs ≡ b → (c : Bool) → nat_eq q k ≡ c
        → list_any (nat_eq q) (cond (list_any (nat_eq k) xs) xs (xs ++ k ∷ []))
        ≡ (list_any (nat_eq q) xs || nat_eq q k)
    go true has true same =
        let there : list_any (nat_eq q) xs ≡ true = ap (λ n. list_any (nat_eq n) xs) (eqb-true q k same) ∙ has in
        rw (has, there) refl
    go true has false other = rw (has, other) (sym (or_false (list_any (nat_eq q) xs)))
    go false lacks c is =
        rw lacks (list_any-append (nat_eq q) xs (k ∷ [])
        ∙ ap (λ b. list_any (nat_eq q) xs || b) (or_false (nat_eq q k)))

among_so_far :
    (so_far xs : List ℕ) (q : ℕ)
    → list_any (nat_eq q) (fold with_number so_far xs) ≡ (list_any (nat_eq q) so_far || list_any (nat_eq q) xs)
among_so_far so_far [] q = sym (or_false (list_any (nat_eq q) so_far))
among_so_far so_far (x ∷ xs) q =
    among_so_far (with_number so_far x) xs q
    ∙ ap (λ b. b || list_any (nat_eq q) xs) (among_inserted so_far x q)
    ∙ or_assoc (list_any (nat_eq q) so_far) (nat_eq q x) (list_any (nat_eq q) xs)

-- the same numbers, each once
pub among_each_once : (xs : List ℕ) (q : ℕ) → list_any (nat_eq q) (each_once xs) ≡ list_any (nat_eq q) xs
among_each_once xs q = among_so_far [] xs q

pub inserted_distinct : (xs : List ℕ) (k : ℕ) → IsDistinct nat_eq xs → IsDistinct nat_eq (with_number xs k)
inserted_distinct xs k distinct = go (list_any (nat_eq k) xs) refl
  where
    go : (b : Bool) → list_any (nat_eq k) xs ≡ b
        → IsDistinct nat_eq (cond (list_any (nat_eq k) xs) xs (xs ++ k ∷ []))
    go true has = rw has distinct
    go false lacks = rw lacks (IsDistinct-push nat_eq_equiv xs k distinct lacks)

so_far_distinct :
    (so_far xs : List ℕ) → IsDistinct nat_eq so_far → IsDistinct nat_eq (fold with_number so_far xs)
so_far_distinct so_far [] distinct = distinct
so_far_distinct so_far (x ∷ xs) distinct =
    so_far_distinct (with_number so_far x) xs (inserted_distinct so_far x distinct)

pub none_distinct : IsDistinct nat_eq []
unfolding IsDistinct
none_distinct = tt

pub once_distinct : (xs : List ℕ) → IsDistinct nat_eq (each_once xs)
once_distinct xs = so_far_distinct [] xs none_distinct
