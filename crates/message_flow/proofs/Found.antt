-- The place of the first element that passes, and the element.
use Rattle.std.proofs.Common.{◌≡◌, refl, sym, ◌∙◌, ap, arith, Bool, true, false, not, cond, ℕ, ◌+◌, ◌<◌, ◌≤◌, List, [], ◌∷◌, length, get_or, Some, None, nat_lt}
use Rattle.std.specs.List.{find, position, position_or_len}
use Rattle.std.proofs.lemmas.Bool.{ltb-false, ltb-true}
use Rattle.message_flow.proofs.Firsts.{one-more, without-first}

pub record IsPlace {X : Type 0} (test : X → Bool) (xs : List X) (place : ℕ) : Type 0 where
  pub is : place ≡ position_or_len test xs
  pub within : place < length xs

pub position-some : {X : Type 0} (test : X → Bool) (xs : List X) (place : ℕ) → position test xs ≡ Some place
    → IsPlace test xs place
position-some {X} test xs place h = go (nat_lt (position_or_len test xs) (length xs)) refl h
  where
    go : (b : Bool) → nat_lt (position_or_len test xs) (length xs) ≡ b
        → cond b (Some (position_or_len test xs)) None ≡ Some place
        → IsPlace test xs place
    go true less is =
        let same : place ≡ position_or_len test xs = cc in
        record { is = same; within = rw same (ltb-true _ _ less) }
    go false less is = absurd (cc)

pub found-at :
    {X : Type 0} (test : X → Bool) (xs : List X) (d : X) → position_or_len test xs < length xs
    → find test xs ≡ Some (get_or xs (position_or_len test xs) d)
found-at test [] d h = absurd (omega arith)
found-at {X} test (x ∷ xs) d h = go (test x) (found-at test xs d) h
  where
    go : (b : Bool) → (position_or_len test xs < length xs
        → find test xs ≡ Some (get_or xs (position_or_len test xs) d))
        → cond (not b) (1 + position_or_len test xs) 0 < length (x ∷ xs)
        → cond b (Some x) (find test xs) ≡ Some (get_or (x ∷ xs) (cond (not b) (1 + position_or_len test xs) 0) d)
    go true next less = refl
    go false next less =
        next (omega arith) ∙ ap (λ n. Some (get_or (x ∷ xs) n d)) (sym (one-more (position_or_len test xs)))

pub found-place :
    {X : Type 0} (test : X → Bool) (xs : List X) (place : ℕ) (d : X) → IsPlace test xs place
    → find test xs ≡ Some (get_or xs place d)
found-place test xs place d at = rw at.is (found-at test xs d (rw at.is at at.within))

none-at-end : {X : Type 0} (test : X → Bool) (xs : List X) → length xs ≤ position_or_len test xs → find test xs ≡ None
none-at-end test [] e = refl
none-at-end {X} test (x ∷ xs) e = go (test x) (none-at-end test xs) e
  where
    go : (b : Bool) → (length xs ≤ position_or_len test xs → find test xs ≡ None)
        → length (x ∷ xs) ≤ cond (not b) (1 + position_or_len test xs) 0 → cond b (Some x) (find test xs) ≡ None
    go true next bad = absurd (omega arith)
    go false next good = next (omega arith)

pub find-none : {X : Type 0} (test : X → Bool) (xs : List X) → position test xs ≡ None → find test xs ≡ None
find-none {X} test xs h = go (nat_lt (position_or_len test xs) (length xs)) refl h
  where
    go : (b : Bool) → nat_lt (position_or_len test xs) (length xs) ≡ b
        → cond b (Some (position_or_len test xs)) None ≡ None
        → find test xs ≡ None
    go true less is = absurd (cc)
    go false less is = none-at-end test xs (ltb-false _ _ less)

pub without-none : {X : Type 0} (test : X → Bool) (xs : List X) → find test xs ≡ None → without-first test xs ≡ xs
without-none test [] none = refl
without-none {X} test (x ∷ xs) none = go (test x) (without-none test xs) none
  where
    go : (b : Bool) → (find test xs ≡ None → without-first test xs ≡ xs)
        → cond b (Some x) (find test xs) ≡ None → cond b xs (x ∷ without-first test xs) ≡ x ∷ xs
    go true next is = absurd (cc)
    go false next is = ap (λ ys. x ∷ ys) (next is)
