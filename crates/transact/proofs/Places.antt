-- The place of the first element that passes, and the element.
use Rattle.std.proofs.Common.{◌≡◌, refl, sym, ◌∙◌, ap, arith, Bool, true, false, cond, ℕ, ◌<◌, ◌≤◌, List, length, get_or, Some, None, nat_lt}
use Rattle.std.specs.Prelude.{slice_get}
use Rattle.std.specs.List.{find, list_any, position, position_or_len}
use Rattle.std.proofs.lemmas.Bool.{ltb-false, ltb-true}
use Rattle.std.proofs.lemmas.List.Folds.{find_at, list_any_at, list_any_none}
use Rattle.std.proofs.lemmas.Option.{slice_get-get_or, slice_get_past}
use Rattle.std.proofs.lemmas.List.Sums.{fails_before_first, passes_at_first}

-- an element passes, and the first one that does stands at this place
pub record IsPlace {X : Type 0} (test : X → Bool) (xs : List X) (place : ℕ) : Type 0 where
  pub is : place ≡ position_or_len test xs
  pub within : place < length xs

pub position-some :
    {X : Type 0} (test : X → Bool) (xs : List X) (place : ℕ) → Some place ≡ position test xs → IsPlace test xs place
position-some {X} test xs place h = go (nat_lt (position_or_len test xs) (length xs)) refl h
  where
    go : (b : Bool) → nat_lt (position_or_len test xs) (length xs) ≡ b
        → Some place ≡ cond b (Some (position_or_len test xs)) None → IsPlace test xs place
    go true less is =
        let same : place ≡ position_or_len test xs = cc in
        record { is = same; within = rw same (ltb-true _ _ less) }
    go false less is = absurd (cc)

pub position-none :
    {X : Type 0} (test : X → Bool) (xs : List X) → None ≡ position test xs → length xs ≤ position_or_len test xs
position-none {X} test xs h = go (nat_lt (position_or_len test xs) (length xs)) refl h
  where
    go : (b : Bool) → nat_lt (position_or_len test xs) (length xs) ≡ b
        → None ≡ cond b (Some (position_or_len test xs)) None → length xs ≤ position_or_len test xs
    go true less is = absurd (cc)
    go false less is = ltb-false _ _ less

pub found :
    {X : Type 0} (test : X → Bool) (xs : List X) (place : ℕ) (d : X) → IsPlace test xs place
    → find test xs ≡ Some (get_or xs place d)
found test xs place d at =
    find_at test xs ∙ ap (slice_get xs) (sym at.is) ∙ slice_get-get_or xs place d at.within

-- what is read at that place of the same list is found
pub read-found :
    {X : Type 0} (test : X → Bool) (xs ys : List X) (place : ℕ) (x : X) → ys ≡ xs → x ≡ get_or ys place x
    → Some place ≡ position test xs → Some x ≡ find test xs
read-found test xs ys place x same is h =
    let read = is ∙ ap (λ zs. get_or zs place x) same in
    sym (found test xs place x (position-some test xs place h) ∙ ap (λ y. Some y) (sym read))

pub found-none : {X : Type 0} (test : X → Bool) (xs : List X) → None ≡ position test xs → find test xs ≡ None
found-none test xs h = find_at test xs ∙ slice_get_past xs _ (position-none test xs h)

pub any-found :
    {X : Type 0} (test : X → Bool) (xs : List X) (place : ℕ) (d : X) → IsPlace test xs place → list_any test xs ≡ true
any-found test xs place d at =
    list_any_at test xs place d at.within (rw at.is (passes_at_first test xs d (rw at.is at at.within)))

pub none-found : {X : Type 0} (test : X → Bool) (xs : List X) → None ≡ position test xs → list_any test xs ≡ false
none-found test xs h =
    let past = position-none test xs h in
    list_any_none test xs (λ k d within. fails_before_first test xs k d (omega arith))
