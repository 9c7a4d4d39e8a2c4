-- A list whose first element that passes is taken out or changed.
use Rattle.std.proofs.Common.{◌≡◌, refl, sym, ◌∙◌, ap, arith, Bool, true, false, cond, not, ℕ, suc, ◌+◌, ◌<◌, List, [], ◌∷◌, length, set, All, Option, Some, None, nat_lt}
use Rattle.std.specs.List.{AllPairs, cons_option, filter_map, find, position_or_len, remove}
use Rattle.std.proofs.lemmas.Bool.{ltb-false, ltb-true}
use Rattle.std.proofs.lemmas.List.Elements.{All-head, All-tail}
use Rattle.std.proofs.lemmas.List.Folds.{find_at}
use Rattle.std.proofs.lemmas.Option.{slice_get_past}

one-more : (n : ℕ) → 1 + n ≡ suc n
one-more n = omega arith

-- the first that passes becomes this, or nothing
abbrev pub with-first : {X : Type 0} → (X → Bool) → Option X → List X → List X
with-first test o [] = []
with-first test o (x ∷ xs) = cond (test x) (cons_option o xs) (x ∷ with-first test o xs)

pub removed :
    {X : Type 0} (test : X → Bool) (xs : List X) → remove xs (position_or_len test xs) ≡ with-first test None xs
removed test [] = refl
removed test (x ∷ xs) =
    let at = position_or_len test xs in
    let rest = with-first test None xs in
    elim (test x) as (λ b. remove (x ∷ xs) (cond (not b) (1 + at) 0) ≡ cond b xs (x ∷ rest))
    [ true ↦ refl | false ↦ ap (remove (x ∷ xs)) (one-more at) ∙ ap (λ ys. x ∷ ys) (removed test xs) ]

pub replaced :
    {X : Type 0} (test : X → Bool) (y : X) (xs : List X)
    → set xs (position_or_len test xs) y ≡ with-first test (Some y) xs
replaced test y [] = refl
replaced test y (x ∷ xs) =
    let at = position_or_len test xs in
    let rest = with-first test (Some y) xs in
    elim (test x) as (λ b. set (x ∷ xs) (cond (not b) (1 + at) 0) y ≡ cond b (y ∷ xs) (x ∷ rest))
    [ true ↦ refl | false ↦ ap (λ n. set (x ∷ xs) n y) (one-more at) ∙ ap (λ ys. x ∷ ys) (replaced test y xs) ]

pub with-none :
    {X : Type 0} (test : X → Bool) (o : Option X) (xs : List X) → find test xs ≡ None → with-first test o xs ≡ xs
with-none test o [] none = refl
with-none {X} test o (x ∷ xs) none = go (test x) (with-none test o xs) none
  where
    go : (b : Bool) → (find test xs ≡ None → with-first test o xs ≡ xs)
        → cond b (Some x) (find test xs) ≡ None → cond b (cons_option o xs) (x ∷ with-first test o xs) ≡ x ∷ xs
    go true next is = absurd (cc)
    go false next is = ap (λ ys. x ∷ ys) (next is)

-- what is found has what all have
All-find :
    {X : Type 0} (test : X → Bool) (P : X → Type 0) (xs : List X) (x : X) → All P xs → find test xs ≡ Some x → P x
All-find test P [] x all is = absurd (cc)
All-find {X} test P (y ∷ ys) x all is = go (test y) (All-find test P ys x (All-tail P y ys all)) is
  where
    go : (b : Bool) → (find test ys ≡ Some x → P x) → cond b (Some y) (find test ys) ≡ Some x → P x
    go true next is = let same : y ≡ x = cc in rw (← same) (All-head P y ys all)
    go false next is = next is

pub find-within :
    {X : Type 0} (test : X → Bool) (xs : List X) (x : X) → find test xs ≡ Some x
    → position_or_len test xs < length xs
find-within {X} test xs x is = go (nat_lt (position_or_len test xs) (length xs)) refl
  where
    go : (b : Bool) → nat_lt (position_or_len test xs) (length xs) ≡ b → position_or_len test xs < length xs
    go true less = ltb-true _ _ less
    go false less =
        let none : find test xs ≡ None =
        find_at test xs ∙ slice_get_past xs (position_or_len test xs) (ltb-false _ _ less) in
        absurd (cc)

pairs-head : {X : Type 0} (R : X → X → Type 0) (x : X) (xs : List X) → AllPairs R (x ∷ xs) → All (R x) xs
pairs-head R x xs all k d within = all 0 (suc k) d (omega arith) (omega arith)

pairs-tail : {X : Type 0} (R : X → X → Type 0) (x : X) (xs : List X) → AllPairs R (x ∷ xs) → AllPairs R xs
pairs-tail R x xs all i j d less within = all (suc i) (suc j) d (omega arith) (omega arith)

pub filter_map-same : {X : Type 0} (f : X → Option X) (xs : List X) → All (λ x. f x ≡ Some x) xs → filter_map f xs ≡ xs
filter_map-same f [] all = refl
filter_map-same f (x ∷ xs) all =
    ap (λ o. cons_option o (filter_map f xs)) (All-head (λ y. f y ≡ Some y) x xs all)
    ∙ ap (λ ys. x ∷ ys) (filter_map-same f xs (All-tail (λ y. f y ≡ Some y) x xs all))

-- a change that leaves all but one as they are is a change of that one, where none other is like it
pub changes-one :
    {X : Type 0} (R : X → X → Type 0) (test : X → Bool) (f : X → Option X) (xs : List X) (x : X)
    → ((y : X) → R x y → f y ≡ Some y) → ((y : X) → R y x → f y ≡ Some y)
    → AllPairs R xs → find test xs ≡ Some x → with-first test (f x) xs ≡ filter_map f xs
changes-one R test f [] x later earlier all is = absurd (cc)
changes-one {X} R test f (y ∷ ys) x later earlier all is =
    go (test y) (changes-one R test f ys x later earlier (pairs-tail R y ys all)) is
  where
    go : (b : Bool) → (find test ys ≡ Some x → with-first test (f x) ys ≡ filter_map f ys)
        → cond b (Some y) (find test ys) ≡ Some x
        → cond b (cons_option (f x) ys) (y ∷ with-first test (f x) ys) ≡ filter_map f (y ∷ ys)
    go true next is =
        let same : y ≡ x = cc in
        let rest = filter_map-same f ys (λ k d within. later _ (rw (← same) (pairs-head R y ys all k d within))) in
        ap (λ z. cons_option (f z) ys) (sym same) ∙ ap (cons_option (f y)) (sym rest)
    go false next is =
        let here = earlier y (All-find test (R y) ys x (pairs-head R y ys all) is) in
        ap (λ zs. y ∷ zs) (next is) ∙ ap (λ o. cons_option o (filter_map f ys)) (sym here)
