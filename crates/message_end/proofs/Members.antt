-- Members of lists: in front or behind, of a list that is mapped, of one without its first, and the first that passes.
use Rattle.std.proofs.Common.{◌≡◌, ◌⊎◌, inl, inr, refl, ap, ◌∙◌, Bool, true, false, cond, zero, suc, ℕ, List, [], ◌∷◌, ◌++◌, map, drop, Some, None}
use Rattle.std.specs.List.{find}
use Rattle.message_end.specs.Own.{Has}

pub has-front : {X : Type 0} (xs ys : List X) (x : X) → Has xs x → Has (xs ++ ys) x
has-front [] ys x is = absurd is
has-front (z ∷ xs) ys x (inl same) = inl same
has-front (z ∷ xs) ys x (inr has) = inr (has-front xs ys x has)

pub has-back : {X : Type 0} (xs ys : List X) (x : X) → Has ys x → Has (xs ++ ys) x
has-back [] ys x has = has
has-back (z ∷ xs) ys x has = inr (has-back xs ys x has)

pub has-either : {X : Type 0} (xs ys : List X) (x : X) → Has (xs ++ ys) x → Has xs x ⊎ Has ys x
has-either [] ys x has = inr has
has-either (z ∷ xs) ys x (inl same) = inl (inl same)
has-either (z ∷ xs) ys x (inr has) = go (has-either xs ys x has)
  where
    go : Has xs x ⊎ Has ys x → Has (z ∷ xs) x ⊎ Has ys x
    go (inl front) = inl (inr front)
    go (inr back) = inr back

pub has-map : {X Y : Type 0} (f : X → Y) (xs : List X) (x : X) → Has xs x → Has (map f xs) (f x)
has-map f [] x is = absurd is
has-map f (z ∷ xs) x (inl same) = inl (ap f same)
has-map f (z ∷ xs) x (inr has) = inr (has-map f xs x has)

pub has-mapped : {X Y : Type 0} (f : X → Y) (xs : List X) (y : Y) → Has (map f xs) y → (x : X) × Has xs x × (y ≡ f x)
has-mapped f [] y is = absurd is
has-mapped f (z ∷ xs) y (inl same) = (z, inl refl, same)
has-mapped f (z ∷ xs) y (inr has) = let it = has-mapped f xs y has in (it.0, inr it.1, it.2)

pub has-drop : {X : Type 0} (n : ℕ) (xs : List X) (x : X) → Has (drop n xs) x → Has xs x
has-drop zero xs x has = has
has-drop (suc n) [] x is = absurd is
has-drop (suc n) (z ∷ xs) x has = inr (has-drop n xs x has)

-- ---- the first that passes

pub found-in : {X : Type 0} (test : X → Bool) (xs : List X) (x : X) → find test xs ≡ Some x → Has xs x × (test x ≡ true)
found-in test [] x is = absurd (cc)
found-in {X} test (y ∷ ys) x is = go (test y) refl (found-in test ys x) is
  where
    go : (b : Bool) → test y ≡ b → (find test ys ≡ Some x → Has ys x × (test x ≡ true))
        → cond b (Some y) (find test ys) ≡ Some x → Has (y ∷ ys) x × (test x ≡ true)
    go true passes rest e = let same : x ≡ y = cc in (inl same, ap test same ∙ passes)
    go false fails rest e = let later = rest e in (inr later.0, later.1)

pub found-none : {X : Type 0} (test : X → Bool) (xs : List X) (x : X) → find test xs ≡ None → Has xs x → test x ≡ false
found-none test [] x is has = absurd has
found-none {X} test (y ∷ ys) x is has = go (test y) refl (found-none test ys x) is has
  where
    go : (b : Bool) → test y ≡ b → (find test ys ≡ None → Has ys x → test x ≡ false)
        → cond b (Some y) (find test ys) ≡ None → Has (y ∷ ys) x → test x ≡ false
    go true passes rest e which = absurd (cc)
    go false fails rest e (inl same) = ap test same ∙ fails
    go false fails rest e (inr later) = rest e later
