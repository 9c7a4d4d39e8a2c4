-- Members of lists, and lists whose keys rise.
use Rattle.std.specs.Prelude.{◌≡◌, ◌<◌, ◌⊎◌, zero, suc, ℕ, Bool, true, false, List, [], ◌∷◌, ◌++◌, cond, filter, take, drop, refl}
use Rattle.std.proofs.Common.{sym, ap, ◌∙◌, subst, inl, inr}
use Rattle.message_end.specs.Own.{Has}
use Rattle.message_end.proofs.Members.{has-back, has-either}

pub has-take : {X : Type 0} (n : ℕ) (xs : List X) (x : X) → Has (take n xs) x → Has xs x
has-take zero xs x is = absurd is
has-take (suc n) [] x is = absurd is
has-take (suc n) (z ∷ xs) x (inl same) = inl same
has-take (suc n) (z ∷ xs) x (inr has) = inr (has-take n xs x has)

-- all but the first
abbrev pub behind_first : {X : Type 0} → List X → List X
behind_first [] = []
behind_first (x ∷ xs) = xs

pub has-behind : {X : Type 0} (xs : List X) (x : X) → Has (behind_first xs) x → Has xs x
has-behind [] x is = absurd is
has-behind (z ∷ xs) x has = inr has

pub behind-moved : {X : Type 0} (n : ℕ) (xs ys : List X) (x : X)
    → Has (behind_first (drop n xs ++ ys)) x → Has (behind_first xs) x ⊎ Has ys x
behind-moved zero [] ys x has = inr (has-behind ys x has)
behind-moved zero (z ∷ xs) ys x has = has-either xs ys x has
behind-moved (suc n) [] ys x has = inr (has-behind ys x has)
behind-moved (suc n) (z ∷ xs) ys x has = go (behind-moved n xs ys x has)
  where
    go : Has (behind_first xs) x ⊎ Has ys x → Has xs x ⊎ Has ys x
    go (inl front) = inl (has-behind xs x front)
    go (inr back) = inr back

-- ---- keys that rise

abbrev pub Rising : {X : Type 0} → (X → ℕ) → List X → Type 0
Rising key [] = Unit {0}
Rising key (x ∷ xs) = ((y : _) → Has xs y → key x < key y) × Rising key xs

abbrev pub AllBelow : {X : Type 0} → (X → ℕ) → List X → List X → Type 0
AllBelow {X} key xs ys = (x y : X) → Has xs x → Has ys y → key x < key y

pub rising-append : {X : Type 0} (key : X → ℕ) (xs ys : List X) → Rising key xs → Rising key ys → AllBelow key xs ys
    → Rising key (xs ++ ys)
rising-append key [] ys front back across = back
rising-append {X} key (z ∷ xs) ys front back across =
    (λ y has. go y (has-either xs ys y has), rising-append key xs ys front.1 back (λ x y h k. across x y (inr h) k))
  where
    go : (y : X) → Has xs y ⊎ Has ys y → key z < key y
    go y (inl has) = front.0 y has
    go y (inr has) = across z y (inl refl) has

pub rising-back : {X : Type 0} (key : X → ℕ) (xs ys : List X) → Rising key (xs ++ ys) → Rising key ys
rising-back key [] ys rising = rising
rising-back key (z ∷ xs) ys rising = rising-back key xs ys rising.1

pub rising-across : {X : Type 0} (key : X → ℕ) (xs ys : List X) → Rising key (xs ++ ys) → AllBelow key xs ys
rising-across key [] ys rising x y is k = absurd is
rising-across key (z ∷ xs) ys rising x y (inl same) k =
    subst (λ w. key w < key y) (sym same) (rising.0 y (has-back xs ys y k))
rising-across key (z ∷ xs) ys rising x y (inr h) k = rising-across key xs ys rising.1 x y h k

pub rising-drop : {X : Type 0} (key : X → ℕ) (n : ℕ) (xs : List X) → Rising key xs → Rising key (drop n xs)
rising-drop key zero xs rising = rising
rising-drop key (suc n) [] rising = tt
rising-drop key (suc n) (z ∷ xs) rising = rising-drop key n xs rising.1

-- ---- those that pass

pub filter-all : {X : Type 0} (test : X → Bool) (xs : List X) → ((x : X) → Has xs x → test x ≡ true)
    → filter test xs ≡ xs
filter-all test [] all = refl
filter-all test (x ∷ xs) all =
    ap (λ (b : Bool). cond b (x ∷ filter test xs) (filter test xs)) (all x (inl refl))
    ∙ ap (λ ys. x ∷ ys) (filter-all test xs (λ y has. all y (inr has)))

pub filter-none : {X : Type 0} (test : X → Bool) (xs : List X) → ((x : X) → Has xs x → test x ≡ false)
    → filter test xs ≡ []
filter-none test [] none = refl
filter-none test (x ∷ xs) none =
    ap (λ (b : Bool). cond b (x ∷ filter test xs) (filter test xs)) (none x (inl refl))
    ∙ filter-none test xs (λ y has. none y (inr has))

pub filter-alike : {X : Type 0} (one other : X → Bool) (xs : List X) → ((x : X) → Has xs x → one x ≡ other x)
    → filter one xs ≡ filter other xs
filter-alike one other [] alike = refl
filter-alike one other (x ∷ xs) alike =
    ap (λ (b : Bool). cond b (x ∷ filter one xs) (filter one xs)) (alike x (inl refl))
    ∙ ap (λ ys. cond (other x) (x ∷ ys) ys) (filter-alike one other xs (λ y has. alike y (inr has)))
