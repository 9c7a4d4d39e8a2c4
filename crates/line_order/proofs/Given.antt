-- Places of blocks that were given, and members of lists.
use Rattle.std.specs.Prelude.{◌≡◌, ◌<◌, ◌⊎◌, zero, suc, ℕ, Bool, true, false, ◌-◌, ◌==◌, List, [], ◌∷◌, length, slice_index_or, Some, None, All, if◌then◌else◌, refl}
use Rattle.std.specs.List.{Contains, find}
use Rattle.std.proofs.Common.{sym, ap, ◌∙◌, subst, arith, inl, inr}
use Rattle.std.proofs.lemmas.Bool.Decides.{nat_tests}
use Rattle.std.proofs.lemmas.List.Elements.{Contains-append_right}
use Rattle.block_codec.specs.Block.{BlockView}
use Rattle.line_order.specs.Line.{given_at}
use Rattle.line_order.proofs.Flows.{eq-self}

-- a member of a list is its first one, or one of the others
pub contains-cases : {X : Type 0} (x : X) (xs : List X) (q : X) → Contains (x ∷ xs) q → (q ≡ x) ⊎ Contains xs q
contains-cases x xs q is = go is.0 is.1 is.2
  where
    go : (k : ℕ) → k < length (x ∷ xs) → slice_index_or (x ∷ xs) k q ≡ q → (q ≡ x) ⊎ Contains xs q
    go zero within at = inl (sym at)
    go (suc k) within at = inr (k, omega arith, at)

pub contains-none : {X : Type 0} (q : X) → Contains [] q → ⊥
contains-none q is = omega (arith, is.1)

pub contains-first : {X : Type 0} (x : X) (xs : List X) → Contains (x ∷ xs) x
contains-first x xs = (0, omega arith, refl)

pub contains-more : {X : Type 0} (x : X) (xs : List X) (q : X) → Contains xs q → Contains (x ∷ xs) q
contains-more x xs q is = Contains-append_right (x ∷ []) xs q is

-- what is found is a member, and passes the test
pub found : {X : Type 0} (test : X → Bool) (xs : List X) (q : X) → find test xs ≡ Some q → Contains xs q × (test q ≡ true)
found test [] q is = cc
found test (x ∷ xs) q is = go (test x) refl (found test xs q) is
  where
    go : (passes : Bool) → test x ≡ passes → (find test xs ≡ Some q → Contains xs q × (test q ≡ true))
        → (if passes then Some x else find test xs) ≡ Some q → Contains (x ∷ xs) q × (test q ≡ true)
    go true passes later is =
        let same : x ≡ q = cc in
        (subst (λ y. Contains (x ∷ xs) y) same (contains-first x xs), ap test (sym same) ∙ passes)
    go false fails later is = let rest = later is in (contains-more x xs q rest.0, rest.1)

-- where nothing is found, no member passes
pub not_found : {X : Type 0} (test : X → Bool) (xs : List X) (q : X) → find test xs ≡ None → Contains xs q → test q ≡ false
not_found test [] q is member = absurd (contains-none q member)
not_found test (x ∷ xs) q is member = go (test x) refl (not_found test xs q) (contains-cases x xs q member) is
  where
    go : (passes : Bool) → test x ≡ passes → (find test xs ≡ None → Contains xs q → test q ≡ false)
        → (q ≡ x) ⊎ Contains xs q → (if passes then Some x else find test xs) ≡ None → test q ≡ false
    go true passes later which is = cc
    go false fails later (inl same) is = ap test same ∙ fails
    go false fails later (inr rest) is = later is rest

-- what holds of each element by a fact holds by one that follows from it
pub all-weaker : {X : Type 0} (P Q : X → Type 0) (xs : List X) → ((x : X) → P x → Q x) → All P xs → All Q xs
all-weaker P Q xs follows all = λ k d within. follows _ (all k d within)

pub given_at-below :
    (place : ℕ) (given : List BlockView) (block : BlockView) → given_at place given ≡ Some block → place < length given
given_at-below place [] block is = cc
given_at-below place (b ∷ before) block is = go (place == length before) refl (given_at-below place before block) is
  where
    go : (here : Bool) → (place == length before) ≡ here
        → (given_at place before ≡ Some block → place < length before)
        → (if here then Some b else given_at place before) ≡ Some block → place < length (b ∷ before)
    go true here later is = grind (arith, nat_tests)
    go false here later is = let below = later is in omega arith

pub given_at-more :
    (place : ℕ) (given : List BlockView) (block b : BlockView) → given_at place given ≡ Some block
    → given_at place (b ∷ given) ≡ Some block
given_at-more place given block b is =
    let below = given_at-below place given block is in
    let other : (place == length given) ≡ false = grind (arith, nat_tests) in
    rw other is

pub given_at-last : (b : BlockView) (given : List BlockView) → given_at (length (b ∷ given) - 1) (b ∷ given) ≡ Some b
given_at-last b given =
    let last : length (b ∷ given) - 1 ≡ length given = omega arith in
    let here : given_at (length given) (b ∷ given) ≡ Some b = rw (eq-self (length given)) refl in
    ap (λ (n : ℕ). given_at n (b ∷ given)) last ∙ here
