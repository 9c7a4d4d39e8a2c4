-- The call of a place among some calls behind others.
use Rattle.std.proofs.Common.{◌≡◌, subst, arith, ◌+◌, zero, suc, ℕ, List, [], ◌∷◌, ◌++◌, length, Some}
use Rattle.std.specs.Prelude.{slice_get}
use Rattle.message_end.specs.Ends.{call_of}

-- ---- the call of a place

get-before : {X : Type 0} (one two : List X) (n : ℕ) (x : X) → slice_get one n ≡ Some x
    → slice_get (one ++ two) n ≡ Some x
get-before [] two n x is = absurd (cc)
get-before (y ∷ one) two zero x is = is
get-before (y ∷ one) two (suc n) x is = get-before one two n x is

get-behind : {X : Type 0} (one two : List X) (n : ℕ) (x : X) → slice_get two n ≡ Some x
    → slice_get (one ++ two) (length one + n) ≡ Some x
get-behind [] two n x is =
    let same : n ≡ 0 + n = omega arith in subst (λ (k : ℕ). slice_get two k ≡ Some x) same is
get-behind (y ∷ one) two n x is =
    let same : suc (length one + n) ≡ suc (length one) + n = omega arith in
    subst (λ (k : ℕ). slice_get (y ∷ (one ++ two)) k ≡ Some x) same (get-behind one two n x is)

pub call-before : {X : Type 0} (one two : List X) (n : ℕ) (x : X) → call_of n one ≡ Some x
    → call_of n (one ++ two) ≡ Some x
call-before one two zero x is = absurd (cc)
call-before one two (suc n) x is = get-before one two n x is

pub call-behind : {X : Type 0} (one two : List X) (n : ℕ) (x : X) → call_of n two ≡ Some x
    → call_of (length one + n) (one ++ two) ≡ Some x
call-behind one two zero x is = absurd (cc)
call-behind one two (suc n) x is =
    let same : suc (length one + n) ≡ length one + suc n = omega arith in
    subst (λ (k : ℕ). call_of k (one ++ two) ≡ Some x) same (get-behind one two n x is)
