-- The first break that a test of slots finds.
use Rattle.std.proofs.Common.{◌≡◌, ℕ, zero, suc, ◌+◌, ◌<◌, ◌⊎◌, Bool, true, false, ◌||◌, if◌then◌else◌, Option, Some}
use Rattle.std.proofs.Common.{None, refl, sym, ap, subst, ◌∙◌, arith, inl, inr}
use Rattle.std.proofs.lemmas.Bool.{cases_eq}
use Rattle.spool_file.specs.Area.{any_below, first_at, messages_below, or_else, put_if}
use Rattle.spool_file.specs.Slot.{Message, in_slot}

pub one_more : (k : ℕ) → suc k ≡ k + 1
one_more k = omega arith

pub first_next : (test : ℕ → Option ℕ) (k : ℕ) → first_at test k ≡ None → test k ≡ None → first_at test (k + 1) ≡ None
first_next test k none here =
    subst (λ n. first_at test n ≡ None) (one_more k) (ap (λ o. or_else o (test k)) none ∙ here)

pub messages_next : (stands : ℕ → Bool) (message : ℕ → Message) (k : ℕ) →
    put_if (stands k) (message k) (messages_below stands message k) ≡ messages_below stands message (k + 1)
messages_next stands message k = ap (messages_below stands message) (one_more k)

found_in : (test : ℕ → Option ℕ) (k n at : ℕ) → (k ≡ n) ⊎ (k ≡ n → ⊥) → k < suc n →
    (k < n → first_at test n ≡ Some at) → first_at test k ≡ None → test k ≡ Some at →
    or_else (first_at test n) (test n) ≡ Some at
found_in test k n at (inl same) below before none here =
    ap (λ o. or_else o (test n)) (ap (first_at test) (sym same) ∙ none) ∙ ap test (sym same) ∙ here
found_in test k n at (inr other) below before none here =
    ap (λ o. or_else o (test n)) (before (grind (arith, below, other)))

-- the first place at which a test finds something
pub first_found : (test : ℕ → Option ℕ) (k n at : ℕ) → k < n → first_at test k ≡ None → test k ≡ Some at →
    first_at test n ≡ Some at
first_found test k zero at below none here = absurd (omega (arith, below))
first_found test k (suc n) at below none here =
    found_in test k n at (cases_eq k n) below (λ less. first_found test k n at less none here) none here

-- where the first of two tests finds nothing
pub both_none : (a b : Option ℕ) → or_else a b ≡ None → (a ≡ None) × (b ≡ None)
both_none None b is = (refl, is)
both_none (Some x) b is = absurd (grind (arith, is))

-- nothing at any place
none_at : (test : ℕ → Option ℕ) (k n : ℕ) → (k ≡ n) ⊎ (k ≡ n → ⊥) → k < suc n → (k < n → test k ≡ None) →
    test n ≡ None → test k ≡ None
none_at test k n (inl same) below before here = ap test same ∙ here
none_at test k n (inr other) below before here = before (grind (arith, below, other))

pub none_below : (test : ℕ → Option ℕ) (n k : ℕ) → first_at test n ≡ None → k < n → test k ≡ None
none_below test zero k none below = absurd (omega (arith, below))
none_below test (suc n) k none below =
    let both = both_none (first_at test n) (test n) none in
    none_at test k n (cases_eq k n) below (none_below test n k both.0) both.1

pub first_none : (test : ℕ → Option ℕ) (n : ℕ) → ((k : ℕ) → k < n → test k ≡ None) → first_at test n ≡ None
first_none test zero none = refl
first_none test (suc n) none =
    ap (λ o. or_else o (test n)) (first_none test n (λ k below. none k (omega (arith, below)))) ∙ none n (omega arith)

pub out_of_slot : (k : ℕ) (place : Option ℕ) → in_slot k place ≡ None → place ≡ None
out_of_slot k None is = refl
out_of_slot k (Some p) is = absurd (grind (arith, is))

-- something isn't nothing
pub found_none : {at : ℕ} {place : Option ℕ} → Some at ≡ place → place ≡ None → ⊥
found_none {at} {place} some none = grind (arith, some, none)

-- ---- tests in a row

pub or_none : (place : Option ℕ) → or_else place None ≡ place
or_none None = refl
or_none (Some place) = refl

-- one of nested tests
pub none_if : (b : Bool) (place : ℕ) (rest : Option ℕ) → (if b then Some place else rest) ≡ None →
    (b ≡ false) × (rest ≡ None)
none_if true place rest none = absurd (grind (arith, none))
none_if false place rest none = (refl, none)

pub if_none : (b : Bool) (place : ℕ) (rest : Option ℕ) → b ≡ false → rest ≡ None →
    (if b then Some place else rest) ≡ None
if_none true place rest is none = absurd (grind (arith, is))
if_none false place rest is none = none

-- ---- a test that holds at some place

or_right : (a b : Bool) → b ≡ true → (a || b) ≡ true
or_right true b is = refl
or_right false b is = is

or_left : (a b : Bool) → a ≡ true → (a || b) ≡ true
or_left true b is = refl
or_left false b is = absurd (grind (arith, is))

any_by : (test : ℕ → Bool) (k n : ℕ) → (k ≡ n) ⊎ (k ≡ n → ⊥) → k < suc n → test k ≡ true →
    (k < n → any_below test n ≡ true) → (any_below test n || test n) ≡ true
any_by test k n (inl same) below holds before =
    or_right (any_below test n) (test n) (subst (λ i. test i ≡ true) same holds)
any_by test k n (inr other) below holds before =
    or_left (any_below test n) (test n) (before (grind (arith, below, other)))

pub any_at : (test : ℕ → Bool) (n k : ℕ) → k < n → test k ≡ true → any_below test n ≡ true
any_at test zero k below holds = absurd (omega (arith, below))
any_at test (suc n) k below holds =
    any_by test k n (cases_eq k n) below holds (λ less. any_at test n k less holds)

found_by : (test : ℕ → Bool) (n : ℕ) (a b : Bool) → any_below test n ≡ a → test n ≡ b → (a || b) ≡ true →
    (any_below test n ≡ true → (k : ℕ) × (k < n) × (test k ≡ true)) → (k : ℕ) × (k < suc n) × (test k ≡ true)
found_by test n true b first last is before = let r = before first in (r.0, omega (arith, r.1), r.2)
found_by test n false b first last is before = (n, omega arith, last ∙ is)

pub any_found : (test : ℕ → Bool) (n : ℕ) → any_below test n ≡ true → (k : ℕ) × (k < n) × (test k ≡ true)
any_found test zero is = absurd (grind (arith, is))
any_found test (suc n) is = found_by test n (any_below test n) (test n) refl refl is (any_found test n)
