-- Whether an element passes, and the last one that does: looked for from the end of the list, and taken out.
use Rattle.std.proofs.Common.{◌≡◌, refl, sym, ◌∙◌, ap, arith, Bool, true, false, not, ℕ, suc, ◌+◌, ◌-◌, ◌<◌, ◌≤◌, ◌||◌, cond, List, [], ◌∷◌, ◌++◌, drop, length, reverse, get_or, take, nat_lt, Some, None}
use Rattle.std.specs.List.{list_any, position, position_or_len, remove, suffix_len}
use Rattle.std.proofs.lemmas.Bool.{ltb-false}
use Rattle.std.proofs.lemmas.List.{length-reverse, take_all}
use Rattle.std.proofs.lemmas.List.Sorted.{IsPermutation-reverse, list_any-IsPermutation}
use Rattle.std.proofs.lemmas.List.Sums.{suffix_len-take_no, suffix_len-take_yes}
use Rattle.message_flow.specs.Outgoing.{IsLastPlace, without_last}
use Rattle.message_flow.proofs.Found.{position-some}

-- none of those from a place on passes
pub record NonePass {X : Type 0} (test : X → Bool) (xs : List X) (left : ℕ) : Type 0 where
  pub within : left ≤ length xs
  pub count :
      suffix_len (λ x. not (test x)) (take left xs) + (length xs - left) ≡ suffix_len (λ x. not (test x)) xs

pub none-yet : {X : Type 0} (test : X → Bool) (xs : List X) → NonePass test xs (length xs)
none-yet test xs = record {
  within = omega arith;
  count =
      let all : take (length xs) xs ≡ xs = take_all (length xs) xs (omega arith) in
      let e : length xs - length xs ≡ 0 = omega arith in
      rw (all, e) (omega arith);
}

pub one-less :
    {X : Type 0} (test : X → Bool) (xs : List X) (left : ℕ) (d : X) → NonePass test xs left → 0 < left
    → test (get_or xs (left - 1) d) ≡ false → NonePass test xs (left - 1)
one-less test xs left d are some fails =
    let passes : not (test (get_or xs (left - 1) d)) ≡ true = ap not fails in
    let within = are.within in
    let more = suffix_len-take_yes (λ x. not (test x)) xs left d some within passes in
    let count = are.count in
    record { within = omega arith; count = omega arith }

pub is-last :
    {X : Type 0} (test : X → Bool) (xs : List X) (left : ℕ) (d : X) → NonePass test xs left → 0 < left
    → test (get_or xs (left - 1) d) ≡ true → IsLastPlace test xs (Some (left - 1))
is-last test xs left d are some passes =
    let fails : not (test (get_or xs (left - 1) d)) ≡ false = ap not passes in
    let within = are.within in
    let none = suffix_len-take_no (λ x. not (test x)) xs left d some within fails in
    let count = are.count in
    omega arith

pub none-is-last : {X : Type 0} (test : X → Bool) (xs : List X) → NonePass test xs 0 → IsLastPlace test xs None
none-is-last test xs are = let count = are.count in sym count ∙ omega arith

-- ---- whether there is one

pub some-first :
    {X : Type 0} (test : X → Bool) (xs : List X) → position_or_len test xs < length xs → list_any test xs ≡ true
some-first test [] less = absurd (omega arith)
some-first {X} test (x ∷ xs) less = go (test x) (some-first test xs) less
  where
    go : (b : Bool) → (position_or_len test xs < length xs → list_any test xs ≡ true)
        → cond (not b) (1 + position_or_len test xs) 0 < length (x ∷ xs) → (b || list_any test xs) ≡ true
    go true next is = refl
    go false next is = next (omega arith)

pub none-first :
    {X : Type 0} (test : X → Bool) (xs : List X) → length xs ≤ position_or_len test xs → list_any test xs ≡ false
none-first test [] more = refl
none-first {X} test (x ∷ xs) more = go (test x) (none-first test xs) more
  where
    go : (b : Bool) → (length xs ≤ position_or_len test xs → list_any test xs ≡ false)
        → length (x ∷ xs) ≤ cond (not b) (1 + position_or_len test xs) 0 → (b || list_any test xs) ≡ false
    go true next is = absurd (omega arith)
    go false next is = next (omega arith)

-- by what `position` gives
pub some-place :
    {X : Type 0} (test : X → Bool) (xs : List X) (place : ℕ) → position test xs ≡ Some place → list_any test xs ≡ true
some-place test xs place e = let at = position-some test xs place e in some-first test xs (rw (← at.is) at.within)

pub no-place : {X : Type 0} (test : X → Bool) (xs : List X) → position test xs ≡ None → list_any test xs ≡ false
no-place {X} test xs e = go (nat_lt (position_or_len test xs) (length xs)) refl e
  where
    go : (b : Bool) → nat_lt (position_or_len test xs) (length xs) ≡ b
        → cond b (Some (position_or_len test xs)) None ≡ None
        → list_any test xs ≡ false
    go true less is = absurd (cc)
    go false less is = none-first test xs (ltb-false _ _ less)

any-reverse : {X : Type 0} (test : X → Bool) (xs : List X) → list_any test (reverse xs) ≡ list_any test xs
any-reverse test xs = sym (list_any-IsPermutation test xs (reverse xs) (IsPermutation-reverse xs))

pub some-last :
    {X : Type 0} (test : X → Bool) (xs : List X) (place : ℕ) → IsLastPlace test xs (Some place)
    → list_any test xs ≡ true
some-last test xs place is =
    sym (any-reverse test xs)
    ∙ some-first test (reverse xs) (let e = length-reverse xs in omega arith)

pub none-last : {X : Type 0} (test : X → Bool) (xs : List X) → IsLastPlace test xs None → list_any test xs ≡ false
none-last test xs is =
    sym (any-reverse test xs) ∙ none-first test (reverse xs) (let e = length-reverse xs in omega arith)

-- ---- the list without it

pub last-out :
    {X : Type 0} (test : X → Bool) (xs : List X) (place : ℕ) → IsLastPlace test xs (Some place)
    → remove xs place ≡ without_last test xs
last-out {X} test xs place is =
    let s = suffix_len (λ (x : X). not (test x)) xs in
    let a : place ≡ length xs - s - 1 = omega arith in
    let b : suc place ≡ length xs - s = omega arith in
    ap (λ n. take n xs ++ drop (suc place) xs) a
    ∙ ap (λ n. take (length xs - s - 1) xs ++ drop n xs) b
