-- Reading elements of one size one after the other, as a loop does.
use Rattle.std.proofs.Common.{◌≡◌, ℕ, suc, ◌-◌, ◌+◌, ◌*◌, ◌/◌, ◌%◌, ◌≤◌, ◌<◌, List, [], ◌∷◌, ◌++◌, take, drop, sym, ap, ◌∙◌, append_assoc, arith}
use Rattle.std.proofs.lemmas.List.{append-nil}
use Rattle.std.proofs.lemmas.Nat.{div-add-mod'}
use Rattle.std.proofs.Math.Nat.{mul_comm}
use Rattle.secs_items.specs.Elements.{elements_at}

pub element_more : {T : Type 0} (read : List ℕ → T) (size count i : ℕ) (front : List T) (rest : List ℕ) (all : List T) → i < count
    → front ++ elements_at read size (count - i) rest ≡ all
    → (front ++ read (take size rest) ∷ []) ++ elements_at read size (count - (i + 1)) (drop size rest) ≡ all
element_more read size count i front rest all lt so_far =
    let k : count - i ≡ suc (count - (i + 1)) = omega arith in
    append_assoc front (read (take size rest) ∷ []) (elements_at read size (count - (i + 1)) (drop size rest))
    ∙ sym (ap (λ (n : ℕ). front ++ elements_at read size n rest) k) ∙ so_far

pub elements_done : {T : Type 0} (read : List ℕ → T) (size count i : ℕ) (front : List T) (rest : List ℕ) (all : List T) → count ≤ i
    → front ++ elements_at read size (count - i) rest ≡ all → front ≡ all
elements_done read size count i front rest all le so_far =
    let k : count - i ≡ 0 = omega arith in
    sym (append-nil front) ∙ sym (ap (λ (n : ℕ). front ++ elements_at read size n rest) k) ∙ so_far

-- so many bytes are left for one more, and these after it
pub left_more : (size left count i : ℕ) → i < count → left ≡ size * (count - i) → left ≡ size + size * (count - (i + 1))
left_more size left count i lt e =
    let k : count - i ≡ suc (count - (i + 1)) = omega arith in
    e ∙ ap (λ (n : ℕ). size * n) k ∙ omega arith

pub all_left : (size n : ℕ) → n % size ≡ 0 → n ≡ size * (n / size - 0)
all_left size n even =
    let none : n / size - 0 ≡ n / size = omega arith in
    let whole : n / size * size ≡ n = omega (arith, div-add-mod' n size) in
    rw (none, mul_comm size (n / size)) (sym whole)

pub left_after : (size before after step more : ℕ) → before ≡ size + more → step ≡ size → after + step ≡ before → after ≡ more
left_after size before after step more e s b = omega arith
