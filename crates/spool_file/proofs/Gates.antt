-- Which slots are open, where one of them changes, and where all are closed.
use Rattle.std.proofs.Common.{◌≡◌, ◌⊎◌, ℕ, zero, suc, ◌+◌, ◌<◌, ◌&&◌, nat_le, Bool, true, false, List, [], ◌∷◌, ◌++◌, length, get_or}
use Rattle.std.proofs.Common.{replicate, length-append, refl, sym, ap, subst, ◌∙◌, arith, inl, inr}
use Rattle.std.proofs.Math.ListN.{set}
use Rattle.std.proofs.Math.Seq.{get_or-append_seam, set-append_seam}
use Rattle.std.proofs.lemmas.Bool.{cases_eq}
use Rattle.std.proofs.lemmas.List.{get_or_append_left, replicate-append-replicate, set-append_left, set-get_or}
use Rattle.spool_file.specs.File.{gates_below}
use Rattle.spool_file.specs.Slot.{Slot, is_open, stands_on}

open_if : (a b : Bool) → (a && b) ≡ true → a ≡ true
open_if true b is = refl
open_if false b is = is

-- a slot that stands is open, and a closed one doesn't
pub stands_open : (floor : ℕ) (slot : Slot) → stands_on floor slot ≡ true → is_open slot ≡ true
stands_open floor slot is = open_if (is_open slot) (nat_le floor slot.head.number) is

pub closed_absent : (floor : ℕ) (slot : Slot) → is_open slot ≡ false → stands_on floor slot ≡ false
closed_absent floor slot is = ap (λ (b : Bool). b && nat_le floor slot.head.number) is

pub length-gates : (slot : ℕ → Slot) (n : ℕ) → length (gates_below slot n) ≡ n
length-gates slot zero = refl
length-gates slot (suc n) =
    omega (arith, length-append (gates_below slot n) (is_open (slot n) ∷ []), length-gates slot n)

-- one of them
gate_or : (slot : ℕ → Slot) (n k : ℕ) → (k ≡ n) ⊎ (k ≡ n → ⊥) → k < suc n →
    (k < n → get_or (gates_below slot n) k false ≡ is_open (slot k)) →
    get_or (gates_below slot n ++ is_open (slot n) ∷ []) k false ≡ is_open (slot k)
gate_or slot n k (inl here) below before =
    let long : length (gates_below slot n) ≡ k = length-gates slot n ∙ sym here in
    ap (λ (i : ℕ). get_or (gates_below slot n ++ is_open (slot n) ∷ []) i false) (sym long)
    ∙ get_or-append_seam (gates_below slot n) (is_open (slot n)) [] false ∙ ap (λ (i : ℕ). is_open (slot i)) (sym here)
gate_or slot n k (inr other) below before =
    let less : k < n = grind (arith, below, other) in
    get_or_append_left (gates_below slot n) (is_open (slot n) ∷ []) false k (omega (arith, less, length-gates slot n))
    ∙ before less

pub gate_at : (slot : ℕ → Slot) (n k : ℕ) → k < n → get_or (gates_below slot n) k false ≡ is_open (slot k)
gate_at slot zero k below = absurd (omega (arith, below))
gate_at slot (suc n) k below = gate_or slot n k (cases_eq k n) below (gate_at slot n k)

-- all are closed
pub shut_gates : (slot : ℕ → Slot) (n : ℕ) → ((k : ℕ) → k < n → is_open (slot k) ≡ false) →
    gates_below slot n ≡ replicate n false
shut_gates slot zero closed = refl
shut_gates slot (suc n) closed =
    let more : n + 1 ≡ suc n = omega arith in
    ap (λ (b : Bool). gates_below slot n ++ b ∷ []) (closed n (omega arith))
    ∙ ap (λ (gates : List Bool). gates ++ false ∷ []) (shut_gates slot n (λ k below. closed k (omega (arith, below))))
    ∙ replicate-append-replicate n 1 false
    ∙ ap (λ (k : ℕ). replicate k false) more

module _ (f g : ℕ → Slot) where
  -- each is as it was
  pub same_gates : (n : ℕ) → ((k : ℕ) → k < n → is_open (g k) ≡ is_open (f k)) → gates_below g n ≡ gates_below f n
  same_gates zero same = refl
  same_gates (suc n) same =
      ap (λ (b : Bool). gates_below g n ++ b ∷ []) (same n (omega arith))
      ∙ ap (λ (gates : List Bool). gates ++ is_open (f n) ∷ [])
      (same_gates n (λ k below. same k (omega (arith, below))))

  -- each but one
  module _ (j : ℕ) (b : Bool) (now : is_open (g j) ≡ b) where
    by_place : (n : ℕ) → (j ≡ n) ⊎ (j ≡ n → ⊥) → j < suc n →
        ((k : ℕ) → k < suc n → (k ≡ j → ⊥) → is_open (g k) ≡ is_open (f k)) →
        (j < n → gates_below g n ≡ set (gates_below f n) j b) →
        gates_below g (suc n) ≡ set (gates_below f (suc n)) j b
    by_place n (inl here) below same before =
        let last : is_open (g n) ≡ b = subst (λ (k : ℕ). is_open (g k) ≡ b) here now in
        let long : length (gates_below f n) ≡ j = length-gates f n ∙ sym here in
        ap (λ (c : Bool). gates_below g n ++ c ∷ []) last
        ∙ ap (λ (gates : List Bool). gates ++ b ∷ [])
        (same_gates n (λ k less. same k (omega (arith, less)) (λ is. omega (arith, is, here, less))))
        ∙ sym (set-append_seam (gates_below f n) (is_open (f n)) [] b)
        ∙ ap (λ (k : ℕ). set (gates_below f (suc n)) k b) long
    by_place n (inr other) below same before =
        let less : j < n = grind (arith, below, other) in
        ap (λ (c : Bool). gates_below g n ++ c ∷ []) (same n (omega arith) (λ is. other (sym is)))
        ∙ ap (λ (gates : List Bool). gates ++ is_open (f n) ∷ []) (before less)
        ∙ sym (set-append_left (gates_below f n) (is_open (f n) ∷ []) j b (omega (arith, less, length-gates f n)))

    pub one_gate : (n : ℕ) → j < n → ((k : ℕ) → k < n → (k ≡ j → ⊥) → is_open (g k) ≡ is_open (f k)) →
        gates_below g n ≡ set (gates_below f n) j b
    one_gate zero below same = absurd (omega (arith, below))
    one_gate (suc n) below same =
        by_place n (cases_eq j n) below same (λ less. one_gate n less (λ k under. same k (omega (arith, under))))

-- shut where it is shut
pub shut_again : (gates : List Bool) (k : ℕ) → get_or gates k false ≡ false → set gates k false ≡ gates
shut_again gates k shut = ap (λ (b : Bool). set gates k b) (sym shut) ∙ set-get_or gates k false
