-- Which gates are open, where those of numbers in a row were closed.
use Rattle.std.proofs.Common.{◌≡◌, ◌⊎◌, ℕ, zero, suc, ◌+◌, ◌%◌, ◌<◌, ◌≤◌, Bool, false, List, ◌∷◌, length}
use Rattle.std.proofs.Common.{get_or, refl, sym, ap, ◌∙◌, arith, inl, inr}
use Rattle.std.proofs.Math.ListN.{set}
use Rattle.std.proofs.lemmas.Bool.{cases_eq}
use Rattle.std.proofs.lemmas.List.{ext_get_or, get_or-set_other, get_or-set_same, length-set}
use Rattle.std.proofs.lemmas.Nat.{mod_below}
use Rattle.spool_file.specs.File.{file_in, gates_below, slots_in}
use Rattle.spool_file.specs.Slot.{Slot, is_open, slot_in}
use Rattle.spool_file.proofs.Gates.{gate_at, length-gates}
use Rattle.spool_file.proofs.Others.{IsOfRow, of_row}
use Rattle.spool_slots.specs.Changes.{open_gates}
use Rattle.spool_slots.specs.Files.{gates_shut}
use Rattle.spool_slots.specs.Put.{opens_in}

-- by the file, and by its bytes
pub opens_by_file : (bytes : List ℕ) → 1 ≤ slots_in bytes → (number n : ℕ) →
    open_gates number n (file_in bytes) ≡ opens_in bytes (slots_in bytes) number n
opens_by_file bytes some number zero = refl
opens_by_file bytes some number (suc n) =
    let slots = slots_in bytes in
    ap (λ (b : Bool). b ∷ open_gates (number + 1) n (file_in bytes))
    (gate_at (slot_in bytes) slots (number % slots) (mod_below number slots (omega (arith, some))))
    ∙ ap (λ (rest : List Bool). is_open (slot_in bytes (number % slots)) ∷ rest) (opens_by_file bytes some (number + 1) n)

module _ (slots number : ℕ) (gates : List Bool) where
  length-shut : (n : ℕ) → length (gates_shut slots number n gates) ≡ length gates
  length-shut zero = refl
  length-shut (suc n) =
      length-set (gates_shut slots number n gates) ((number + n) % slots) false ∙ length-shut n

  module _ (k : ℕ) where
    shut_same : (n : ℕ) → k ≡ (number + n) % slots → k < length gates →
        get_or (gates_shut slots number (suc n) gates) k false ≡ false
    shut_same n here below =
        ap (λ (i : ℕ). get_or (set (gates_shut slots number n gates) i false) k false) (sym here)
        ∙ get_or-set_same (gates_shut slots number n gates) k false false (omega (arith, below, length-shut n))

    shut_other : (n : ℕ) → (k ≡ (number + n) % slots → ⊥) →
        get_or (gates_shut slots number (suc n) gates) k false ≡ get_or (gates_shut slots number n gates) k false
    shut_other n other =
        get_or-set_other (gates_shut slots number n gates) ((number + n) % slots) k false false other

    -- those of the row are closed
    in_by : (n : ℕ) → (k ≡ (number + n) % slots) ⊎ (k ≡ (number + n) % slots → ⊥) → IsOfRow slots number (suc n) k →
        k < length gates →
        (IsOfRow slots number n k → get_or (gates_shut slots number n gates) k false ≡ false) →
        get_or (gates_shut slots number (suc n) gates) k false ≡ false
    in_by n (inl here) row below before = shut_same n here below
    in_by n (inr other) row below before = shut_other n other ∙ before (earlier (cases_eq row.0 n)) where
      earlier : (row.0 ≡ n) ⊎ (row.0 ≡ n → ⊥) → IsOfRow slots number n k
      earlier (inl last) = absurd (other (row.2 ∙ ap (λ (q : ℕ). (number + q) % slots) last))
      earlier (inr less) = (row.0, grind (arith, row.1, less), row.2)

    shut_in_row : (n : ℕ) → IsOfRow slots number n k → k < length gates →
        get_or (gates_shut slots number n gates) k false ≡ false
    shut_in_row zero row below = absurd (omega (arith, row.1))
    shut_in_row (suc n) row below =
        in_by n (cases_eq k ((number + n) % slots)) row below (λ before. shut_in_row n before below)

    -- and the others are as they were
    shut_beside : (n : ℕ) → (IsOfRow slots number n k → ⊥) →
        get_or (gates_shut slots number n gates) k false ≡ get_or gates k false
    shut_beside zero none = refl
    shut_beside (suc n) none =
        shut_other n (λ here. none (n, omega arith, here))
        ∙ shut_beside n (λ row. none (row.0, omega (arith, row.1), row.2))

-- so they are those of slots of which the ones of the row are closed
pub row_shut : (f g : ℕ → Slot) (slots number n : ℕ) →
    ((k : ℕ) → k < slots → (IsOfRow slots number n k → ⊥) → is_open (g k) ≡ is_open (f k)) →
    ((k : ℕ) → k < slots → IsOfRow slots number n k → is_open (g k) ≡ false) →
    gates_below g slots ≡ gates_shut slots number n (gates_below f slots)
row_shut f g slots number n others closed =
    let shut = gates_shut slots number n (gates_below f slots) in
    ext_get_or false (gates_below g slots) shut
    (length-gates g slots ∙ sym (length-shut slots number (gates_below f slots) n ∙ length-gates f slots))
    (λ k within. let below : k < slots = omega (arith, within, length-gates g slots) in
    gate_at g slots k below ∙ by_row k below (of_row slots number n k)) where
      by_row : (k : ℕ) → k < slots → IsOfRow slots number n k ⊎ (IsOfRow slots number n k → ⊥) →
          is_open (g k) ≡ get_or (gates_shut slots number n (gates_below f slots)) k false
      by_row k below (inl row) =
          closed k below row
          ∙ sym (shut_in_row slots number (gates_below f slots) k n row (omega (arith, below, length-gates f slots)))
      by_row k below (inr none) =
          others k below none ∙ sym (gate_at f slots k below)
          ∙ sym (shut_beside slots number (gates_below f slots) k n none)
