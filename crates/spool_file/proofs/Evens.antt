-- Lists whose messages take one slot each.
use Rattle.std.proofs.Common.{◌≡◌, ℕ, zero, suc, ◌+◌, ◌<◌, ◌≤◌, List, [], ◌∷◌, length, drop, Some, refl, sym, subst, arith}
use Rattle.std.specs.List.{slice_get}
use Rattle.spool_file.specs.Run.{IsChainFrom, IsRunFrom}
use Rattle.spool_file.specs.Sizes.{slots_for}
use Rattle.spool_file.specs.Slot.{Message, width}
use Rattle.spool_file.proofs.Areas.{Each}
use Rattle.spool_file.proofs.Runs.{chain_up, some_width}
use Rattle.spool_file.proofs.BodySizes.{one_slot}

-- a body of no more bytes than a slot has room for takes one
pub even_width : (body : List ℕ) → length body ≤ 4081 → slots_for (length body) ≡ 1
even_width body short = one_slot (length body) short

-- so the numbers go up one by one
pub even_chain : (first next : ℕ) (list : List Message) → Each (λ m. width m ≡ 1) list → IsChainFrom first next list → next ≡ first + length list
even_chain first next [] each chain = omega (arith, chain)
even_chain first next (x ∷ list) each chain =
    let rest : next ≡ first + width x + length list = even_chain (first + width x) next list each.1 chain.1 in
    omega (arith, rest, each.0)

pub run_chain : (first : ℕ) (list : List Message) → Each (λ m. width m ≡ 1) list → IsRunFrom first list → IsChainFrom first (first + length list) list
run_chain first [] each run = let none : first ≡ first + 0 = omega arith in none
run_chain first (x ∷ list) each run =
    let one : width x ≡ 1 = each.0 in
    let next : first + 1 + length list ≡ first + suc (length list) = omega arith in (
      run.0,
      subst (λ (n : ℕ). IsChainFrom (first + n) (first + suc (length list)) list) (sym one)
          (subst (λ (n : ℕ). IsChainFrom (first + 1) n list) next (run_chain (first + 1) list each.1 run.1)),
    )

-- and they do where there are as many numbers as messages
pub chain_run : (first next : ℕ) (list : List Message) → next ≡ first + length list → IsChainFrom first next list → IsRunFrom first list
chain_run first next [] even chain = tt
chain_run first next (x ∷ list) even chain =
    let up : first + width x + length list ≤ next = chain_up (first + width x) next list chain.1 in
    let some : 1 ≤ width x = some_width x in
    let one : width x ≡ 1 = omega (arith, up, some, even) in
    (chain.0, chain_run (first + 1) next list (omega (arith, even)) (subst (λ (n : ℕ). IsChainFrom (first + n) next list) one chain.1))

-- a message by its number
pub run_there : (first i : ℕ) (list : List Message) → IsRunFrom first list → i < length list →
    (m : Message) × (slice_get list i ≡ Some m) × (m.number ≡ first + i)
run_there first i [] run below = absurd (omega (arith, below))
run_there first zero (x ∷ list) run below = (x, refl, omega (arith, run.0))
run_there first (suc i) (x ∷ list) run below =
    let r = run_there (first + 1) i list run.1 (omega (arith, below)) in (r.0, r.1, omega (arith, r.2))

-- without its first message such a list begins at the next number
pub even_rest : (first next : ℕ) (list : List Message) → next ≡ first + length list → IsChainFrom first next list → 0 < length list →
    IsChainFrom (first + 1) next (drop 1 list)
even_rest first next [] even chain some = absurd (omega (arith, some))
even_rest first next (x ∷ list) even chain some =
    let up : first + width x + length list ≤ next = chain_up (first + width x) next list chain.1 in
    let least : 1 ≤ width x = some_width x in
    let one : width x ≡ 1 = omega (arith, up, least, even) in
    subst (λ (n : ℕ). IsChainFrom (first + n) next list) one chain.1
