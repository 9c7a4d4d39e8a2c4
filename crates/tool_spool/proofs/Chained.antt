-- Lists whose numbers are a chain: each message takes as many as slots.
use Rattle.std.proofs.Common.{◌≡◌, refl, sym, ap, subst, inl, inr, arith, ◌<◌, ◌≤◌, ◌+◌, ℕ, List, [], ◌∷◌, drop, length}
use Rattle.std.proofs.lemmas.List.Sums.{sum_by-cons}
use Rattle.std.specs.Prelude.{map, sum}
use Rattle.message_end.specs.Own.{Has}
use Rattle.spool_law.specs.Shelf.{IsFirst}
use Rattle.spool_file.specs.Area.{first_of}
use Rattle.spool_file.specs.Run.{IsChainFrom}
use Rattle.spool_file.specs.Slot.{Message, width}
use Rattle.spool_file.proofs.Runs.{chain_up, some_width}
use Rattle.spool_ledger.specs.Sizes.{oldest_of}
use Rattle.spool_works.specs.Found.{found_in}
use Rattle.trace_log.specs.Names.{Spooled}
use Rattle.tool_spool.specs.SpoolKept.{sizes_of}

-- ---- sizes

-- what is found takes as many slots as these messages
pub sizes-found : (list : List Message) → sizes_of (found_in list) ≡ map width list
sizes-found [] = refl
sizes-found (m ∷ list) = ap (λ (ns : List ℕ). width m ∷ ns) (sizes-found list)

-- ---- chains

-- all numbers are below the one behind them
pub chain-below :
    (n next : ℕ) (list : List Message) → IsChainFrom n next list → (one : ℕ × Spooled) → Has (found_in list) one
    → one.0 < next
chain-below n next [] chain one has = absurd has
chain-below n next (m ∷ list) chain one (inl same) =
    let number = ap (λ (x : ℕ × Spooled). x.0) same in
    let first = chain.0 in
    let up = chain_up (n + width m) next list chain.1 in
    let some = some_width m in
    omega (arith, number, first, up, some)
chain-below n next (m ∷ list) chain one (inr has) = chain-below (n + width m) next list chain.1 one has

-- behind the first one
pub chain-rest : (n next : ℕ) (list : List Message) → IsChainFrom n next list
    → IsChainFrom (n + oldest_of (map width list)) next (drop 1 list)
chain-rest n next [] chain = omega (arith, chain)
chain-rest n next (m ∷ list) chain = chain.1

pub chain-first : (n next : ℕ) (list : List Message) → IsChainFrom n next list → 0 < length list
    → IsFirst (found_in list) n
chain-first n next [] chain some = absurd (omega (arith, some))
chain-first n next (m ∷ list) chain some = chain.0

-- the number behind all is as many above the first one as slots are taken
pub chain-sum : (n next : ℕ) (list : List Message) → IsChainFrom n next list → next ≡ n + sum (map width list)
chain-sum n next [] chain = omega (arith, chain)
chain-sum n next (m ∷ list) chain =
    let rest = chain-sum (n + width m) next list chain.1 in
    let more = sum_by-cons (λ (k : ℕ). k) (width m) (map width list) in
    omega (arith, rest, more)

-- from the number of the first message on; where there is none, from the floor on
pub first-chain : (floor n next : ℕ) (list : List Message) → IsChainFrom n next list
    → IsChainFrom (first_of floor list) (first_of floor list + sum (map width list)) list
first-chain floor n next [] chain = let none : floor ≡ floor + 0 = omega arith in none
first-chain floor n next (m ∷ list) chain =
    let all = chain-sum n next (m ∷ list) chain in
    let first = chain.0 in
    let same : next ≡ m.number + sum (map width (m ∷ list)) = omega (arith, all, first) in (
      refl,
      subst (λ (k : ℕ). IsChainFrom (k + width m) (m.number + sum (map width (m ∷ list))) list) (sym first)
          (subst (λ (k : ℕ). IsChainFrom (n + width m) k list) same chain.1),
    )

pub first-most : (floor n next most : ℕ) (list : List Message) → IsChainFrom n next list → next ≤ most → floor ≤ most
    → first_of floor list + sum (map width list) ≤ most
first-most floor n next most [] chain below low = omega (arith, low)
first-most floor n next most (m ∷ list) chain below low =
    let all = chain-sum n next (m ∷ list) chain in
    let first = chain.0 in
    omega (arith, all, first, below)
