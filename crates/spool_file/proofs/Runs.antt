-- Chains of numbers, and the slots that hold them, whatever a message takes.
use Rattle.std.proofs.Common.{◌≡◌, ℕ, zero, suc, ◌+◌, ◌*◌, ◌/◌, ◌%◌, ◌<◌, ◌≤◌, ◌⊎◌, Bool, true, false, List, [], ◌∷◌, ◌++◌, length, Some, refl, sym, ap, subst, ◌∙◌, arith, inl, inr}
use Rattle.std.proofs.lemmas.Bool.{cases_lt}
use Rattle.std.proofs.lemmas.Nat.{div-add-mod', mul-le}
use Rattle.std.specs.List.{slice_get}
use Rattle.spool_file.specs.Area.{messages_below, next_of}
use Rattle.spool_file.specs.Run.{IsChainFrom}
use Rattle.spool_file.specs.Slot.{Message, width}
use Rattle.spool_file.proofs.Areas.{Each, each_made, each_so, each_there}
use Rattle.spool_file.proofs.BodySizes.{some_slots}

-- ---- lists

-- a message takes at least one slot
pub some_width : (m : Message) → 1 ≤ width m
some_width m = some_slots (length m.body)

pub chain_up : (first next : ℕ) (list : List Message) → IsChainFrom first next list → first + length list ≤ next
chain_up first next [] chain = omega (arith, chain)
chain_up first next (x ∷ list) chain =
    let rest : first + width x + length list ≤ next = chain_up (first + width x) next list chain.1 in
    let some : 1 ≤ width x = some_width x in
    omega (arith, rest, some)

-- what a message takes lies between
abbrev pub IsBetween : ℕ → ℕ → Message → Type 0
IsBetween first next m = (first ≤ m.number) × (m.number + width m ≤ next)

pub chain_within : (first next : ℕ) (list : List Message) → IsChainFrom first next list → Each (IsBetween first next) list
chain_within first next [] chain = tt
chain_within first next (x ∷ list) chain =
    let rest : first + width x + length list ≤ next = chain_up (first + width x) next list chain.1 in (
      (omega (arith, chain.0), omega (arith, chain.0, rest)),
      each_so (IsBetween (first + width x) next) (IsBetween first next) list (λ m is. (omega (arith, is.0), is.1))
          (chain_within (first + width x) next list chain.1),
    )

pub chain_last : (first next : ℕ) (list : List Message) (m : Message) → IsChainFrom first next list → m.number ≡ next →
    IsChainFrom first (next + width m) (list ++ m ∷ [])
chain_last first next [] m chain is = (is ∙ sym chain, ap (λ (n : ℕ). n + width m) chain)
chain_last first next (x ∷ list) m chain is = (chain.0, chain_last (first + width x) next list m chain.1 is)

-- its second number is the one behind the last message, and together they take as many as lie between
pub chain_next : (first next : ℕ) (list : List Message) → IsChainFrom first next list → next ≡ next_of first list
chain_next first next [] chain = sym chain
chain_next first next (x ∷ list) chain =
    chain_next (first + width x) next list chain.1
    ∙ ap (λ (n : ℕ). next_of (n + width x) list) (sym chain.0)

abbrev pub total : List Message → ℕ
total [] = 0
total (x ∷ list) = width x + total list

pub chain_total : (first next : ℕ) (list : List Message) → IsChainFrom first next list → next ≡ first + total list
chain_total first next [] chain = omega (arith, chain)
chain_total first next (x ∷ list) chain =
    let rest : next ≡ first + width x + total list = chain_total (first + width x) next list chain.1 in
    omega (arith, rest)

-- ---- places

-- two numbers less than n apart have different places
apart : (a b n : ℕ) → a < b → b < a + n → a % n ≡ b % n → ⊥
apart a b n less near same =
    let da = div-add-mod' a n in
    let db = div-add-mod' b n in
    go da db (cases_lt (a / n) (b / n)) where
      go : a / n * n + a % n ≡ a → b / n * n + b % n ≡ b → (a / n < b / n) ⊎ (b / n ≤ a / n) → ⊥
      go da db (inl up) =
          let h : (a / n + 1) * n ≤ b / n * n = mul-le (a / n + 1) n (b / n) n (omega (arith, up)) (omega arith) in
          let e : (a / n + 1) * n ≡ a / n * n + n = grind arith in
          omega (arith, h, e, da, db, same, near)
      go da db (inr down) =
          let h : b / n * n ≤ a / n * n = mul-le (b / n) n (a / n) n down (omega arith) in
          omega (arith, h, da, db, same, less)

-- so of n numbers in a row each has a place of its own
pub places_differ : (a b first n : ℕ) → first ≤ a → a < first + n → first ≤ b → b < first + n → (a ≡ b → ⊥) → a % n ≡ b % n → ⊥
places_differ a b first n a_from a_below b_from b_below differ same = by_order (cases_lt a b) where
  by_order : (a < b) ⊎ (b ≤ a) → ⊥
  by_order (inl less) = apart a b n less (omega (arith, a_from, b_below)) same
  by_order (inr more) =
      let over : b < a = grind (arith, more, differ) in
      apart b a n over (omega (arith, b_from, a_below)) (sym same)

-- ---- slots

-- each message stands in the slot of its number, and the numbers have no gap
pub record IsKept (stands : ℕ → Bool) (message : ℕ → Message) (n first next : ℕ) : Type 0 where
  pub places : (k : ℕ) → k < n → stands k ≡ true → (message k).number % n ≡ k
  pub chain : IsChainFrom first next (messages_below stands message n)

module _ (stands : ℕ → Bool) (message : ℕ → Message) (n first next : ℕ) (is : IsKept stands message n first next) where
  pub within : (k : ℕ) → k < n → stands k ≡ true → IsBetween first next (message k)
  within k below there =
      each_there (IsBetween first next) stands message n k (chain_within first next (messages_below stands message n) is.chain) below there

  -- a number that no message takes is at no place of one, where all lie less than n apart
  pub beside : next ≤ first + n → (k : ℕ) → k < n → stands k ≡ true → (x : ℕ) → first ≤ x → x < first + n →
      (x < (message k).number) ⊎ ((message k).number + width (message k) ≤ x) → (p : ℕ) → p < width (message k) →
      ((message k).number + p) % n ≡ x % n → ⊥
  beside room k below there x from to outside p less =
      let here : IsBetween first next (message k) = within k below there in
      places_differ ((message k).number + p) x first n (omega (arith, here.0)) (omega (arith, here.1, less, room)) from to
      (differ outside) where
        differ : (x < (message k).number) ⊎ ((message k).number + width (message k) ≤ x) → (message k).number + p ≡ x → ⊥
        differ (inl before) same = omega (arith, before, same)
        differ (inr behind) same = omega (arith, behind, same, less)

  -- the slot of a number behind all holds none
  not_there : (b : Bool) (x j : ℕ) → next ≤ x → x < first + n → j < n → j ≡ x % n → stands j ≡ b → b ≡ false
  not_there false x j behind to below here is_b = refl
  not_there true x j behind to below here is_b =
      let there : IsBetween first next (message j) = within j below is_b in
      let some : 1 ≤ width (message j) = some_width (message j) in
      let same : (message j).number + 0 ≡ (message j).number = omega arith in
      absurd (
      beside (omega (arith, behind, to)) j below is_b x (omega (arith, there.0, there.1, behind)) to
      (inr (omega (arith, there.1, behind))) 0 (omega (arith, some))
      (ap (λ (i : ℕ). i % n) same ∙ is.places j below is_b ∙ here)
      )

  pub free : (x j : ℕ) → next ≤ x → x < first + n → j < n → j ≡ x % n → stands j ≡ false
  free x j behind to below here = not_there (stands j) x j behind to below here refl

  -- each message of the list stands in the slot of its number
  abbrev Stands : Message → Type 0
  Stands m = (m.number % n < n) × (stands (m.number % n) ≡ true) × (message (m.number % n) ≡ m)

  each_stands : Each Stands (messages_below stands message n)
  each_stands = each_made Stands stands message n (λ k below there.
      let here : k ≡ (message k).number % n = sym (is.places k below there) in (
        subst (λ i. i < n) here below,
        subst (λ i. stands i ≡ true) here there,
        ap message (sym here),
      ))

  from_each : (list : List Message) (i : ℕ) (m : Message) → Each Stands list → slice_get list i ≡ Some m → Stands m
  from_each [] zero m each got = absurd (grind (arith, got))
  from_each [] (suc i) m each got = absurd (grind (arith, got))
  from_each (x ∷ list) zero m each got = let same : x ≡ m = cc in subst Stands same each.0
  from_each (x ∷ list) (suc i) m each got = from_each list i m each.1 got

  pub found : (i : ℕ) (m : Message) → slice_get (messages_below stands message n) i ≡ Some m → Stands m
  found i m got = from_each (messages_below stands message n) i m each_stands got

  -- so the first one does
  first_of_all : (list : List Message) → Each Stands list → IsChainFrom first next list → 0 < length list →
      (m : Message) × Stands m × (m.number ≡ first)
  first_of_all [] each chain some = absurd (omega (arith, some))
  first_of_all (x ∷ list) each chain some = (x, each.0, chain.0)

  pub oldest : (j : ℕ) → j ≡ first % n → 0 < length (messages_below stands message n) →
      (j < n) × (stands j ≡ true) × ((message j).number ≡ first)
  oldest j here some =
      let x = first_of_all (messages_below stands message n) each_stands is.chain some in
      let same : x.0.number % n ≡ j = ap (λ (i : ℕ). i % n) x.2 ∙ sym here in
      subst (λ i. (i < n) × (stands i ≡ true) × ((message i).number ≡ first)) same
      (x.1.0, x.1.1, ap (λ (m : Message). m.number) x.1.2 ∙ x.2)
