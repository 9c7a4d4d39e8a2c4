-- That messages stay where slots of numbers that none of them takes are changed.
use Rattle.std.proofs.Common.{◌≡◌, ◌⊎◌, ℕ, zero, suc, ◌+◌, ◌-◌, ◌%◌, ◌<◌, ◌≤◌, true, false, List, ◌++◌, take, None, refl, sym, ap}
use Rattle.std.proofs.Common.{subst, ◌∙◌, arith, inl, inr}
use Rattle.std.proofs.lemmas.Bool.{cases_eq}
use Rattle.std.proofs.lemmas.Nat.{mod_below}
use Rattle.spool_file.specs.Breaks.{list_below, slot_stands}
use Rattle.spool_file.specs.Run.{IsChainFrom}
use Rattle.spool_file.specs.Sizes.{slots_for}
use Rattle.spool_file.specs.Slot.{Message, Slot, areas_from, slot_break, slot_message, stands_on, width}
use Rattle.spool_file.specs.declared.slot.Frame.{Frame}
use Rattle.spool_file.specs.declared.slot.SlotHead.{SlotHead}
use Rattle.spool_file.proofs.Areas.{IsSameAt, all_same}
use Rattle.spool_file.proofs.Runs.{beside, within}
use Rattle.spool_file.proofs.Sound.{IsFull, IsWhole, absent_none, width_is}

-- a slot is one of those of n numbers in a row
abbrev pub IsOfRow : (slots number n k : ℕ) → Type 0
IsOfRow slots number n k = (q : ℕ) × (q < n) × (k ≡ (number + q) % slots)

of_more : (slots number n k : ℕ) → (k ≡ (number + n) % slots) ⊎ (k ≡ (number + n) % slots → ⊥) →
    IsOfRow slots number n k ⊎ (IsOfRow slots number n k → ⊥) →
    IsOfRow slots number (suc n) k ⊎ (IsOfRow slots number (suc n) k → ⊥)
of_more slots number n k (inl last) before = inl (n, omega arith, last)
of_more slots number n k (inr other) (inl is) = inl (is.0, omega (arith, is.1), is.2)
of_more slots number n k (inr other) (inr none) = inr (λ is. by_place is (cases_eq is.0 n)) where
  by_place : (is : IsOfRow slots number (suc n) k) → (is.0 ≡ n) ⊎ (is.0 ≡ n → ⊥) → ⊥
  by_place is (inl same) = other (is.2 ∙ ap (λ (q : ℕ). (number + q) % slots) same)
  by_place is (inr before) = none (is.0, grind (arith, is.1, before), is.2)

pub of_row : (slots number n k : ℕ) → IsOfRow slots number n k ⊎ (IsOfRow slots number n k → ⊥)
of_row slots number zero k = inr (λ is. omega (arith, is.1))
of_row slots number (suc n) k =
    of_more slots number n k (cases_eq k ((number + n) % slots)) (of_row slots number n k)

areas_same : (f g : ℕ → Slot) (slots number more : ℕ) →
    ((p : ℕ) → p < more → (g ((number + p) % slots)).area ≡ (f ((number + p) % slots)).area) →
    areas_from slots g number more ≡ areas_from slots f number more
areas_same f g slots number zero same = refl
areas_same f g slots number (suc more) same =
    let here : number + 0 ≡ number = omega arith in
    let first : (g (number % slots)).area ≡ (f (number % slots)).area =
    subst (λ (x : ℕ). (g (x % slots)).area ≡ (f (x % slots)).area) here (same 0 (omega arith)) in
    ap (λ (area : List ℕ). area ++ areas_from slots g (number + 1) more) first
    ∙ ap (λ (rest : List ℕ). (f (number % slots)).area ++ rest)
    (areas_same f g slots (number + 1) more (λ p below.
    let next : number + suc p ≡ number + 1 + p = omega arith in
    subst (λ (x : ℕ). (g (x % slots)).area ≡ (f (x % slots)).area) next (same (suc p) (omega (arith, below)))))

-- a message by its head and its areas
abbrev pub message_from : SlotHead → (area further : List ℕ) → Message
message_from head area further = record {
  number = head.number;
  stream = head.stream;
  function = head.function;
  body = take head.len (area ++ further);
}

-- a slot whose head is as it was has the same message where the areas of all its pieces are
pub message_same : (f g : ℕ → Slot) (slots k : ℕ) → (g k).head ≡ (f k).head → (g k).area ≡ (f k).area →
    ((p : ℕ) → 1 ≤ p → p < slots_for (f k).head.len →
    (g (((f k).head.number + p) % slots)).area ≡ (f (((f k).head.number + p) % slots)).area) →
    slot_message slots g k ≡ slot_message slots f k
message_same f g slots k head area further =
    let number = (f k).head.number in
    let size = slots_for (f k).head.len in
    ap (λ (h : SlotHead). message_from h (g k).area (areas_from slots g (h.number + 1) (slots_for h.len - 1))) head
    ∙ ap (λ (a : List ℕ). message_from (f k).head a (areas_from slots g (number + 1) (size - 1))) area
    ∙ ap (message_from (f k).head (f k).area) (areas_same f g slots (number + 1) (size - 1) (λ p less.
    let more : number + (p + 1) ≡ number + 1 + p = omega arith in
    subst (λ (x : ℕ). (g (x % slots)).area ≡ (f (x % slots)).area) more
    (further (p + 1) (omega arith) (omega (arith, less)))))

module _ (frame : Frame) (f g : ℕ → Slot) (first next n : ℕ) (some : 1 ≤ frame.slots) (full : IsFull f frame.slots)
    (is : IsWhole frame f first next) (fits : next + n ≤ first + frame.slots) (from : first ≤ next)
    (others : (k : ℕ) → k < frame.slots → (IsOfRow frame.slots next n k → ⊥) → g k ≡ f k)
    (before : (k : ℕ) → k < frame.slots → IsOfRow frame.slots next n k → stands_on frame.floor (f k) ≡ false)
    (now : (k : ℕ) → k < frame.slots → IsOfRow frame.slots next n k → stands_on frame.floor (g k) ≡ false) where
  -- a slot that stands, and those of its further pieces, aren't of the row
  beside_row : (k : ℕ) → k < frame.slots → stands_on frame.floor (f k) ≡ true → (p : ℕ) →
      p < slots_for (f k).head.len → IsOfRow frame.slots next n (((f k).head.number + p) % frame.slots) → ⊥
  beside_row k below there p less row =
      let wide : width (slot_message frame.slots f k) ≡ slots_for (f k).head.len =
      width_is f frame.slots full some k below in
      beside (slot_stands frame.floor f) (slot_message frame.slots f) frame.slots first next is.kept
      (omega (arith, fits)) k below there (next + row.0) (omega (arith, from)) (omega (arith, fits, row.1))
      (inr (behind row.0)) p (omega (arith, less, wide)) row.2 where
        behind : (q : ℕ) → (slot_message frame.slots f k).number + width (slot_message frame.slots f k) ≤ next + q
        behind q =
            let here = within (slot_stands frame.floor f) (slot_message frame.slots f) frame.slots first next is.kept k
            below there in
            omega (arith, here.1)

  same_message : (k : ℕ) → k < frame.slots → stands_on frame.floor (f k) ≡ true → g k ≡ f k →
      slot_message frame.slots g k ≡ slot_message frame.slots f k
  same_message k below there same =
      message_same f g frame.slots k (ap (λ (s : Slot). s.head) same) (ap (λ (s : Slot). s.area) same)
      (λ p from less. ap (λ (s : Slot). s.area)
      (others (((f k).head.number + p) % frame.slots) (mod_below ((f k).head.number + p) frame.slots some)
      (beside_row k below there p less)))

  same_by : (k : ℕ) → k < frame.slots → IsOfRow frame.slots next n k ⊎ (IsOfRow frame.slots next n k → ⊥) →
      IsSameAt (slot_stands frame.floor f) (slot_stands frame.floor g) (slot_message frame.slots f)
      (slot_message frame.slots g) k
  same_by k below (inl row) = record {
    stays = now k below row ∙ sym (before k below row);
    same = λ there. absurd (grind (arith, before k below row, there));
  }
  same_by k below (inr none) =
      let same = others k below none in
      record {
        stays = ap (stands_on frame.floor) same;
        same = λ there. same_message k below there same;
      }

  pub each_same : (k : ℕ) → k < frame.slots → IsSameAt (slot_stands frame.floor f) (slot_stands frame.floor g)
      (slot_message frame.slots f) (slot_message frame.slots g) k
  each_same k below = same_by k below (of_row frame.slots next n k)

  -- the list stays
  pub list_stays : list_below frame g frame.slots ≡ list_below frame f frame.slots
  list_stays = all_same (slot_stands frame.floor f) (slot_stands frame.floor g) (slot_message frame.slots f)
      (slot_message frame.slots g) frame.slots each_same

  fields_by : (k : ℕ) → k < frame.slots → IsOfRow frame.slots next n k ⊎ (IsOfRow frame.slots next n k → ⊥) →
      slot_break frame k (g k) ≡ None
  fields_by k below (inl row) = absent_none frame k (g k) (now k below row)
  fields_by k below (inr none) =
      ap (slot_break frame k) (others k below none) ∙ is.fields k below

  -- and the chain
  pub whole_stays : IsWhole frame g first next
  whole_stays = record {
    fields = λ k below. fields_by k below (of_row frame.slots next n k);
    kept = record {
      places = λ k below there.
          let at = each_same k below in
          let was : stands_on frame.floor (f k) ≡ true = sym at.stays ∙ there in
          ap (λ (m : Message). m.number % frame.slots) (at.same was) ∙ is.kept.places k below was;
      chain = subst (IsChainFrom first next) (sym list_stays) is.kept.chain;
    };
    room = is.room;
  }
