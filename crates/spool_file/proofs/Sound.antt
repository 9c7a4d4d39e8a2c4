-- What slots that pass the tests of both versions are like, and lists by number.
use Rattle.std.proofs.Common.{◌≡◌, ℕ, zero, suc, ◌+◌, ◌-◌, ◌*◌, ◌^◌, ◌%◌, ◌<◌, ◌≤◌, ◌==◌, ◌&&◌, nat_le, nat_lt, not}
use Rattle.std.proofs.Common.{Bool, true, false, if◌then◌else◌, List, [], ◌∷◌, ◌++◌, length, length-append, Option}
use Rattle.std.proofs.Common.{Some, None, refl, sym, ap, ◌∙◌, arith}
use Rattle.std.proofs.lemmas.Bool.Decides.{nat_tests}
use Rattle.std.proofs.lemmas.List.{length-take}
use Rattle.std.proofs.lemmas.Nat.{mod_below}
use Rattle.spool_file.specs.Area.{first_break, first_of, messages_below, or_else, put_by_number, put_if}
use Rattle.spool_file.specs.Breaks.{area_break, chain_break, end_break, fields_break, list_below, slot_stands, sum_break}
use Rattle.spool_file.specs.Sizes.{is_too_long, slots_for}
use Rattle.spool_file.specs.Slot.{Message, Slot, areas_from, head_break, in_slot, is_open, slot_break}
use Rattle.spool_file.specs.Slot.{slot_message, stands_on, width}
use Rattle.spool_file.specs.declared.slot.Frame.{Frame}
use Rattle.spool_file.specs.declared.slot.SlotHead.{SlotHead}
use Rattle.spool_file.proofs.Areas.{Each, each_made, each_put, none_there}
use Rattle.spool_file.proofs.Firsts.{first_none, if_none, none_below, none_if, or_none, out_of_slot}
use Rattle.spool_file.proofs.Lists.{length-put}
use Rattle.spool_file.proofs.Runs.{IsBetween, IsKept, chain_up, some_width, within}
use Rattle.spool_file.proofs.BodySizes.{slots_hold, within_all}

-- ---- the tests of one slot

-- fields that aren't broken
pub record IsGood (frame : Frame) (k : ℕ) (head : SlotHead) : Type 0 where
  pub short : is_too_long frame.version frame.slots head.len ≡ false
  pub place : head.number % frame.slots ≡ k
  pub number : head.number + slots_for head.len ≤ 2 ^ 63
  pub function : (head.function % 2 == 0) ≡ false

place_of : (x k : ℕ) → not (x == k) ≡ false → x ≡ k
place_of x k is = grind (arith, nat_tests, is)

place_is : (x k : ℕ) → x ≡ k → not (x == k) ≡ false
place_is x k is = grind (arith, nat_tests, is)

low_of : (number size : ℕ) → size ≤ 257 → nat_lt (2 ^ 63 - size) number ≡ false → number + size ≤ 2 ^ 63
low_of number size few is =
    let low : number ≤ 2 ^ 63 - size = grind (arith, nat_tests, is) in omega (arith, low, few)

low_is : (number size : ℕ) → number + size ≤ 2 ^ 63 → nat_lt (2 ^ 63 - size) number ≡ false
low_is number size less =
    let low : number ≤ 2 ^ 63 - size = omega (arith, less) in grind (arith, nat_tests, low)

module _ (frame : Frame) (k : ℕ) (head : SlotHead) where
  abbrev last : Option ℕ
  last = if head.function % 2 == 0 then Some 10 else None

  abbrev ends : Option ℕ
  ends = if nat_lt (2 ^ 63 - slots_for head.len) head.number then Some 1 else last

  abbrev places : Option ℕ
  places = if not (head.number % frame.slots == k) then Some 1 else ends

  pub good_is : head_break frame k head ≡ None → IsGood frame k head
  good_is none =
      let a = none_if (is_too_long frame.version frame.slots head.len) 11 places none in
      let b = none_if (not (head.number % frame.slots == k)) 1 ends a.1 in
      let c = none_if (nat_lt (2 ^ 63 - slots_for head.len) head.number) 1 last b.1 in
      let d = none_if (head.function % 2 == 0) 10 None c.1 in
      record {
        short = a.0;
        place = place_of (head.number % frame.slots) k b.0;
        number = low_of head.number (slots_for head.len) (within_all frame.version frame.slots head.len a.0) c.0;
        function = d.0;
      }

  pub is_good : IsGood frame k head → head_break frame k head ≡ None
  is_good is =
      if_none (is_too_long frame.version frame.slots head.len) 11 places is.short
      (if_none (not (head.number % frame.slots == k)) 1 ends (place_is (head.number % frame.slots) k is.place)
      (if_none (nat_lt (2 ^ 63 - slots_for head.len) head.number) 1 last
      (low_is head.number (slots_for head.len) is.number)
      (if_none (head.function % 2 == 0) 10 None is.function refl)))

pub stands_above : (b : Bool) (floor number : ℕ) → (b && nat_le floor number) ≡ true → floor ≤ number
stands_above true floor number is = grind (arith, nat_tests, is)
stands_above false floor number is = absurd (grind (arith, is))

-- nothing below an end stands above it
absent_if : (b : Bool) (floor next number : ℕ) → floor ≤ next → ((b && nat_le floor number) ≡ true → number < next) →
    (b && nat_le next number) ≡ false
absent_if false floor next number low below = refl
absent_if true floor next number low below = by_test (nat_le next number) refl where
  by_test : (c : Bool) → nat_le next number ≡ c → c ≡ false
  by_test false is = refl
  by_test true is =
      let over : nat_le floor number ≡ true = grind (arith, nat_tests, is, low) in
      let less : number < next = below over in
      absurd (grind (arith, nat_tests, is, less))

-- ---- bodies in whole areas

-- each area is all there
abbrev pub IsFull : (ℕ → Slot) → ℕ → Type 0
IsFull slot n = (k : ℕ) → k < n → length (slot k).area ≡ 4081

module _ (slot : ℕ → Slot) (n : ℕ) (full : IsFull slot n) (some : 0 < n) where
  pub length-areas : (number more : ℕ) → length (areas_from n slot number more) ≡ 4081 * more
  length-areas number zero = refl
  length-areas number (suc more) =
      let rest : length (areas_from n slot (number + 1) more) ≡ 4081 * more = length-areas (number + 1) more in
      let here : length (slot (number % n)).area ≡ 4081 = full (number % n) (mod_below number n some) in
      omega (
        arith,
        rest,
        here,
        length-append (slot (number % n)).area (areas_from n slot (number + 1) more),
      )

  -- so a body has the length that its head says
  pub length-body : (k : ℕ) → k < n → length (slot_message n slot k).body ≡ (slot k).head.len
  length-body k below =
      let size = slots_for (slot k).head.len in
      let further = areas_from n slot ((slot k).head.number + 1) (size - 1) in
      let all : length ((slot k).area ++ further) ≡ 4081 + 4081 * (size - 1) =
      omega (arith, length-append (slot k).area further, full k below, length-areas ((slot k).head.number + 1) (size - 1)) in
      let holds : (slot k).head.len ≤ 4081 * size = slots_hold (slot k).head.len in
      omega (arith, length-take (slot k).head.len ((slot k).area ++ further), all, holds)

  pub width_is : (k : ℕ) → k < n → width (slot_message n slot k) ≡ slots_for (slot k).head.len
  width_is k below = ap slots_for (length-body k below)

-- ---- lists by number

-- numbers go up
abbrev pub IsAscending : List Message → Type 0
IsAscending [] = Unit {0}
IsAscending (x ∷ list) = Each (λ y. x.number < y.number) list × IsAscending list

each_over : (a b : ℕ) (list : List Message) → a < b → Each (λ y. b < y.number) list → Each (λ y. a < y.number) list
each_over a b [] less each = tt
each_over a b (y ∷ list) less each = (omega (arith, less, each.0), each_over a b list less each.1)

ascending_put : (m : Message) (list : List Message) → IsAscending list → Each (λ y. y.number ≡ m.number → ⊥) list →
    IsAscending (put_by_number m list)
ascending_put m [] up other = (tt, tt)
ascending_put m (x ∷ list) up other =
    by_test (nat_lt m.number x.number) refl (ascending_put m list up.1 other.1) where
      by_test : (b : Bool) → nat_lt m.number x.number ≡ b → IsAscending (put_by_number m list) →
          IsAscending (if b then m ∷ x ∷ list else x ∷ put_by_number m list)
      by_test true is rest =
          let less : m.number < x.number = grind (arith, nat_tests, is) in
          ((less, each_over m.number x.number list less up.0), up)
      by_test false is rest =
          let more : x.number ≤ m.number = grind (arith, nat_tests, is) in
          (each_put (λ y. x.number < y.number) m list (grind (arith, more, other.0)) up.0, rest)

ascending_if : (b : Bool) (m : Message) (list : List Message) → IsAscending list →
    (b ≡ true → Each (λ y. y.number ≡ m.number → ⊥) list) → IsAscending (put_if b m list)
ascending_if true m list up other = ascending_put m list up (other refl)
ascending_if false m list up other = up

others : (n k : ℕ) (m : Message) (list : List Message) → m.number % n ≡ k → Each (λ y. y.number % n < k) list →
    Each (λ y. y.number ≡ m.number → ⊥) list
others n k m [] is each = tt
others n k m (y ∷ list) is each = (
  (λ same. let h : y.number % n ≡ k = ap (λ (x : ℕ). x % n) same ∙ is in omega (arith, h, each.0)),
  others n k m list is each.1,
)

length-if : (b : Bool) (m : Message) (list : List Message) → length (put_if b m list) ≤ suc (length list)
length-if true m list = omega (arith, length-put m list)
length-if false m list = omega arith

-- no more messages than slots
pub length-below : (stands : ℕ → Bool) (message : ℕ → Message) (n : ℕ) → length (messages_below stands message n) ≤ n
length-below stands message zero = omega arith
length-below stands message (suc n) =
    let more = length-if (stands n) (message n) (messages_below stands message n) in
    omega (arith, more, length-below stands message n)

-- ---- all slots

-- slots whose fields aren't broken, and that hold a chain that has room in them
pub record IsWhole (frame : Frame) (slot : ℕ → Slot) (first next : ℕ) : Type 0 where
  pub fields : (k : ℕ) → k < frame.slots → slot_break frame k (slot k) ≡ None
  pub kept : IsKept (slot_stands frame.floor slot) (slot_message frame.slots slot) frame.slots first next
  pub room : next ≤ first + frame.slots

module _ (frame : Frame) where
  -- the tests in their order, by version
  pub area_one : (slot : ℕ → Slot) → frame.version ≡ 1 →
      area_break frame slot ≡ or_else (fields_break frame slot) (end_break frame slot)
  area_one slot is =
      ap (λ (v : ℕ). first_break (if v == 1 then fields_break frame slot ∷ end_break frame slot ∷ []
      else fields_break frame slot ∷ chain_break frame slot ∷ sum_break frame slot ∷ [])) is
      ∙ ap (or_else (fields_break frame slot)) (or_none (end_break frame slot))

  pub area_two : (slot : ℕ → Slot) → frame.version ≡ 2 →
      area_break frame slot
      ≡ or_else (fields_break frame slot) (or_else (chain_break frame slot) (sum_break frame slot))
  area_two slot is =
      ap (λ (v : ℕ). first_break (if v == 1 then fields_break frame slot ∷ end_break frame slot ∷ []
      else fields_break frame slot ∷ chain_break frame slot ∷ sum_break frame slot ∷ [])) is
      ∙ ap (λ (o : Option ℕ). or_else (fields_break frame slot) (or_else (chain_break frame slot) o))
      (or_none (sum_break frame slot))

  pub stands_good : (k : ℕ) (slot : Slot) → slot_break frame k slot ≡ None → stands_on frame.floor slot ≡ true →
      IsGood frame k slot.head
  stands_good k slot none is =
      good_is frame k slot.head (ap (λ (b : Bool). if b then head_break frame k slot.head else None) (sym is) ∙ none)

  pub absent_none : (k : ℕ) (slot : Slot) → stands_on frame.floor slot ≡ false → slot_break frame k slot ≡ None
  absent_none k slot is = ap (λ (b : Bool). if b then head_break frame k slot.head else None) is

  pub good_none : (k : ℕ) (slot : Slot) → head_break frame k slot.head ≡ None → slot_break frame k slot ≡ None
  good_none k slot none = either (stands_on frame.floor slot) where
    either : (b : Bool) → (if b then head_break frame k slot.head else None) ≡ None
    either true = none
    either false = refl

  module _ (slot : ℕ → Slot) where
    pub of_fields : fields_break frame slot ≡ None → (k : ℕ) → k < frame.slots → slot_break frame k (slot k) ≡ None
    of_fields none k below = out_of_slot k (slot_break frame k (slot k))
        (none_below (λ k. in_slot k (slot_break frame k (slot k))) frame.slots k none below)

    pub fields_of : ((k : ℕ) → k < frame.slots → slot_break frame k (slot k) ≡ None) → fields_break frame slot ≡ None
    fields_of fields = first_none (λ k. in_slot k (slot_break frame k (slot k))) frame.slots
        (λ k below. ap (in_slot k) (fields k below))

    -- no number lies below the floor
    pub first_low : (n : ℕ) → frame.floor ≤ first_of frame.floor (list_below frame slot n)
    first_low n =
        low (list_below frame slot n)
        (each_made (λ m. frame.floor ≤ m.number) (slot_stands frame.floor slot) (slot_message frame.slots slot) n
        (λ k below there. stands_above (is_open (slot k)) frame.floor (slot k).head.number there)) where
          low : (list : List Message) → Each (λ m. frame.floor ≤ m.number) list → frame.floor ≤ first_of frame.floor list
          low [] each = omega arith
          low (x ∷ list) each = each.0

    pub ascending : (k : ℕ) → k ≤ frame.slots → ((j : ℕ) → j < frame.slots → slot_break frame j (slot j) ≡ None) →
        IsAscending (list_below frame slot k)
    ascending zero within fields = tt
    ascending (suc k) within fields =
        ascending_if (slot_stands frame.floor slot k) (slot_message frame.slots slot k) (list_below frame slot k)
        (ascending k (omega (arith, within)) fields)
        (λ there. others frame.slots k (slot_message frame.slots slot k) (list_below frame slot k)
        (stands_good k (slot k) (fields k (omega (arith, within))) there).place
        (each_made (λ y. y.number % frame.slots < k) (slot_stands frame.floor slot) (slot_message frame.slots slot) k
        (λ j below there_j.
        let place : (slot j).head.number % frame.slots ≡ j =
        (stands_good j (slot j) (fields j (omega (arith, below, within))) there_j).place in
        omega (arith, place, below))))

    -- where none stands
    pub none_held : ((k : ℕ) → k < frame.slots → stands_on frame.floor (slot k) ≡ false) →
        list_below frame slot frame.slots ≡ []
    none_held none = none_there (slot_stands frame.floor slot) (slot_message frame.slots slot) frame.slots none

    -- none of a chain stands above it
    module _ (first next : ℕ) (is : IsWhole frame slot first next) where
      pub all_absent : frame.floor ≤ first → (k : ℕ) → k < frame.slots → stands_on next (slot k) ≡ false
      all_absent low k below =
          absent_if (is_open (slot k)) frame.floor next (slot k).head.number
          (omega (arith, low, chain_up first next (list_below frame slot frame.slots) is.kept.chain))
          (λ there.
          let here : IsBetween first next (slot_message frame.slots slot k) =
          within (slot_stands frame.floor slot) (slot_message frame.slots slot) frame.slots first next is.kept k below
          there in
          let some : 1 ≤ width (slot_message frame.slots slot k) = some_width (slot_message frame.slots slot k) in
          omega (arith, here.1, some))
