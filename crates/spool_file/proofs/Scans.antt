-- What the slots that were counted come to.
use Rattle.std.proofs.Common.{◌≡◌, ◌⊎◌, ℕ, zero, suc, ◌+◌, ◌*◌, ◌^◌, ◌<◌, ◌≤◌, ◌==◌, max, nat_lt, Bool, true, false}
use Rattle.std.proofs.Common.{if◌then◌else◌, length, None, refl, sym, ap, subst, ◌∙◌, arith, inl, inr}
use Rattle.std.proofs.lemmas.Bool.{cases_eq}
use Rattle.std.proofs.lemmas.Bool.Decides.{nat_tests}
use Rattle.spool_file.specs.Area.{first_of, put_if}
use Rattle.spool_file.specs.Breaks.{end_break, end_of, greatest_below, list_below, used_below}
use Rattle.spool_file.specs.Reading.{AreAll, HasRoom, counted_if, most_slots, scan_of}
use Rattle.spool_file.specs.Sizes.{slots_for}
use Rattle.spool_file.specs.Slot.{Slot, slot_message, stands_on}
use Rattle.spool_file.specs.declared.slot.Frame.{Frame}
use Rattle.spool_file.specs.declared.slot.SlotHead.{SlotHead}
use Rattle.spool_file.specs.declared.slots.Scan.{Scan}
use Rattle.spool_file.proofs.Gapless.{greatest_ahead}
use Rattle.spool_file.proofs.Lists.{counts_on}
use Rattle.spool_file.proofs.BodySizes.{some_slots}

-- ---- in range

module _ (version k : ℕ) (scan : Scan) (room : HasRoom version k scan) where
  pub used_small : k ≤ 65535 → scan.used ≤ 257 * 65535
  used_small few = by_version (version == 1) room.used where
    by_version : (b : Bool) → scan.used ≤ (if b then 1 else 257) * scan.count → scan.used ≤ 257 * 65535
    by_version true less = omega (arith, less, room.count, few)
    by_version false less = omega (arith, less, room.count, few)

  -- in version 1 each takes one
  pub used_even : version ≡ 1 → scan.used ≡ scan.count
  used_even one =
      let less : scan.used ≤ 1 * scan.count =
      subst (λ (v : ℕ). scan.used ≤ (if v == 1 then 1 else 257) * scan.count) one room.used in
      omega (arith, less, room.some)

  pub used_none : scan.count ≡ 0 → scan.used ≡ 0
  used_none none = by_version (version == 1) room.used where
    by_version : (b : Bool) → scan.used ≤ (if b then 1 else 257) * scan.count → scan.used ≡ 0
    by_version true less = omega (arith, less, none)
    by_version false less = omega (arith, less, none)

  pub counted_room : (b : Bool) (head : SlotHead) → (b ≡ true → slots_for head.len ≤ most_slots version) →
      (b ≡ true → head.number ≤ 2 ^ 63) → HasRoom version (k + 1) (counted_if b scan head)
  counted_room false head size low = record {
    count = omega (arith, room.count);
    least = room.least;
    greatest = room.greatest;
    some = room.some;
    used = room.used;
  }
  counted_room true head size low =
      let some : 1 ≤ slots_for head.len = some_slots head.len in
      let number : head.number ≤ 2 ^ 63 = low refl in
      let takes : slots_for head.len ≤ most_slots version = size refl in
      let more : most_slots version * (scan.count + 1) ≡ most_slots version * scan.count + most_slots version =
      grind arith in
      record {
        count = omega (arith, room.count);
        least = by_test (scan.count == 0) (nat_lt head.number scan.least) number;
        greatest = omega (arith, room.greatest, number);
        some = omega (arith, room.some, some);
        used = omega (arith, room.used, takes, more);
      } where
        by_test : (c d : Bool) → head.number ≤ 2 ^ 63 →
            (if c then head.number else (if d then head.number else scan.least)) ≤ 2 ^ 63
        by_test true d low = low
        by_test false true low = low
        by_test false false low = room.least

module _ (version slots : ℕ) (scan : Scan) (room : HasRoom version slots scan) where
  pub fits_even : version ≡ 1 → AreAll version slots scan
  fits_even one =
      let even = used_even version slots scan room one in
      record {
        least = room.least;
        some = room.some;
        none = used_none version slots scan room;
        even = used_even version slots scan room;
        used = omega (arith, even, room.count);
      }

  pub fits_chain : scan.used ≤ slots → AreAll version slots scan
  fits_chain less = record {
    least = room.least;
    some = room.some;
    none = used_none version slots scan room;
    even = used_even version slots scan room;
    used = less;
  }

-- ---- by the list

pub record IsScan (frame : Frame) (slot : ℕ → Slot) (n : ℕ) (scan : Scan) : Type 0 where
  pub count : scan.count ≡ length (list_below frame slot n)
  pub least : scan.least ≡ first_of frame.floor (list_below frame slot n)
  pub greatest : scan.greatest ≡ greatest_below frame.floor slot n
  pub used : scan.used ≡ used_below frame.floor slot n

module _ (frame : Frame) (slot : ℕ → Slot) where
  scans_on : (k : ℕ) (scan : Scan) (b : Bool) → IsScan frame slot k scan →
      let scan' = counted_if b scan (slot k).head in
      let list' = put_if b (slot_message frame.slots slot k) (list_below frame slot k) in
      (scan'.count ≡ length list') × (scan'.least ≡ first_of frame.floor list')
      × (scan'.greatest ≡ max (greatest_below frame.floor slot k) (if b then (slot k).head.number else 0))
      × (scan'.used ≡ used_below frame.floor slot k + (if b then slots_for (slot k).head.len else 0))
  scans_on k scan true is =
      let on = counts_on frame.floor scan.count scan.least (slot_message frame.slots slot k) (list_below frame slot k)
      is.count is.least in (
        on.0,
        on.1,
        ap (λ (n : ℕ). max n (slot k).head.number) is.greatest,
        ap (λ (n : ℕ). n + slots_for (slot k).head.len) is.used,
      )
  scans_on k scan false is = (
    is.count,
    is.least,
    omega (arith, is.greatest),
    omega (arith, is.used),
  )

  pub scan_is : (n : ℕ) → IsScan frame slot n (scan_of frame.floor slot n)
  scan_is zero = record { count = refl; least = refl; greatest = refl; used = refl }
  scan_is (suc k) =
      let on = scans_on k (scan_of frame.floor slot k) (stands_on frame.floor (slot k)) (scan_is k) in
      record { count = on.0; least = on.1; greatest = on.2; used = on.3 }

  -- where none is used none stands, and the greatest number is 0
  pub none_used : (n : ℕ) → used_below frame.floor slot n ≡ 0 → (k : ℕ) → k < n →
      stands_on frame.floor (slot k) ≡ false
  none_used zero none k below = absurd (omega (arith, below))
  none_used (suc n) none k below =
      let before : used_below frame.floor slot n ≡ 0 = omega (arith, none) in
      let last : (if stands_on frame.floor (slot n) then slots_for (slot n).head.len else 0) ≡ 0 = omega (arith, none) in
      by_place n k (cases_eq k n) below last (none_used n before k) where
        absent : (b : Bool) (slots : ℕ) → 1 ≤ slots → (if b then slots else 0) ≡ 0 → b ≡ false
        absent true slots some none = absurd (omega (arith, some, none))
        absent false slots some none = refl

        by_place : (n k : ℕ) → (k ≡ n) ⊎ (k ≡ n → ⊥) → k < suc n →
            (if stands_on frame.floor (slot n) then slots_for (slot n).head.len else 0) ≡ 0 →
            (k < n → stands_on frame.floor (slot k) ≡ false) → stands_on frame.floor (slot k) ≡ false
        by_place n k (inl same) below last before =
            subst (λ i. stands_on frame.floor (slot i) ≡ false) (sym same)
            (absent (stands_on frame.floor (slot n)) (slots_for (slot n).head.len) (some_slots (slot n).head.len) last)
        by_place n k (inr other) below last before = before (grind (arith, below, other))

  none_greatest : (n : ℕ) → used_below frame.floor slot n ≡ 0 → greatest_below frame.floor slot n ≡ 0
  none_greatest zero none = refl
  none_greatest (suc n) none =
      let before : used_below frame.floor slot n ≡ 0 = omega (arith, none) in
      let rest : greatest_below frame.floor slot n ≡ 0 = none_greatest n before in
      let last : (if stands_on frame.floor (slot n) then (slot n).head.number else 0) ≡ 0 =
      ap (λ (b : Bool). if b then (slot n).head.number else 0) (none_used (suc n) none n (omega arith)) in
      omega (arith, rest, last)

  -- the greatest number is that of a slot that stands
  abbrev Found : (n greatest : ℕ) → Type 0
  Found n greatest = (j : ℕ) × (j < n) × (stands_on frame.floor (slot j) ≡ true) × ((slot j).head.number ≡ greatest)

  by_order : (k greatest number : ℕ) (c : Bool) → nat_lt number greatest ≡ c → number ≡ (slot k).head.number →
      stands_on frame.floor (slot k) ≡ true → (c ≡ true → Found k greatest) → Found (suc k) (max greatest number)
  by_order k greatest number true less is there before =
      let under : number < greatest = grind (arith, nat_tests, less) in
      let r = before refl in (r.0, omega (arith, r.1), r.2, omega (arith, r.3, under))
  by_order k greatest number false more is there before =
      let over : greatest ≤ number = grind (arith, nat_tests, more) in (k, omega arith, there, omega (arith, is, over))

  found_if : (k used : ℕ) (b : Bool) → stands_on frame.floor (slot k) ≡ b → used ≡ used_below frame.floor slot k →
      (0 < used → Found k (greatest_below frame.floor slot k)) →
      0 < used + (if b then slots_for (slot k).head.len else 0) →
      Found (suc k) (max (greatest_below frame.floor slot k) (if b then (slot k).head.number else 0))
  found_if k used false is same before some =
      let r = before (omega (arith, some)) in (r.0, omega (arith, r.1), r.2, omega (arith, r.3))
  found_if k used true is same before some =
      by_order k (greatest_below frame.floor slot k) (slot k).head.number
      (nat_lt (slot k).head.number (greatest_below frame.floor slot k)) refl refl is
      (λ less. before (some_used (used == 0) refl less)) where
        some_used : (c : Bool) → (used == 0) ≡ c →
            nat_lt (slot k).head.number (greatest_below frame.floor slot k) ≡ true → 0 < used
        some_used true none less =
            let zeroed : used ≡ 0 = grind (arith, nat_tests, none) in
            let low : greatest_below frame.floor slot k ≡ 0 = none_greatest k (sym same ∙ zeroed) in
            absurd (grind (arith, nat_tests, less, low))
        some_used false more less = grind (arith, nat_tests, more)

  pub greatest_there : (n : ℕ) → 0 < used_below frame.floor slot n → Found n (greatest_below frame.floor slot n)
  greatest_there zero some = absurd (omega (arith, some))
  greatest_there (suc k) some =
      found_if k (used_below frame.floor slot k) (stands_on frame.floor (slot k)) refl refl (greatest_there k) some

  pub scanned : (n : ℕ) (scan : Scan) → scan ≡ scan_of frame.floor slot n → IsScan frame slot n scan
  scanned n scan is = subst (IsScan frame slot n) (sym is) (scan_is n)

  -- the number behind a list without gaps
  pub end_is : (n : ℕ) (scan : Scan) → IsScan frame slot n scan →
      scan.least + scan.count ≡ end_of frame.floor (list_below frame slot n)
  end_is n scan is =
      ap (λ (least : ℕ). least + scan.count) is.least
      ∙ ap (λ (count : ℕ). first_of frame.floor (list_below frame slot n) + count) is.count

  -- where no slot is ahead the greatest number lies below it
  pub less_than : (scan : Scan) → IsScan frame slot frame.slots scan → end_break frame slot ≡ None →
      (scan.count ≡ 0 → ⊥) → scan.greatest < scan.least + scan.count
  less_than scan is none some =
      let end = end_is frame.slots scan is in
      let more : 0 < scan.count = grind (arith, some) in
      let less = greatest_ahead frame slot frame.slots (end_of frame.floor (list_below frame slot frame.slots))
      (omega (arith, more, end)) none in
      omega (arith, less, is.greatest, end)
