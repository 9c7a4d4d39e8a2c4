-- That slots which pass the tests of version 2 hold a chain of messages, and the other way round.
use Rattle.std.proofs.Common.{◌≡◌, ◌⊎◌, ℕ, zero, suc, ◌+◌, ◌%◌, ◌<◌, ◌≤◌, ◌==◌, ◌&&◌, nat_lt, not, Bool, true, false}
use Rattle.std.proofs.Common.{if◌then◌else◌, List, [], ◌∷◌, Option, Some, None, refl, sym, ap, subst, ◌∙◌, arith, inl, inr}
use Rattle.std.proofs.lemmas.Bool.{cases_eq}
use Rattle.std.proofs.lemmas.Bool.Decides.{nat_tests}
use Rattle.spool_file.specs.Area.{any_below, first_of, messages_below, next_of, or_else, put_by_number, put_if}
use Rattle.spool_file.specs.Breaks.{area_break, chain_break, fields_break, greatest_below, head_end, leads_to, list_below}
use Rattle.spool_file.specs.Breaks.{lone_break, slot_stands, sum_break, used_below}
use Rattle.spool_file.specs.Run.{IsChainFrom}
use Rattle.spool_file.specs.Sizes.{slots_for}
use Rattle.spool_file.specs.Slot.{Message, Slot, in_slot, slot_message, stands_on, width}
use Rattle.spool_file.specs.declared.slot.Frame.{Frame}
use Rattle.spool_file.proofs.Areas.{Each, each_made, each_so, each_there}
use Rattle.spool_file.proofs.Firsts.{any_at, any_found, both_none, first_none, none_below, out_of_slot}
use Rattle.spool_file.proofs.Runs.{chain_total, some_width, total}
use Rattle.spool_file.proofs.Sound.{IsAscending, IsFull, IsWhole, area_two, ascending, fields_of, of_fields, stands_good}
use Rattle.spool_file.proofs.Sound.{width_is}

-- ---- one message of a list

abbrev pub OneOf : (Message → Type 0) → List Message → Type 0
OneOf P [] = ⊥
OneOf P (x ∷ list) = P x ⊎ OneOf P list

-- it ends before a number
abbrev pub LeadsTo : ℕ → Message → Type 0
LeadsTo number m = m.number + width m ≡ number

module _ (P : Message → Type 0) where
  one_put : (m : Message) (list : List Message) → P m → OneOf P (put_by_number m list)
  one_put m [] here = inl here
  one_put m (x ∷ list) here = by_test (nat_lt m.number x.number) (one_put m list here) where
    by_test : (b : Bool) → OneOf P (put_by_number m list) →
        OneOf P (if b then m ∷ x ∷ list else x ∷ put_by_number m list)
    by_test true rest = inl here
    by_test false rest = inr rest

  one_still : (m : Message) (list : List Message) → OneOf P list → OneOf P (put_by_number m list)
  one_still m [] none = absurd none
  one_still m (x ∷ list) is = by_test (nat_lt m.number x.number) is (one_still m list) where
    by_test : (b : Bool) → OneOf P (x ∷ list) → (OneOf P list → OneOf P (put_by_number m list)) →
        OneOf P (if b then m ∷ x ∷ list else x ∷ put_by_number m list)
    by_test true is more = inr is
    by_test false (inl here) more = inl here
    by_test false (inr rest) more = inr (more rest)

  one_if : (b : Bool) (m : Message) (list : List Message) → b ≡ true → P m → OneOf P (put_if b m list)
  one_if true m list is here = one_put m list here
  one_if false m list is here = absurd (grind (arith, is))

  still_if : (b : Bool) (m : Message) (list : List Message) → OneOf P list → OneOf P (put_if b m list)
  still_if true m list is = one_still m list is
  still_if false m list is = is

  one_from_put : (m : Message) (list : List Message) → OneOf P (put_by_number m list) → P m ⊎ OneOf P list
  one_from_put m [] is = is
  one_from_put m (x ∷ list) is = by_test (nat_lt m.number x.number) is (one_from_put m list) where
    by_test : (b : Bool) → OneOf P (if b then m ∷ x ∷ list else x ∷ put_by_number m list) →
        (OneOf P (put_by_number m list) → P m ⊎ OneOf P list) → P m ⊎ OneOf P (x ∷ list)
    by_test true is more = is
    by_test false (inl here) more = inr (inl here)
    by_test false (inr rest) more = by_rest (more rest) where
      by_rest : P m ⊎ OneOf P list → P m ⊎ OneOf P (x ∷ list)
      by_rest (inl here) = inl here
      by_rest (inr later) = inr (inr later)

  module _ (stands : ℕ → Bool) (message : ℕ → Message) where
    one_by : (n k : ℕ) → (k ≡ n) ⊎ (k ≡ n → ⊥) → k < suc n → stands k ≡ true → P (message k) →
        (k < n → OneOf P (messages_below stands message n)) → OneOf P (messages_below stands message (suc n))
    one_by n k (inl same) below there here before =
        one_if (stands n) (message n) (messages_below stands message n) (subst (λ i. stands i ≡ true) same there)
        (subst (λ i. P (message i)) same here)
    one_by n k (inr other) below there here before =
        still_if (stands n) (message n) (messages_below stands message n) (before (grind (arith, below, other)))

    -- that of a slot
    pub one_made : (n k : ℕ) → k < n → stands k ≡ true → P (message k) → OneOf P (messages_below stands message n)
    one_made zero k below there here = absurd (omega (arith, below))
    one_made (suc n) k below there here =
        one_by n k (cases_eq k n) below there here (λ less. one_made n k less there here)

    -- and the other way round
    abbrev Holds : ℕ → Type 0
    Holds n = (k : ℕ) × (k < n) × (stands k ≡ true) × P (message k)

    there_if : (n : ℕ) (b : Bool) → stands n ≡ b → (OneOf P (messages_below stands message n) → Holds n) →
        OneOf P (put_if b (message n) (messages_below stands message n)) → Holds (suc n)
    there_if n false is before one = let r = before one in (r.0, omega (arith, r.1), r.2, r.3)
    there_if n true is before one = by_side (one_from_put (message n) (messages_below stands message n) one) where
      by_side : P (message n) ⊎ OneOf P (messages_below stands message n) → Holds (suc n)
      by_side (inl here) = (n, omega arith, is, here)
      by_side (inr later) = let r = before later in (r.0, omega (arith, r.1), r.2, r.3)

    pub one_there : (n : ℕ) → OneOf P (messages_below stands message n) → Holds n
    one_there zero none = absurd none
    one_there (suc n) one = there_if n (stands n) refl (one_there n) one

-- ---- lists whose messages lead to each other

-- one that leads to a number has a lower one
too_late : (x : ℕ) (list : List Message) → Each (λ y. x < y.number) list → OneOf (LeadsTo x) list → ⊥
too_late x [] over none = none
too_late x (y ∷ list) over (inl leads) = omega (arith, leads, over.0)
too_late x (y ∷ list) over (inr later) = too_late x list over.1 later

-- each has the first number, or one that another leads to
abbrev pub AreLed : ℕ → List Message → List Message → Type 0
AreLed first all list = Each (λ y. (y.number ≡ first) ⊎ OneOf (LeadsTo y.number) all) list

led_first : (first : ℕ) (x : Message) (list : List Message) → Each (λ y. x.number < y.number) list →
    (x.number ≡ first) ⊎ OneOf (LeadsTo x.number) (x ∷ list) → x.number ≡ first
led_first first x list over (inl is) = is
led_first first x list over (inr (inl own)) =
    let some : 1 ≤ width x = some_width x in absurd (omega (arith, own, some))
led_first first x list over (inr (inr later)) = absurd (too_late x.number list over later)

led_rest : (first : ℕ) (x : Message) (all list : List Message) → x.number ≡ first →
    Each (λ y. x.number < y.number) list → AreLed first (x ∷ all) list → AreLed (x.number + width x) all list
led_rest first x all [] is over led = tt
led_rest first x all (y ∷ list) is over led = (by_side led.0, led_rest first x all list is over.1 led.1) where
  by_side : (y.number ≡ first) ⊎ OneOf (LeadsTo y.number) (x ∷ all) →
      (y.number ≡ x.number + width x) ⊎ OneOf (LeadsTo y.number) all
  by_side (inl low) = absurd (omega (arith, low, is, over.0))
  by_side (inr (inl leads)) = inl (sym leads)
  by_side (inr (inr later)) = inr later

-- where numbers go up, they follow one another then
linked : (first : ℕ) (list : List Message) → IsAscending list → AreLed first list list →
    IsChainFrom first (next_of first list) list
linked first [] up led = refl
linked first (x ∷ list) up led =
    let here : x.number ≡ first = led_first first x list up.0 led.0 in (
      here,
      subst (λ (n : ℕ). IsChainFrom (n + width x) (next_of (x.number + width x) list) list) here
          (linked (x.number + width x) list up.1 (led_rest first x list list here up.0 led.1)),
    )

-- and the other way round
links : (first next : ℕ) (list : List Message) → IsChainFrom first next list → AreLed first list list
links first next [] chain = tt
links first next (x ∷ list) chain = (
  inl chain.0,
  each_so (λ y. (y.number ≡ first + width x) ⊎ OneOf (LeadsTo y.number) list)
      (λ y. (y.number ≡ first) ⊎ OneOf (LeadsTo y.number) (x ∷ list)) list by_side
      (links (first + width x) next list chain.1),
) where
  by_side : (y : Message) → (y.number ≡ first + width x) ⊎ OneOf (LeadsTo y.number) list →
      (y.number ≡ first) ⊎ OneOf (LeadsTo y.number) (x ∷ list)
  by_side y (inl is) = inr (inl (omega (arith, is, chain.0)))
  by_side y (inr later) = inr (inr later)

links_first : (floor first next : ℕ) (list : List Message) → IsChainFrom first next list →
    AreLed (first_of floor list) list list
links_first floor first next [] chain = tt
links_first floor first next (x ∷ list) chain =
    subst (λ (n : ℕ). AreLed n (x ∷ list) (x ∷ list)) (sym chain.0) (links first next (x ∷ list) chain)

next_first : (floor : ℕ) (list : List Message) → next_of (first_of floor list) list ≡ next_of floor list
next_first floor [] = refl
next_first floor (x ∷ list) = refl

-- ---- how many numbers messages take

total_put : (m : Message) (list : List Message) → total (put_by_number m list) ≡ width m + total list
total_put m [] = refl
total_put m (x ∷ list) = by_test (nat_lt m.number x.number) (total_put m list) where
  by_test : (b : Bool) → total (put_by_number m list) ≡ width m + total list →
      total (if b then m ∷ x ∷ list else x ∷ put_by_number m list) ≡ width m + (width x + total list)
  by_test true is = refl
  by_test false is = omega (arith, is)

total_if : (b : Bool) (m : Message) (list : List Message) →
    total (put_if b m list) ≡ total list + (if b then width m else 0)
total_if true m list = omega (arith, total_put m list)
total_if false m list = omega arith

-- ---- the tests of one slot

abbrev some_if : Bool → Option ℕ
some_if b = if b then Some 1 else None

lone_of : (a b c : Bool) → some_if ((a && not b) && not c) ≡ None → a ≡ true → (b ≡ true) ⊎ (c ≡ true)
lone_of true true c none is = inl refl
lone_of true false true none is = inr refl
lone_of true false false none is = absurd (grind (arith, none))
lone_of false b c none is = absurd (grind (arith, is))

lone_is : (a b c : Bool) → (a ≡ true → (b ≡ true) ⊎ (c ≡ true)) →
    some_if ((a && not b) && not c) ≡ None
lone_is false b c is = refl
lone_is true true c is = refl
lone_is true false true is = refl
lone_is true false false is = absurd (by_side (is refl)) where
  by_side : (false ≡ true) ⊎ (false ≡ true) → ⊥
  by_side (inl no_first) = grind (arith, no_first)
  by_side (inr no_other) = grind (arith, no_other)

pub both_true : (a b : Bool) → (a && b) ≡ true → (a ≡ true) × (b ≡ true)
both_true true b is = (refl, is)
both_true false b is = absurd (grind (arith, is))

pub and_true : (a b : Bool) → a ≡ true → b ≡ true → (a && b) ≡ true
and_true true b is there = there
and_true false b is there = absurd (grind (arith, is))

same_of : (x y : ℕ) → (x == y) ≡ true → x ≡ y
same_of x y is = grind (arith, nat_tests, is)

same_is : (x y : ℕ) → x ≡ y → (x == y) ≡ true
same_is x y is = grind (arith, nat_tests, is)

sum_of : (b : Bool) (place : Option ℕ) (p : ℕ) → place ≡ Some p → (if b then place else None) ≡ None → b ≡ false
sum_of true place p is none = absurd (grind (arith, is, none))
sum_of false place p is none = refl

sum_none : (b : Bool) (place : Option ℕ) → b ≡ false → (if b then place else None) ≡ None
sum_none true place is = absurd (grind (arith, is))
sum_none false place is = refl

-- ---- the tests of version 2

module _ (frame : Frame) (slot : ℕ → Slot) where
  abbrev list : List Message
  list = list_below frame slot frame.slots

  abbrev least : ℕ
  least = first_of frame.floor list

  -- a slot leads to a number
  pub leads_so : (number : ℕ) (here : Slot) → leads_to frame.floor number here ≡ true →
      (stands_on frame.floor here ≡ true) × (head_end here.head ≡ number)
  leads_so number here is =
      let both = both_true (stands_on frame.floor here) (head_end here.head == number) is in
      (both.0, same_of (head_end here.head) number both.1)

  pub so_leads : (number : ℕ) (here : Slot) → stands_on frame.floor here ≡ true → head_end here.head ≡ number →
      leads_to frame.floor number here ≡ true
  so_leads number here there is =
      and_true (stands_on frame.floor here) (head_end here.head == number) there
      (same_is (head_end here.head) number is)

  pub sum_less : sum_break frame slot ≡ None → used_below frame.floor slot frame.slots ≤ frame.slots
  sum_less none =
      let used = used_below frame.floor slot frame.slots in
      of_test used (sum_of (nat_lt frame.slots used)
      (in_slot (greatest_below frame.floor slot frame.slots % frame.slots) (Some 11)) _ refl none) where
        of_test : (used : ℕ) → nat_lt frame.slots used ≡ false → used ≤ frame.slots
        of_test used is = grind (arith, nat_tests, is)

  pub less_sum : used_below frame.floor slot frame.slots ≤ frame.slots → sum_break frame slot ≡ None
  less_sum less =
      let used = used_below frame.floor slot frame.slots in
      sum_none (nat_lt frame.slots used) (in_slot (greatest_below frame.floor slot frame.slots % frame.slots) (Some 11))
      (of_less used less) where
        of_less : (used : ℕ) → used ≤ frame.slots → nat_lt frame.slots used ≡ false
        of_less used less = grind (arith, nat_tests, less)

  pub chain_parts : frame.version ≡ 2 → area_break frame slot ≡ None → (fields_break frame slot ≡ None)
      × (chain_break frame slot ≡ None) × (sum_break frame slot ≡ None)
  chain_parts two none =
      let first = both_none (fields_break frame slot) (or_else (chain_break frame slot) (sum_break frame slot))
      (sym (area_two frame slot two) ∙ none) in
      let rest = both_none (chain_break frame slot) (sum_break frame slot) first.1 in (first.0, rest.0, rest.1)

  module _ (full : IsFull slot frame.slots) (some : 0 < frame.slots) where
    wide : (k : ℕ) → k < frame.slots → width (slot_message frame.slots slot k) ≡ slots_for (slot k).head.len
    wide k below = width_is slot frame.slots full some k below

    pub total_below : (k : ℕ) → k ≤ frame.slots → total (list_below frame slot k) ≡ used_below frame.floor slot k
    total_below zero less = refl
    total_below (suc k) less =
        total_if (stands_on frame.floor (slot k)) (slot_message frame.slots slot k) (list_below frame slot k)
        ∙ ap (λ (n : ℕ). n + (if stands_on frame.floor (slot k) then width (slot_message frame.slots slot k) else 0))
        (total_below k (omega (arith, less)))
        ∙ ap (λ (n : ℕ). used_below frame.floor slot k + (if stands_on frame.floor (slot k) then n else 0))
        (wide k (omega (arith, less)))

    module _ (two : frame.version ≡ 2) where
      led_at : chain_break frame slot ≡ None → (k : ℕ) → k < frame.slots → stands_on frame.floor (slot k) ≡ true →
          ((slot k).head.number ≡ least) ⊎ OneOf (LeadsTo (slot k).head.number) list
      led_at none k below there =
          by_side (lone_of (stands_on frame.floor (slot k)) ((slot k).head.number == least)
          (any_below (λ j. leads_to frame.floor (slot k).head.number (slot j)) frame.slots)
          (out_of_slot k (lone_break frame slot least (slot k))
          (none_below (λ k. in_slot k (lone_break frame slot least (slot k))) frame.slots k none below)) there) where
            by_side : (((slot k).head.number == least) ≡ true)
                ⊎ (any_below (λ j. leads_to frame.floor (slot k).head.number (slot j)) frame.slots ≡ true) →
                ((slot k).head.number ≡ least) ⊎ OneOf (LeadsTo (slot k).head.number) list
            by_side (inl is) = inl (same_of (slot k).head.number least is)
            by_side (inr is) =
                let j = any_found (λ j. leads_to frame.floor (slot k).head.number (slot j)) frame.slots is in
                let so = leads_so (slot k).head.number (slot j.0) j.2 in
                inr (one_made (LeadsTo (slot k).head.number) (slot_stands frame.floor slot)
                (slot_message frame.slots slot) frame.slots j.0 j.1 so.0
                (ap (λ (n : ℕ). (slot j.0).head.number + n) (wide j.0 j.1) ∙ so.1))

      pub kept_chain : area_break frame slot ≡ None → IsWhole frame slot least (next_of frame.floor list)
      kept_chain none =
          let parts = chain_parts two none in
          let fields = of_fields frame slot parts.0 in
          let up = ascending frame slot frame.slots (omega arith) fields in
          let led = each_made (λ y. (y.number ≡ least) ⊎ OneOf (LeadsTo y.number) list)
          (slot_stands frame.floor slot) (slot_message frame.slots slot) frame.slots
          (λ k below there. led_at parts.1 k below there) in
          let chain : IsChainFrom least (next_of least list) list = linked least list up led in
          let less : used_below frame.floor slot frame.slots ≤ frame.slots = sum_less parts.2 in
          record {
            fields = fields;
            kept = record {
              places = λ k below there. (stands_good frame k (slot k) (fields k below) there).place;
              chain = subst (λ (n : ℕ). IsChainFrom least n list) (next_first frame.floor list) chain;
            };
            room = omega (
              arith,
              next_first frame.floor list,
              chain_total least (next_of least list) list chain,
              total_below frame.slots (omega arith),
              less,
            );
          }

      module _ (first next : ℕ) (is : IsWhole frame slot first next) where
        led_there : (k : ℕ) → k < frame.slots → stands_on frame.floor (slot k) ≡ true →
            ((slot k).head.number ≡ least) ⊎ OneOf (LeadsTo (slot k).head.number) list
        led_there k below there =
            each_there (λ y. (y.number ≡ least) ⊎ OneOf (LeadsTo y.number) list) (slot_stands frame.floor slot)
            (slot_message frame.slots slot) frame.slots k (links_first frame.floor first next list is.kept.chain) below
            there

        not_lone : (k : ℕ) → k < frame.slots → lone_break frame slot least (slot k) ≡ None
        not_lone k below =
            lone_is (stands_on frame.floor (slot k)) ((slot k).head.number == least)
            (any_below (λ j. leads_to frame.floor (slot k).head.number (slot j)) frame.slots)
            (λ there. by_side (led_there k below there)) where
              by_side : ((slot k).head.number ≡ least) ⊎ OneOf (LeadsTo (slot k).head.number) list →
                  (((slot k).head.number == least) ≡ true)
                  ⊎ (any_below (λ j. leads_to frame.floor (slot k).head.number (slot j)) frame.slots ≡ true)
              by_side (inl is) = inl (same_is (slot k).head.number least is)
              by_side (inr is) =
                  let j = one_there (LeadsTo (slot k).head.number) (slot_stands frame.floor slot)
                  (slot_message frame.slots slot) frame.slots is in
                  inr (any_at (λ j. leads_to frame.floor (slot k).head.number (slot j)) frame.slots j.0 j.1
                  (so_leads (slot k).head.number (slot j.0) j.2
                  (ap (λ (n : ℕ). (slot j.0).head.number + n) (sym (wide j.0 j.1)) ∙ j.3)))

        pub chain_kept : area_break frame slot ≡ None
        chain_kept =
            let used : used_below frame.floor slot frame.slots ≤ frame.slots =
            omega (arith, chain_total first next list is.kept.chain, total_below frame.slots (omega arith), is.room) in
            area_two frame slot two
            ∙ ap (λ (o : Option ℕ). or_else o (or_else (chain_break frame slot) (sum_break frame slot)))
            (fields_of frame slot is.fields)
            ∙ ap (λ (o : Option ℕ). or_else o (sum_break frame slot))
            (first_none (λ k. in_slot k (lone_break frame slot least (slot k))) frame.slots
            (λ k below. ap (in_slot k) (not_lone k below)))
            ∙ less_sum used
