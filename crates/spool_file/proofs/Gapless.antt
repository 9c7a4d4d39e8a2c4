-- That slots which pass the tests of version 1 hold a chain of messages of one slot each, and the other way round.
use Rattle.std.proofs.Common.{◌≡◌, ℕ, zero, suc, ◌+◌, ◌-◌, ◌<◌, ◌≤◌, ◌==◌, ◌&&◌, nat_le, max, Bool, true, false}
use Rattle.std.proofs.Common.{if◌then◌else◌, List, [], ◌∷◌, ◌++◌, length, take, Option, Some, None, refl, sym, ap, subst}
use Rattle.std.proofs.Common.{◌∙◌, arith}
use Rattle.std.proofs.lemmas.Bool.Decides.{nat_tests}
use Rattle.std.proofs.lemmas.List.{length-take}
use Rattle.spool_file.specs.Area.{first_at, first_of, next_of, or_else}
use Rattle.spool_file.specs.Breaks.{ahead_break, area_break, end_break, end_of, fields_break, greatest_below, list_below}
use Rattle.spool_file.specs.Breaks.{slot_stands}
use Rattle.spool_file.specs.Run.{IsChainFrom, IsRunFrom}
use Rattle.spool_file.specs.Sizes.{slots_for}
use Rattle.spool_file.specs.Slot.{Message, Slot, areas_from, in_slot, slot_break, slot_message, stands_on, width}
use Rattle.spool_file.specs.declared.slot.Frame.{Frame}
use Rattle.spool_file.proofs.Areas.{Each, each_made}
use Rattle.spool_file.proofs.Evens.{even_chain, even_width, run_chain}
use Rattle.spool_file.proofs.Firsts.{both_none, first_none, none_below, out_of_slot}
use Rattle.spool_file.proofs.Runs.{IsBetween, chain_next, within}
use Rattle.spool_file.proofs.BodySizes.{within_most}
use Rattle.spool_file.proofs.Sound.{IsAscending, IsGood, IsWhole, area_one, ascending, fields_of, length-below, of_fields}
use Rattle.spool_file.proofs.Sound.{stands_good}

abbrev one_if : Bool → Option ℕ
one_if b = if b then Some 1 else None

ahead_if : (b : Bool) (end number : ℕ) → (b ≡ true → number < end) → one_if (b && nat_le end number) ≡ None
ahead_if true end number less = let h : number < end = less refl in
    let test : nat_le end number ≡ false = grind (arith, nat_tests, h) in
    ap one_if test
ahead_if false end number less = refl

number_if : (b : Bool) (end number : ℕ) → one_if (b && nat_le end number) ≡ None → b ≡ true → number < end
number_if true end number none is = grind (arith, nat_tests, none)
number_if false end number none is = absurd (grind (arith, is))

room : (x : Message) (list : List Message) (end : ℕ) → IsAscending (x ∷ list) → Each (λ y. y.number < end) (x ∷ list) →
    x.number + suc (length list) ≤ end
room x [] end up below = omega (arith, below.0)
room x (y ∷ list) end up below =
    let rest : y.number + suc (length list) ≤ end = room y list end up.1 below.1 in
    let less : x.number < y.number = up.0.0 in
    omega (arith, rest, less)

is_run : (n : ℕ) (list : List Message) → IsAscending list →
    Each (λ y. (n ≤ y.number) × (y.number < n + length list)) list → IsRunFrom n list
is_run n [] up each = tt
is_run n (x ∷ list) up each =
    let r : x.number + suc (length list) ≤ n + suc (length list) =
    room x list (n + suc (length list)) up (uppers n (n + suc (length list)) (x ∷ list) each) in
    let here : x.number ≡ n = omega (arith, r, each.0.0) in
    (here, is_run (n + 1) list up.1 (narrower list list each.1 (subst (λ m. Each (λ y. m < y.number) list) here up.0)))
  where
    uppers : (n end : ℕ) (list : List Message) → Each (λ y. (n ≤ y.number) × (y.number < end)) list →
        Each (λ y. y.number < end) list
    uppers n end [] each = tt
    uppers n end (y ∷ list) each = (each.0.1, uppers n end list each.1)

    narrower : (list all : List Message) → Each (λ y. (n ≤ y.number) × (y.number < n + suc (length all))) list →
        Each (λ y. n < y.number) list →
        Each (λ y. (n + 1 ≤ y.number) × (y.number < n + 1 + length all)) list
    narrower [] all each over = tt
    narrower (y ∷ list) all each over =
        ((omega (arith, over.0), omega (arith, each.0.1)), narrower list all each.1 over.1)

max_less : (a b end : ℕ) → max a b < end → (a < end) × (b < end)
max_less a b end less = (omega (arith, less), omega (arith, less))

-- the first one is the least
least : (floor : ℕ) (list : List Message) → IsAscending list → Each (λ y. y.number < end_of floor list) list →
    Each (λ y. (first_of floor list ≤ y.number) × (y.number < first_of floor list + length list)) list
least floor [] up each = tt
least floor (x ∷ list) up each = ((omega arith, each.0), go list up.0 each.1) where
  go : (all : List Message) → Each (λ y. x.number < y.number) all →
      Each (λ y. y.number < x.number + suc (length list)) all →
      Each (λ y. (x.number ≤ y.number) × (y.number < x.number + suc (length list))) all
  go [] over below = tt
  go (y ∷ all) over below = ((omega (arith, over.0), below.0), go all over.1 below.1)

run_end : (floor first next : ℕ) (list : List Message) → IsChainFrom first next list →
    next ≡ first + length list → (number : ℕ) → first ≤ number → number < next → number < end_of floor list
run_end floor first next [] chain even number from below = absurd (omega (arith, chain, from, below))
run_end floor first next (x ∷ list) chain even number from below = omega (arith, chain.0, even, below)

-- the number behind a chain, also of an empty list
next_is : (floor next : ℕ) (list : List Message) → IsChainFrom (first_of floor list) next list →
    next ≡ next_of floor list
next_is floor next [] chain = sym chain
next_is floor next (x ∷ list) chain = chain_next x.number next (x ∷ list) chain

module _ (frame : Frame) (slot : ℕ → Slot) where
  abbrev list : List Message
  list = list_below frame slot frame.slots

  abbrev ahead : ℕ → ℕ → Option ℕ
  ahead end k = in_slot k (ahead_break frame.floor end (slot k))

  -- ---- numbers below an end

  -- where the greatest number lies below an end, all do
  pub none_ahead : (n end : ℕ) → greatest_below frame.floor slot n < end → first_at (ahead end) n ≡ None
  none_ahead zero end less = refl
  none_ahead (suc k) end less =
      let both = max_less (greatest_below frame.floor slot k)
      (if stands_on frame.floor (slot k) then (slot k).head.number else 0) end less in
      ap (λ (o : Option ℕ). or_else o (ahead end k)) (none_ahead k end both.0)
      ∙ ap (in_slot k) (ahead_if (stands_on frame.floor (slot k)) end (slot k).head.number
      (λ there. subst (λ (b : Bool). (if b then (slot k).head.number else 0) < end) there both.1))

  -- and the other way round
  pub greatest_ahead : (n end : ℕ) → 0 < end → first_at (ahead end) n ≡ None → greatest_below frame.floor slot n < end
  greatest_ahead zero end some none = some
  greatest_ahead (suc k) end some none =
      let both = both_none (first_at (ahead end) k) (ahead end k) none in
      let before : greatest_below frame.floor slot k < end = greatest_ahead k end some both.0 in
      by_test (stands_on frame.floor (slot k)) before
      (λ there. number_if (stands_on frame.floor (slot k)) end (slot k).head.number
      (out_of_slot k (ahead_break frame.floor end (slot k)) both.1) there) where
        by_test : (b : Bool) → greatest_below frame.floor slot k < end → (b ≡ true → (slot k).head.number < end) →
            max (greatest_below frame.floor slot k) (if b then (slot k).head.number else 0) < end
        by_test true before here = let less = here refl in omega (arith, before, less)
        by_test false before here = omega (arith, before)

  -- ---- the tests of version 1

  module _ (one : frame.version ≡ 1) where
    -- the second test comes only where the first one finds nothing
    pub even_fields : (at : ℕ) → fields_break frame slot ≡ Some at → area_break frame slot ≡ Some at
    even_fields at is = area_one frame slot one ∙ ap (λ (o : Option ℕ). or_else o (end_break frame slot)) is

    pub even_numbers : (end : ℕ) (place : Option ℕ) → fields_break frame slot ≡ None → end ≡ end_of frame.floor list →
        first_at (ahead end) frame.slots ≡ place → area_break frame slot ≡ place
    even_numbers end place none is found =
        area_one frame slot one ∙ ap (λ (o : Option ℕ). or_else o (end_break frame slot)) none
        ∙ ap (λ (e : ℕ). first_at (ahead e) frame.slots) (sym is) ∙ found

    pub even_both : area_break frame slot ≡ None → (fields_break frame slot ≡ None) × (end_break frame slot ≡ None)
    even_both none = both_none (fields_break frame slot) (end_break frame slot) (sym (area_one frame slot one) ∙ none)

    -- a body takes one slot
    good_width : (k : ℕ) → IsGood frame k (slot k).head → width (slot_message frame.slots slot k) ≡ 1
    good_width k good =
        let len = (slot k).head.len in
        let further = areas_from frame.slots slot ((slot k).head.number + 1) (slots_for len - 1) in
        let most : len ≤ 4081 = subst (λ (v : ℕ). len ≤ (if v == 1 then 4081 else 1048576)) one
        (within_most frame.version frame.slots len good.short) in
        even_width (take len ((slot k).area ++ further)) (omega (arith, most, length-take len ((slot k).area ++ further)))

    pub each_even : ((j : ℕ) → j < frame.slots → slot_break frame j (slot j) ≡ None) → Each (λ m. width m ≡ 1) list
    each_even fields =
        each_made (λ m. width m ≡ 1) (slot_stands frame.floor slot) (slot_message frame.slots slot) frame.slots
        (λ j below there. good_width j (stands_good frame j (slot j) (fields j below) there))

    pub even_kept : (first next : ℕ) → IsWhole frame slot first next → area_break frame slot ≡ None
    even_kept first next is =
        even_numbers (end_of frame.floor list) None (fields_of frame slot is.fields) refl
        (first_none (ahead (end_of frame.floor list)) frame.slots (λ k below. ap (in_slot k)
        (ahead_if (stands_on frame.floor (slot k)) (end_of frame.floor list) (slot k).head.number (λ there.
        let here : IsBetween first next (slot_message frame.slots slot k) =
        within (slot_stands frame.floor slot) (slot_message frame.slots slot) frame.slots first next is.kept k below
        there in
        let from : first ≤ (slot k).head.number = here.0 in
        let to : (slot k).head.number + width (slot_message frame.slots slot k) ≤ next = here.1 in
        let single : width (slot_message frame.slots slot k) ≡ 1 =
        good_width k (stands_good frame k (slot k) (is.fields k below) there) in
        let even : next ≡ first + length list = even_chain first next list (each_even is.fields) is.kept.chain in
        run_end frame.floor first next list is.kept.chain even (slot k).head.number from (omega (arith, to, single))))))

    -- as many numbers as there are places below an end
    pub kept_even : area_break frame slot ≡ None →
        IsWhole frame slot (first_of frame.floor list) (next_of frame.floor list)
    kept_even none =
        let both = even_both none in
        let fields = of_fields frame slot both.0 in
        let up = ascending frame slot frame.slots (omega arith) fields in
        let first = first_of frame.floor list in
        let run : IsRunFrom first list =
        is_run first list up (least frame.floor list up
        (each_made (λ y. y.number < end_of frame.floor list) (slot_stands frame.floor slot)
        (slot_message frame.slots slot) frame.slots
        (λ k below there.
        number_if (stands_on frame.floor (slot k)) (end_of frame.floor list) (slot k).head.number
        (out_of_slot k (ahead_break frame.floor (end_of frame.floor list) (slot k))
        (none_below (ahead (end_of frame.floor list)) frame.slots k both.1 below)) there))) in
        let chain : IsChainFrom first (first + length list) list = run_chain first list (each_even fields) run in
        let next : first + length list ≡ next_of frame.floor list = next_is frame.floor (first + length list) list chain in
        let few : length list ≤ frame.slots =
        length-below (slot_stands frame.floor slot) (slot_message frame.slots slot) frame.slots in
        record {
          fields = fields;
          kept = record {
            places = λ k below there. (stands_good frame k (slot k) (fields k below) there).place;
            chain = subst (λ (n : ℕ). IsChainFrom first n list) next chain;
          };
          room = omega (arith, few, next);
        }

    -- where none stands nothing is ahead
    pub none_even : ((k : ℕ) → k < frame.slots → stands_on frame.floor (slot k) ≡ false) →
        fields_break frame slot ≡ None → area_break frame slot ≡ None
    none_even absent none =
        even_numbers (end_of frame.floor list) None none refl
        (first_none (ahead (end_of frame.floor list)) frame.slots (λ k below. ap (in_slot k)
        (ahead_if (stands_on frame.floor (slot k)) (end_of frame.floor list) (slot k).head.number
        (λ there. absurd (grind (arith, absent k below, there))))))
