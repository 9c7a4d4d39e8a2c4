-- A window over the last slots tells whether a message follows another.
use Rattle.std.proofs.Common.{◌≡◌, ◌⊎◌, ℕ, ◌+◌, ◌-◌, ◌*◌, ◌/◌, ◌%◌, ◌<◌, ◌≤◌, ◌==◌, ◌&&◌, nat_le, not}
use Rattle.std.proofs.Common.{min, Bool, true, false, if◌then◌else◌, List, length, get_or, replicate, Option, Some, None}
use Rattle.std.proofs.Common.{refl, sym, ap, subst, ◌∙◌, arith, inl, inr}
use Rattle.std.proofs.Math.ListN.{set}
use Rattle.std.proofs.Math.Nat.{add-mod_right, add-mul-mod_self_right, mod-eq_of_lt}
use Rattle.std.proofs.lemmas.Bool.{cases_eq}
use Rattle.std.proofs.lemmas.Bool.Decides.{nat_tests}
use Rattle.std.proofs.lemmas.List.{get_or-replicate, get_or-set_other, get_or-set_same, length-replicate, length-set}
use Rattle.std.proofs.lemmas.List.Folds.{Any-from_list_any, list_any_at}
use Rattle.std.proofs.lemmas.Nat.{div-add-mod', mod_below}
use Rattle.spool_file.specs.Area.{any_below, first_at}
use Rattle.spool_file.specs.Breaks.{head_end, leads_to, lone_break}
use Rattle.spool_file.specs.Chain.{LoneIs, is_led, lead_of, lone_by, no_number}
use Rattle.spool_file.specs.Reads.{look_back, slot_behind}
use Rattle.spool_file.specs.Sizes.{slots_for}
use Rattle.spool_file.specs.Slot.{Slot, in_slot, slot_break, stands_on}
use Rattle.spool_file.specs.declared.slot.Frame.{Frame}
use Rattle.spool_file.proofs.Chains.{leads_so, so_leads}
use Rattle.spool_file.proofs.Firsts.{any_at, any_found, first_found, first_next}
use Rattle.spool_file.proofs.Runs.{places_differ}
use Rattle.spool_file.proofs.BodySizes.{some_slots, within_all, within_slots}
use Rattle.spool_file.proofs.Sound.{IsGood, stands_good}

-- ---- the slots in the order of the pass

module _ (slots : ℕ) (some : 1 ≤ slots) where
  -- behind the last ones come all, from the first on
  pub slot_of_place : (place k : ℕ) → place ≡ k + look_back slots → k < slots → slot_behind slots place ≡ k
  slot_of_place place k is below =
      let more : place + (slots - look_back slots) ≡ k + slots = omega (arith, is) in
      ap (λ (n : ℕ). n % slots) more ∙ add-mod_right k slots ∙ mod-eq_of_lt below

  -- a number that lies so far before that of a slot is in the slot as far before it
  pub slot_before : (number size k : ℕ) → size ≤ look_back slots → (number + size) % slots ≡ k →
      slot_behind slots (k + look_back slots - size) ≡ number % slots
  slot_before number size k near is =
      let a = (number + size) / slots in
      let whole : a * slots + (number + size) % slots ≡ number + size = div-add-mod' (number + size) slots in
      let place : k + look_back slots - size + (slots - look_back slots) ≡ k + (slots - size) = omega (arith, near) in
      let both : k + (slots - size) + a * slots ≡ number + slots = omega (arith, whole, is, near) in
      ap (λ (n : ℕ). n % slots) place ∙ sym (add-mul-mod_self_right (k + (slots - size)) a slots)
      ∙ ap (λ (n : ℕ). n % slots) both ∙ add-mod_right number slots

-- ---- the window

-- what it holds at a place: of each of the last slots the number behind its message, and of no slot any other
pub record IsWindow (frame : Frame) (slot : ℕ → Slot) (leads : List ℕ) (place : ℕ) : Type 0 where
  pub long : length leads ≡ 257
  pub each : (i d : ℕ) → i < 257 → (get_or leads i d ≡ no_number)
      ⊎ ((j : ℕ) × (j < frame.slots) × (get_or leads i d ≡ lead_of frame.floor (slot j)))
  pub last : (q d : ℕ) → q < place → place ≤ q + 257 →
      get_or leads (q % 257) d ≡ lead_of frame.floor (slot (slot_behind frame.slots q))

module _ (frame : Frame) (slot : ℕ → Slot) where
  pub no_window : IsWindow frame slot (replicate 257 no_number) 0
  no_window = record {
    long = length-replicate 257 no_number;
    each = λ i d below. inl (get_or-replicate 257 i no_number d below);
    last = λ q d below near. absurd (omega (arith, below));
  }

  -- one slot more
  module _ (leads : List ℕ) (place lead : ℕ) (is : IsWindow frame slot leads place)
      (here : slot_behind frame.slots place < frame.slots)
      (lead_is : lead ≡ lead_of frame.floor (slot (slot_behind frame.slots place))) where
    abbrev at : ℕ
    at = place % 257

    within : at < length leads
    within = let below = mod_below place 257 (omega arith) in omega (arith, below, is.long)

    each_by : (i d : ℕ) → i < 257 → (i ≡ at) ⊎ (i ≡ at → ⊥) → (get_or (set leads at lead) i d ≡ no_number)
        ⊎ ((j : ℕ) × (j < frame.slots) × (get_or (set leads at lead) i d ≡ lead_of frame.floor (slot j)))
    each_by i d below (inl same) =
        inr (
          slot_behind frame.slots place,
          here,
          ap (λ (n : ℕ). get_or (set leads at lead) n d) same ∙ get_or-set_same leads at lead d within ∙ lead_is,
        )
    each_by i d below (inr other) =
        subst (λ (n : ℕ). (n ≡ no_number) ⊎ ((j : ℕ) × (j < frame.slots) × (n ≡ lead_of frame.floor (slot j))))
        (sym (get_or-set_other leads at i lead d other)) (is.each i d below)

    last_by : (q d : ℕ) → q < place + 1 → place + 1 ≤ q + 257 → (q ≡ place) ⊎ (q ≡ place → ⊥) →
        get_or (set leads at lead) (q % 257) d ≡ lead_of frame.floor (slot (slot_behind frame.slots q))
    last_by q d below near (inl same) =
        ap (λ (n : ℕ). get_or (set leads at lead) (n % 257) d) same ∙ get_or-set_same leads at lead d within ∙ lead_is
        ∙ ap (λ (n : ℕ). lead_of frame.floor (slot (slot_behind frame.slots n))) (sym same)
    last_by q d below near (inr other) =
        let less : q < place = grind (arith, below, other) in
        get_or-set_other leads at (q % 257) lead d
        (places_differ q place q 257 (omega arith) (omega arith) (omega (arith, less)) (omega (arith, near)) other)
        ∙ is.last q d less (omega (arith, near))

    pub one_noted : IsWindow frame slot (set leads at lead) (place + 1)
    one_noted = record {
      long = length-set leads at lead ∙ is.long;
      each = λ i d below. each_by i d below (cases_eq i at);
      last = λ q d below near. last_by q d below near (cases_eq q place);
    }

-- where a slot is alone, as a place in the file
abbrev pub lone : Frame → (ℕ → Slot) → (least k : ℕ) → Option ℕ
lone frame slot least k = in_slot k (lone_break frame slot least (slot k))

-- ---- what it tells

same_truth : (a b : Bool) → (a ≡ true → b ≡ true) → (b ≡ true → a ≡ true) → a ≡ b
same_truth true b to from = sym (to refl)
same_truth false true to from = from refl
same_truth false false to from = refl

abbrev one_if : Bool → Option ℕ
one_if b = if b then Some 1 else None

same_if : (a b c d : Bool) → (a ≡ true → c ≡ d) → one_if (a && not b && not c) ≡ one_if (a && not b && not d)
same_if true b c d same = ap (λ (e : Bool). one_if (true && not b && not e)) (same refl)
same_if false b c d same = refl

lead_if : (b : Bool) (end number : ℕ) → number < no_number →
    (if b then min end no_number else no_number) ≡ number → (b ≡ true) × (end ≡ number)
lead_if true end number low is = (refl, omega (arith, is, low))
lead_if false end number low is = absurd (omega (arith, is, low))

if_lead : (b : Bool) (end number : ℕ) → number < no_number → b ≡ true → end ≡ number →
    (if b then min end no_number else no_number) ≡ number
if_lead true end number low there is = omega (arith, is, low)
if_lead false end number low there is = absurd (grind (arith, there))

same_number : (x y : ℕ) → (x == y) ≡ true → x ≡ y
same_number x y is = grind (arith, nat_tests, is)

number_same : (x y : ℕ) → x ≡ y → (x == y) ≡ true
number_same x y is = grind (arith, nat_tests, is)

module _ (frame : Frame) (slot : ℕ → Slot) (some : 1 ≤ frame.slots)
    (fields : (k : ℕ) → k < frame.slots → slot_break frame k (slot k) ≡ None) (least : ℕ) where
  good : (k : ℕ) → k < frame.slots → stands_on frame.floor (slot k) ≡ true → IsGood frame k (slot k).head
  good k below there = stands_good frame k (slot k) (fields k below) there

  low : (k : ℕ) → k < frame.slots → stands_on frame.floor (slot k) ≡ true → (slot k).head.number < no_number
  low k below there = omega (arith, (good k below there).number)

  module _ (leads : List ℕ) (k place : ℕ) (below : k < frame.slots) (is : place ≡ k + look_back frame.slots)
      (window : IsWindow frame slot leads place) (there : stands_on frame.floor (slot k) ≡ true) where
    abbrev number : ℕ
    number = (slot k).head.number

    abbrev led : Bool
    led = any_below (λ j. leads_to frame.floor number (slot j)) frame.slots

    to_slots : is_led leads number ≡ true → led ≡ true
    to_slots found =
        let x = Any-from_list_any (λ (lead : ℕ). lead == number) leads found in
        let value : get_or leads x.0 x.1 ≡ number = x.3 ∙ same_number x.1 number x.4 in
        by_side value (window.each x.0 x.1 (omega (arith, x.2, window.long))) where
          by_side : {n : ℕ} → n ≡ number →
              (n ≡ no_number) ⊎ ((j : ℕ) × (j < frame.slots) × (n ≡ lead_of frame.floor (slot j))) → led ≡ true
          by_side value (inl none) = absurd (omega (arith, value, none, low k below there))
          by_side value (inr j) =
              let so = lead_if (stands_on frame.floor (slot j.0)) (head_end (slot j.0).head) number (low k below there)
              (sym j.2 ∙ value) in
              any_at (λ j. leads_to frame.floor number (slot j)) frame.slots j.0 j.1
              (so_leads frame slot number (slot j.0) so.0 so.1)

    to_window : led ≡ true → is_led leads number ≡ true
    to_window found =
        let j = any_found (λ j. leads_to frame.floor number (slot j)) frame.slots found in
        let so = leads_so frame slot number (slot j.0) j.2 in
        let g = good j.0 j.1 so.0 in
        let len = (slot j.0).head.len in
        let size = slots_for len in
        let least_size : 1 ≤ size = some_slots len in
        let near : size ≤ look_back frame.slots =
        omega (arith, within_all frame.version frame.slots len g.short, within_slots frame.version frame.slots len g.short) in
        let q = k + look_back frame.slots - size in
        let q_is : slot_behind frame.slots q ≡ j.0 =
        slot_before frame.slots some (slot j.0).head.number size k near
        (ap (λ (n : ℕ). n % frame.slots) so.1 ∙ (good k below there).place) ∙ g.place in
        let window_size : look_back frame.slots ≤ 257 = omega arith in
        let value : get_or leads (q % 257) 0 ≡ number =
        window.last q 0 (omega (arith, is, near, least_size)) (omega (arith, is, near, window_size))
        ∙ ap (λ (i : ℕ). lead_of frame.floor (slot i)) q_is
        ∙ if_lead (stands_on frame.floor (slot j.0)) (head_end (slot j.0).head) number (low k below there) so.0 so.1 in
        let at : q % 257 < 257 = mod_below q 257 (omega arith) in
        list_any_at (λ (lead : ℕ). lead == number) leads (q % 257) 0 (omega (arith, at, window.long))
        (number_same (get_or leads (q % 257) 0) number value)

    same_led : is_led leads number ≡ led
    same_led = same_truth (is_led leads number) led to_slots to_window

  -- a slot in its turn is alone in the window exactly where it is
  pub same_lone : (leads : List ℕ) (k place : ℕ) → k < frame.slots → place ≡ k + look_back frame.slots →
      IsWindow frame slot leads place →
      lone_by frame.floor least leads (slot k) ≡ lone_break frame slot least (slot k)
  same_lone leads k place below is window =
      same_if (stands_on frame.floor (slot k)) ((slot k).head.number == least) (is_led leads (slot k).head.number)
      (any_below (λ j. leads_to frame.floor (slot k).head.number (slot j)) frame.slots)
      (same_led leads k place below is window)

  -- ---- the pass

  pub turn_of : (place : ℕ) → place < frame.slots + look_back frame.slots → look_back frame.slots ≤ place →
      (place - look_back frame.slots < frame.slots) × (place ≡ place - look_back frame.slots + look_back frame.slots)
  turn_of place below turn = (omega (arith, below, turn), omega (arith, turn))

  -- a slot that wasn't alone, where it was its turn
  pub passed_on : (leads : List ℕ) (place : ℕ) (tested : Bool) → tested ≡ nat_le (look_back frame.slots) place →
      place < frame.slots + look_back frame.slots → IsWindow frame slot leads place →
      LoneIs frame.floor least tested leads (slot (slot_behind frame.slots place)) None →
      first_at (lone frame slot least) (place - look_back frame.slots) ≡ None → first_at (lone frame slot least) (place + 1 - look_back frame.slots) ≡ None
  passed_on leads place true turn below window alone before =
      let from : look_back frame.slots ≤ place = grind (arith, nat_tests, turn) in
      let k = place - look_back frame.slots in
      let at = turn_of place below from in
      let here : slot_behind frame.slots place ≡ k = slot_of_place frame.slots some place k at.1 at.0 in
      let more : k + 1 ≡ place + 1 - look_back frame.slots = omega (arith, from) in
      subst (λ n. first_at (lone frame slot least) n ≡ None) more
      (first_next (lone frame slot least) k before
      (ap (in_slot k) (sym (same_lone leads k place at.0 at.1 window)
      ∙ subst (λ j. lone_by frame.floor least leads (slot j) ≡ None) here alone)))
  passed_on leads place false turn below window alone before =
      let under : place < look_back frame.slots = grind (arith, nat_tests, turn) in
      let same : place - look_back frame.slots ≡ place + 1 - look_back frame.slots = omega (arith, under) in
      subst (λ n. first_at (lone frame slot least) n ≡ None) same before

  -- and one that was: it is the first
  pub broken_in_turn : (leads : List ℕ) (place at : ℕ) (tested : Bool) → tested ≡ nat_le (look_back frame.slots) place →
      tested ≡ true → place < frame.slots + look_back frame.slots → IsWindow frame slot leads place →
      in_slot (slot_behind frame.slots place)
      (lone_by frame.floor least leads (slot (slot_behind frame.slots place))) ≡ Some at →
      first_at (lone frame slot least) (place - look_back frame.slots) ≡ None →
      first_at (lone frame slot least) frame.slots ≡ Some at
  broken_in_turn leads place at tested turn is_tested below window found before =
      let from : look_back frame.slots ≤ place = grind (arith, nat_tests, turn, is_tested) in
      let k = place - look_back frame.slots in
      let in_turn = turn_of place below from in
      let here : slot_behind frame.slots place ≡ k = slot_of_place frame.slots some place k in_turn.1 in_turn.0 in
      first_found (lone frame slot least) k frame.slots at in_turn.0 before
      (ap (in_slot k) (sym (same_lone leads k place in_turn.0 in_turn.1 window))
      ∙ subst (λ j. in_slot j (lone_by frame.floor least leads (slot j)) ≡ Some at) here found)
