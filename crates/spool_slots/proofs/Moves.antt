-- What the bytes stand for where slots of a sound file are written.
use Rattle.std.proofs.Common.{◌≡◌, ◌⊎◌, ℕ, ◌+◌, ◌%◌, ◌<◌, ◌≤◌, ◌==◌, ◌&&◌, nat_le, Bool, true, false, if◌then◌else◌, List, [], ◌∷◌}
use Rattle.std.proofs.Common.{◌++◌, length, drop, None, refl, sym, ap, subst, ◌∙◌, arith, inl, inr}
use Rattle.std.proofs.Math.ListN.{set}
use Rattle.std.proofs.lemmas.Bool.{cases_eq}
use Rattle.std.proofs.lemmas.Bool.Decides.{nat_tests}
use Rattle.disk_base.specs.Story.{with_part}
use Rattle.disk_base.proofs.Marks.{length-part}
use Rattle.gate_cell.specs.Cell.{Cell, cell_in}
use Rattle.spool_file.specs.Area.{first_of, next_of}
use Rattle.spool_file.specs.Breaks.{list_below, slot_stands}
use Rattle.spool_file.specs.File.{StandsFor, file_in, frame_in, gates_below, slots_in, spool_break, version_in}
use Rattle.spool_file.specs.Front.{floor_cell, front_break, front_in, front_size, mark_cell, slots_of, version_of}
use Rattle.spool_file.specs.Run.{IsChainFrom}
use Rattle.spool_file.specs.Setup.{Setup, setup_in}
use Rattle.spool_file.specs.Sizes.{slots_for}
use Rattle.spool_file.specs.Slot.{Message, Slot, head_break, is_open, slot_break, slot_in, slot_message, slot_place}
use Rattle.spool_file.specs.Slot.{stands_on, width}
use Rattle.spool_file.specs.declared.slot.Frame.{Frame}
use Rattle.spool_file.proofs.Areas.{IsSameAt}
use Rattle.spool_file.proofs.Fresh.{made_file}
use Rattle.spool_file.proofs.Fronts.{front_cell, made_frame, version_either}
use Rattle.spool_file.proofs.Gates.{closed_absent, one_gate, same_gates}
use Rattle.spool_file.proofs.Others.{IsOfRow, list_stays, message_same, whole_stays}
use Rattle.spool_file.proofs.Runs.{IsKept, chain_up}
use Rattle.spool_file.proofs.Setups.{setup_beside}
use Rattle.spool_file.proofs.Sound.{IsFull, IsWhole, absent_none, good_is, good_none, width_is}
use Rattle.spool_file.proofs.Wholes.{full_in, kept_area, sound_front, sound_kept, sound_slots, spool_sound}
use Rattle.spool_file.proofs.Written.{front_beside, gate_written, others_stay}
use Rattle.spool_slots.specs.Files.{dropped_in, sealed_in, with_gates, with_setup}
use Rattle.spool_slots.proofs.Changes.{closes, closes_kept, opens, opens_kept, same_kept, same_list}

-- the same front has the same cells
same_cell : (bytes image : List ℕ) (at : ℕ) → at + 17 ≤ front_size → front_in image ≡ front_in bytes →
    cell_in image at ≡ cell_in bytes at
same_cell bytes image at within same =
    front_cell at front_size image within
    ∙ ap (λ (f : List ℕ). cell_in f at) same
    ∙ sym (front_cell at front_size bytes within)

-- a sound file
module _ (bytes : List ℕ) (frame : Frame) (frame_is : frame ≡ frame_in bytes) (first next : ℕ)
    (sound : spool_break bytes ≡ None) (low : frame.floor ≤ first)
    (chain : IsChainFrom first next (file_in bytes).list) (room : next ≤ first + frame.slots) where
  abbrev old : ℕ → Slot
  old = slot_in bytes

  abbrev slots : ℕ
  slots = frame.slots

  slots_are : slots ≡ slots_in bytes
  slots_are = ap (λ (f : Frame). f.slots) frame_is

  pub inside : slot_place slots ≤ length bytes
  inside = subst (λ n. slot_place n ≤ length bytes) (sym slots_are) (sound_slots bytes sound).fits

  pub some : 1 ≤ slots
  some = subst (λ n. 1 ≤ n) (sym slots_are) (sound_slots bytes sound).some

  pub full : IsFull old slots
  full = full_in bytes slots inside

  version : (frame.version ≡ 1) ⊎ (frame.version ≡ 2)
  version = subst (λ (f : Frame). (f.version ≡ 1) ⊎ (f.version ≡ 2)) (sym frame_is) (version_either (front_in bytes))

  pub listed : (file_in bytes).list ≡ list_below frame old slots
  listed = ap (λ (f : Frame). list_below f old f.slots) (sym frame_is)

  gated : (file_in bytes).gates ≡ gates_below old slots
  gated = ap (λ (n : ℕ). gates_below old n) (sym slots_are)

  from : first ≤ next
  from = let up = chain_up first next (file_in bytes).list chain in omega (arith, up)

  pub whole : IsWhole frame old first next
  whole =
      let is = subst (λ (f : Frame). IsWhole f old (first_of f.floor (list_below f old f.slots))
      (next_of f.floor (list_below f old f.slots))) (sym frame_is) (sound_kept bytes sound) in
      record {
        fields = is.fields;
        kept = record { places = is.kept.places; chain = subst (IsChainFrom first next) listed chain };
        room = room;
      }

  -- bytes with the same front whose slots hold a chain
  pub stands_now : (image : List ℕ) (first' next' : ℕ) (gates : List Bool) (setup : Setup) (list : List Message) →
      front_in image ≡ front_in bytes → length image ≡ length bytes → setup_in image ≡ setup →
      IsWhole frame (slot_in image) first' next' →
      gates_below (slot_in image) slots ≡ gates → list_below frame (slot_in image) slots ≡ list →
      StandsFor image (made_file setup (version_in bytes) (slots_in bytes) gates (cell_in bytes mark_cell)
      (cell_in bytes floor_cell) list)
  stands_now image first' next' gates setup list same long setup_is is gates_are list_is =
      let floor = same_cell bytes image floor_cell (omega arith) same in
      let frame_now : frame ≡ frame_in image =
      frame_is
      ∙ ap (λ (f : List ℕ). made_frame (version_of f) (slots_of f) (cell_in bytes floor_cell).value) (sym same)
      ∙ ap (λ (c : Cell). made_frame (version_in image) (slots_in image) c.value) (sym floor) in
      let here = cell_in bytes mark_cell in
      let there = cell_in bytes floor_cell in
      let inside_now : slot_place slots ≤ length image = omega (arith, inside, long) in
      record {
        sound = spool_sound image frame
            (ap (λ (f : List ℕ). front_break f (length image)) same
            ∙ ap (λ (n : ℕ). front_break (front_in bytes) n) long ∙ sound_front bytes sound) frame_now
            (kept_area frame (slot_in image) version (full_in image slots inside_now) some first' next' is);
        is =
            ap (λ (u : Setup). made_file u (version_in bytes) (slots_in bytes) gates here there list) (sym setup_is)
            ∙ ap (λ (f : List ℕ). made_file (setup_in image) (version_of f) (slots_of f) gates here there list) (sym same)
            ∙ ap (λ (g : List Bool). made_file (setup_in image) (version_in image) (slots_in image) g here there list)
            (sym gates_are ∙ ap (λ (f : Frame). gates_below (slot_in image) f.slots) frame_now)
            ∙ ap (λ (c : Cell). made_file (setup_in image) (version_in image) (slots_in image) (file_in image).gates c there list)
            (sym (same_cell bytes image mark_cell (omega arith) same))
            ∙ ap (λ (c : Cell). made_file (setup_in image) (version_in image) (slots_in image) (file_in image).gates
            (cell_in image mark_cell) c list) (sym floor)
            ∙ ap (λ (l : List Message). made_file (setup_in image) (version_in image) (slots_in image) (file_in image).gates
            (cell_in image mark_cell) (cell_in image floor_cell) l)
            (sym list_is ∙ ap (λ (f : Frame). list_below f (slot_in image) f.slots) frame_now);
      }

  -- the same slots, and another setup
  pub setup_stands : (image : List ℕ) (setup : Setup) → front_in image ≡ front_in bytes → length image ≡ length bytes →
      setup_in image ≡ setup → ((k : ℕ) → k < slots → slot_in image k ≡ old k) →
      StandsFor image (with_setup setup (file_in bytes))
  setup_stands image setup same long is slots_same =
      stands_now image first next (file_in bytes).gates setup (file_in bytes).list same long is
      (whole_stays frame old (slot_in image) first next 0 some full whole (omega (arith, room)) from
      (λ k below none. slots_same k below) (λ k below row. absurd (omega (arith, row.1)))
      (λ k below row. absurd (omega (arith, row.1))))
      (same_gates old (slot_in image) slots (λ k below. ap is_open (slots_same k below)) ∙ sym gated)
      (list_stays frame old (slot_in image) first next 0 some full whole (omega (arith, room)) from
      (λ k below none. slots_same k below) (λ k below row. absurd (omega (arith, row.1)))
      (λ k below row. absurd (omega (arith, row.1))) ∙ sym listed)

  -- ---- the slots of a put

  -- slots of numbers behind all messages may have changed, as long as none of them stands, before or now
  pub row_stands : (image : List ℕ) (n : ℕ) → front_in image ≡ front_in bytes → length image ≡ length bytes →
      setup_in image ≡ setup_in bytes →
      next + n ≤ first + slots →
      ((k : ℕ) → k < slots → (IsOfRow slots next n k → ⊥) → slot_in image k ≡ old k) →
      ((k : ℕ) → k < slots → IsOfRow slots next n k → stands_on frame.floor (old k) ≡ false) →
      ((k : ℕ) → k < slots → IsOfRow slots next n k → stands_on frame.floor (slot_in image k) ≡ false) →
      StandsFor image (with_gates (gates_below (slot_in image) slots) (file_in bytes))
  row_stands image n same long setup_is fits others before now =
      stands_now image first next (gates_below (slot_in image) slots) (setup_in bytes) (file_in bytes).list same long setup_is
      (whole_stays frame old (slot_in image) first next n some full whole fits from others before now) refl
      (list_stays frame old (slot_in image) first next n some full whole fits from others before now ∙ sym listed)

  -- ---- the gate of a slot

  module _ (j : ℕ) (below : j < slots) (gate : ℕ) where
    abbrev now : List ℕ
    now = with_part bytes (slot_place j) (gate ∷ [])

    page : slot_place j + 4096 ≤ length bytes
    page = omega (arith, below, inside)

    within : slot_place j + length (gate ∷ []) ≤ length bytes
    within = omega (arith, page)

    slot_now : slot_in now j ≡ record { gate = gate; head = (old j).head; area = (old j).area }
    slot_now = gate_written bytes j gate page

    beside : (k : ℕ) → (k ≡ j → ⊥) → slot_in now k ≡ old k
    beside k other = others_stay bytes (gate ∷ []) j k (slot_place j) 0 (omega arith) within (omega arith) other

    head_by : (k : ℕ) → (k ≡ j) ⊎ (k ≡ j → ⊥) → (slot_in now k).head ≡ (old k).head
    head_by k (inl here) = subst (λ i. (slot_in now i).head ≡ (old i).head) (sym here)
        (ap (λ (s : Slot). s.head) slot_now)
    head_by k (inr other) = ap (λ (s : Slot). s.head) (beside k other)

    area_by : (k : ℕ) → (k ≡ j) ⊎ (k ≡ j → ⊥) → (slot_in now k).area ≡ (old k).area
    area_by k (inl here) = subst (λ i. (slot_in now i).area ≡ (old i).area) (sym here)
        (ap (λ (s : Slot). s.area) slot_now)
    area_by k (inr other) = ap (λ (s : Slot). s.area) (beside k other)

    -- all messages are as they were, whether they stand or not
    pub messages : (k : ℕ) → slot_message slots (slot_in now) k ≡ slot_message slots old k
    messages k = message_same old (slot_in now) slots k (head_by k (cases_eq k j)) (area_by k (cases_eq k j))
        (λ p some less. area_by (((old k).head.number + p) % slots) (cases_eq (((old k).head.number + p) % slots) j))

    gate_is : is_open (slot_in now j) ≡ (gate == 90)
    gate_is = ap is_open slot_now

    same_beside : (k : ℕ) → k < slots → (k ≡ j → ⊥) → IsSameAt (slot_stands frame.floor old)
        (slot_stands frame.floor (slot_in now)) (slot_message slots old) (slot_message slots (slot_in now)) k
    same_beside k less other = record {
      stays = ap (stands_on frame.floor) (beside k other);
      same = λ there. messages k;
    }

    -- which slots are open
    open_beside : (k : ℕ) → k < slots → (k ≡ j → ⊥) → is_open (slot_in now k) ≡ is_open (old k)
    open_beside k less other = ap is_open (beside k other)

    gates_set : (b : Bool) (number : ℕ) → (gate == 90) ≡ b → number % slots ≡ j →
        gates_below (slot_in now) slots ≡ set (file_in bytes).gates (number % slots_in bytes) b
    gates_set b number is place =
        one_gate old (slot_in now) j b (gate_is ∙ is) slots below open_beside
        ∙ ap (λ (gates : List Bool). set gates j b) (sym gated)
        ∙ ap (λ (i : ℕ). set (file_in bytes).gates i b) (sym place ∙ ap (λ (n : ℕ). number % n) slots_are)

    open_at : is_open (slot_in now j) ≡ is_open (old j) → (k : ℕ) → (k ≡ j) ⊎ (k ≡ j → ⊥) → k < slots →
        is_open (slot_in now k) ≡ is_open (old k)
    open_at same k (inl here) less = subst (λ i. is_open (slot_in now i) ≡ is_open (old i)) (sym here) same
    open_at same k (inr other) less = open_beside k less other

    gates_stay : is_open (slot_in now j) ≡ is_open (old j) → gates_below (slot_in now) slots ≡ (file_in bytes).gates
    gates_stay same = same_gates old (slot_in now) slots (λ k less. open_at same k (cases_eq k j) less) ∙ sym gated

    field_by : slot_break frame j (slot_in now j) ≡ None → (k : ℕ) → (k ≡ j) ⊎ (k ≡ j → ⊥) → k < slots →
        slot_break frame k (slot_in now k) ≡ None
    field_by good k (inl here) less = subst (λ i. slot_break frame i (slot_in now i) ≡ None) (sym here) good
    field_by good k (inr other) less = ap (slot_break frame k) (beside k other) ∙ whole.fields k less

    -- which passes the tests still
    stands_with : slot_break frame j (slot_in now j) ≡ None → (first' next' : ℕ) (gates : List Bool)
        (list : List Message) →
        IsKept (slot_stands frame.floor (slot_in now)) (slot_message slots (slot_in now)) slots first' next' →
        next' ≤ first' + slots → gates_below (slot_in now) slots ≡ gates →
        list_below frame (slot_in now) slots ≡ list →
        StandsFor now (made_file (setup_in bytes) (version_in bytes) (slots_in bytes) gates (cell_in bytes mark_cell)
        (cell_in bytes floor_cell) list)
    stands_with good first' next' gates list kept fits gates_are list_is =
        stands_now now first' next' gates (setup_in bytes) list
        (front_beside bytes (gate ∷ []) (slot_place j) within (omega arith))
        (length-part bytes (gate ∷ []) (slot_place j) within)
        (setup_beside bytes (gate ∷ []) (slot_place j) within (omega (arith, below, slots_are))
        (ap slots_of (front_beside bytes (gate ∷ []) (slot_place j) within (omega arith))) (inr (omega arith)))
        (record { fields = λ k less. field_by good k (cases_eq k j) less; kept = kept; room = fits }) gates_are list_is

    absent_now : (gate == 90) ≡ false → stands_on frame.floor (slot_in now j) ≡ false
    absent_now shut = closed_absent frame.floor (slot_in now j) (gate_is ∙ shut)

    -- ---- that changes nothing, since the slot stands as before

    module _ (stays : stands_on frame.floor (slot_in now j) ≡ stands_on frame.floor (old j)) where
      same_by : (k : ℕ) → (k ≡ j) ⊎ (k ≡ j → ⊥) → k < slots → IsSameAt (slot_stands frame.floor old)
          (slot_stands frame.floor (slot_in now)) (slot_message slots old) (slot_message slots (slot_in now)) k
      same_by k (inl here) less = record {
        stays = subst (λ i. stands_on frame.floor (slot_in now i) ≡ stands_on frame.floor (old i)) (sym here) stays;
        same = λ there. messages k;
      }
      same_by k (inr other) less = same_beside k less other

      good_by : (b : Bool) → stands_on frame.floor (old j) ≡ b → slot_break frame j (slot_in now j) ≡ None
      good_by false is = absent_none frame j (slot_in now j) (stays ∙ is)
      good_by true is = good_none frame j (slot_in now j)
          (ap (λ (s : Slot). head_break frame j s.head) slot_now
          ∙ ap (λ (b : Bool). if b then head_break frame j (old j).head else None) (sym is) ∙ whole.fields j below)

      pub gate_stands : (gates : List Bool) → gates_below (slot_in now) slots ≡ gates →
          StandsFor now (with_gates gates (file_in bytes))
      gate_stands gates gates_are =
          stands_with (good_by (stands_on frame.floor (old j)) refl) first next gates (file_in bytes).list
          (same_kept (slot_stands frame.floor old) (slot_stands frame.floor (slot_in now)) (slot_message slots old)
          (slot_message slots (slot_in now)) slots first next whole.kept
          (λ k less. same_by k (cases_eq k j) less)) room gates_are
          (same_list (slot_stands frame.floor old) (slot_stands frame.floor (slot_in now)) (slot_message slots old)
          (slot_message slots (slot_in now)) slots first next whole.kept
          (λ k less. same_by k (cases_eq k j) less) ∙ sym listed)

    -- of an open slot, with a byte that opens it
    pub still_same : is_open (old j) ≡ true → (gate == 90) ≡ true → StandsFor now (file_in bytes)
    still_same opened again =
        let stays : stands_on frame.floor (slot_in now j) ≡ stands_on frame.floor (old j) =
        ap (stands_on frame.floor) slot_now
        ∙ ap (λ (b : Bool). b && nat_le frame.floor (old j).head.number) (again ∙ sym opened) in
        gate_stands stays (file_in bytes).gates (gates_stay (gate_is ∙ again ∙ sym opened))

    -- of a closed one, with a byte that closes it
    pub shut_same : is_open (old j) ≡ false → (gate == 90) ≡ false → StandsFor now (file_in bytes)
    shut_same closed shut =
        let stays : stands_on frame.floor (slot_in now j) ≡ stands_on frame.floor (old j) =
        absent_now shut ∙ sym (closed_absent frame.floor (old j) closed) in
        gate_stands stays (file_in bytes).gates (gates_stay (gate_is ∙ shut ∙ sym closed))

    -- ---- that opens the slot of the next message

    module _ (closed : is_open (old j) ≡ false) (opened : (gate == 90) ≡ true)
        (good : head_break frame j (old j).head ≡ None) (number : (old j).head.number ≡ next)
        (fits : next + slots_for (old j).head.len ≤ first + slots) where
      abbrev message : Message
      message = slot_message slots old j

      place_now : (slot_in now j).head.number % slots ≡ j
      place_now = ap (λ (s : Slot). s.head.number % slots) slot_now ∙ (good_is frame j (old j).head good).place

      good_now : slot_break frame j (slot_in now j) ≡ None
      good_now = good_none frame j (slot_in now j) (ap (λ (s : Slot). head_break frame j s.head) slot_now ∙ good)

      stood_now : stands_on frame.floor (slot_in now j) ≡ true
      stood_now =
          let next_low : frame.floor ≤ next = omega (arith, low, from) in
          let over : nat_le frame.floor (old j).head.number ≡ true = grind (arith, nat_tests, number, next_low) in
          ap (stands_on frame.floor) slot_now
          ∙ ap (λ (b : Bool). b && nat_le frame.floor (old j).head.number) opened ∙ over

      number_now : (slot_in now j).head.number ≡ next
      number_now = ap (λ (s : Slot). s.head.number) slot_now ∙ number

      open_kept : IsKept (slot_stands frame.floor (slot_in now)) (slot_message slots (slot_in now)) slots first
          (next + width (slot_message slots (slot_in now) j))
      open_kept = opens_kept (slot_stands frame.floor old) (slot_stands frame.floor (slot_in now))
          (slot_message slots old) (slot_message slots (slot_in now)) slots first next whole.kept j below same_beside
          (closed_absent frame.floor (old j) closed) stood_now place_now number_now

      open_list : list_below frame (slot_in now) slots ≡ (file_in bytes).list ++ message ∷ []
      open_list =
          opens (slot_stands frame.floor old) (slot_stands frame.floor (slot_in now)) (slot_message slots old)
          (slot_message slots (slot_in now)) slots first next whole.kept j below same_beside
          (closed_absent frame.floor (old j) closed) stood_now place_now number_now
          ∙ ap (λ (m : Message). list_below frame old slots ++ m ∷ []) (messages j)
          ∙ ap (λ (list : List Message). list ++ message ∷ []) (sym listed)

      pub wide : width message ≡ slots_for (old j).head.len
      wide = width_is old slots full some j below

      pub open_more : StandsFor now (sealed_in j bytes)
      open_more =
          let same_wide : width (slot_message slots (slot_in now) j) ≡ slots_for (old j).head.len =
          ap width (messages j) ∙ wide in
          let number_in : slot_message slots old j ≡ slot_message (slots_in bytes) old j =
          ap (λ (n : ℕ). slot_message n old j) slots_are in
          subst (λ (m : Message). StandsFor now (made_file (setup_in bytes) (version_in bytes) (slots_in bytes)
          (set (file_in bytes).gates (m.number % slots_in bytes) true) (cell_in bytes mark_cell)
          (cell_in bytes floor_cell) ((file_in bytes).list ++ m ∷ []))) number_in
          (stands_with good_now first (next + width (slot_message slots (slot_in now) j))
          (set (file_in bytes).gates (message.number % slots_in bytes) true) ((file_in bytes).list ++ message ∷ [])
          open_kept (omega (arith, same_wide, fits))
          (gates_set true (old j).head.number opened (good_is frame j (old j).head good).place) open_list)

      pub open_chain : IsChainFrom first (next + slots_for (old j).head.len) ((file_in bytes).list ++ message ∷ [])
      open_chain =
          subst (λ (n : ℕ). IsChainFrom first (next + n) ((file_in bytes).list ++ message ∷ []))
          (ap width (messages j) ∙ wide)
          (subst (IsChainFrom first (next + width (slot_message slots (slot_in now) j))) open_list open_kept.chain)

    -- ---- that closes the slot of the first message

    module _ (stood : stands_on frame.floor (old j) ≡ true) (number : (old j).head.number ≡ first)
        (shut : (gate == 90) ≡ false) where
      close_kept : IsKept (slot_stands frame.floor (slot_in now)) (slot_message slots (slot_in now)) slots
          (first + width (slot_message slots old j)) next
      close_kept = closes_kept (slot_stands frame.floor old) (slot_stands frame.floor (slot_in now))
          (slot_message slots old) (slot_message slots (slot_in now)) slots first next whole.kept j below same_beside
          stood (absent_now shut) number

      pub with_oldest : (file_in bytes).list ≡ slot_message slots old j ∷ list_below frame (slot_in now) slots
      with_oldest =
          listed
          ∙ closes (slot_stands frame.floor old) (slot_stands frame.floor (slot_in now)) (slot_message slots old)
          (slot_message slots (slot_in now)) slots first next whole.kept j below same_beside stood (absent_now shut)
          number

      close_list : list_below frame (slot_in now) slots ≡ drop 1 (file_in bytes).list
      close_list = sym (ap (λ (list : List Message). drop 1 list) with_oldest)

      close_gates : gates_below (slot_in now) slots ≡ (dropped_in bytes).gates
      close_gates =
          gates_set false (old j).head.number shut (whole.kept.places j below stood)
          ∙ sym (ap (λ (list : List Message).
          set (file_in bytes).gates (first_of (file_in bytes).floor.value list % slots_in bytes) false) with_oldest)

      pub close_less : StandsFor now (dropped_in bytes)
      close_less =
          stands_with (absent_none frame j (slot_in now j) (absent_now shut)) (first + width (slot_message slots old j))
          next (dropped_in bytes).gates (dropped_in bytes).list close_kept (omega (arith, room)) close_gates close_list

      pub close_chain : IsChainFrom (first + width (slot_message slots old j)) next (dropped_in bytes).list
      close_chain = subst (IsChainFrom (first + width (slot_message slots old j)) next) close_list close_kept.chain
