-- What another cell in front of the slots makes of a spool file: another mark, a floor behind all messages, or another
-- setup.
use Rattle.std.proofs.Common.{◌≡◌, ◌⊎◌, ℕ, ◌+◌, ◌^◌, ◌<◌, ◌≤◌, false, List, [], ◌∷◌, length, Option, None, refl, sym, ap, subst, ◌∙◌}
use Rattle.std.proofs.Common.{arith, inl, inr}
use Rattle.disk_base.specs.Images.{is_loose}
use Rattle.disk_base.specs.Story.{Story, with_part}
use Rattle.disk_base.proofs.Moments.{over_but}
use Rattle.gate_cell.specs.Cell.{Cell, cell_in, with_value}
use Rattle.gate_cell.specs.Holds.{Holds}
use Rattle.gate_cell.specs.Ready.{IsCell}
use Rattle.spool_file.specs.Breaks.{area_break, list_below}
use Rattle.spool_file.specs.File.{SpoolFile, StandsFor, file_in, frame_in, gates_below, slots_in, spool_break, version_in}
use Rattle.spool_file.specs.Front.{floor_cell, front_break, front_in, mark_cell, version_gate}
use Rattle.spool_file.specs.Run.{IsChainFrom}
use Rattle.spool_file.specs.Setup.{Setup, area_in, setup_cell, setup_in, setup_of}
use Rattle.spool_file.specs.Slot.{Message, Slot, slot_in, slot_place, stands_on, width}
use Rattle.spool_file.specs.declared.recovery.Known.{Known}
use Rattle.spool_file.specs.declared.slot.Frame.{Frame}
use Rattle.spool_file.proofs.Areas.{Each, each_so}
use Rattle.spool_file.proofs.Contents.{IsHeld, each_held}
use Rattle.spool_file.proofs.Fresh.{made_file}
use Rattle.spool_file.proofs.Fronts.{each_slot, floor_is, front_of, front_sound, made_frame, mark_is, same_cell, same_long}
use Rattle.spool_file.proofs.Fronts.{same_slots, same_version, twelve, version_either}
use Rattle.spool_file.proofs.Setups.{area_beside, setup_beside}
use Rattle.spool_file.proofs.Sound.{IsWhole, all_absent, none_held}
use Rattle.spool_file.proofs.Wholes.{full_in, none_break, sound_area, sound_front, sound_slots, spool_sound}
use Rattle.spool_slots.specs.Changes.{IsSame}
use Rattle.spool_slots.specs.Files.{cleared_in, reserved_in, set_in, with_mark, with_setup}
use Rattle.spool_slots.specs.Spool.{Rests}
use Rattle.spool_slots.proofs.Moves.{whole}

-- the file of these slots
abbrev file_with : Setup → (version slots : ℕ) → (ℕ → Slot) → (mark floor : Cell) → SpoolFile
file_with setup version slots slot mark floor =
    made_file setup version slots (gates_below slot slots) mark floor
    (list_below (made_frame version slots floor.value) slot slots)

-- a sound file with other bytes in a cell
module _ (bytes part : List ℕ) (at : ℕ) (sound : spool_break bytes ≡ None) (long : length part ≡ 17) (behind : 12 ≤ at)
    (before : at + 17 ≤ 4096) (beside : (at + 17 ≤ version_gate) ⊎ (version_gate < at)) (inside : at + 17 ≤ length bytes)
  where
    abbrev now : List ℕ
    now = with_part bytes at part

    version_now : version_in now ≡ version_in bytes
    version_now = same_version bytes part at long behind before inside beside

    slots_now : slots_in now ≡ slots_in bytes
    slots_now = same_slots bytes part at long behind before inside

    slots_there : slot_in now ≡ slot_in bytes
    slots_there = each_slot bytes part at long behind before inside

    -- in which mark and floor are these
    pub celled : (setup : Setup) (mark floor : Cell) → setup_in now ≡ setup → cell_in now mark_cell ≡ mark → cell_in now floor_cell ≡ floor →
        mark.value ≤ 2 ^ 32 → floor.value ≤ 2 ^ 63 →
        area_break (made_frame (version_in bytes) (slots_in bytes) floor.value) (slot_in bytes) ≡ None →
        StandsFor now (file_with setup (version_in bytes) (slots_in bytes) (slot_in bytes) mark floor)
    celled setup mark floor setup_now mark_now floor_now low least area =
        let frame = made_frame (version_in bytes) (slots_in bytes) floor.value in
        let front : front_break (front_in now) (length now) ≡ None =
        ap (λ (n : ℕ). front_break (front_in now) n) (same_long bytes part at long behind before inside)
        ∙ front_sound (front_in bytes) (front_in now) (twelve bytes part at long behind before inside)
        (sym version_now) (length bytes) (sound_front bytes sound)
        (subst (λ n. n ≤ 2 ^ 32) (sym (ap (λ (c : Cell). c.value) mark_now) ∙ mark_is now) low)
        (subst (λ n. n ≤ 2 ^ 63) (sym (ap (λ (c : Cell). c.value) floor_now) ∙ floor_is now) least) in
        let frame_now : frame ≡ frame_in now =
        ap (λ (v : ℕ). made_frame v (slots_in bytes) floor.value) (sym version_now)
        ∙ ap (λ (n : ℕ). made_frame (version_in now) n floor.value) (sym slots_now)
        ∙ ap (λ (c : Cell). made_frame (version_in now) (slots_in now) c.value) (sym floor_now) in
        record {
          sound = spool_sound now frame front frame_now
              (ap (λ (s : ℕ → Slot). area_break frame s) slots_there ∙ area);
          is =
              sym (ap (λ (u : Setup). file_with u (version_in now) (slots_in now) (slot_in now) (cell_in now mark_cell)
              (cell_in now floor_cell)) setup_now
              ∙ ap (λ (v : ℕ). file_with setup v (slots_in now) (slot_in now) (cell_in now mark_cell)
              (cell_in now floor_cell)) version_now
              ∙ ap (λ (n : ℕ). file_with setup (version_in bytes) n (slot_in now) (cell_in now mark_cell)
              (cell_in now floor_cell)) slots_now
              ∙ ap (λ (c : Cell). file_with setup (version_in bytes) (slots_in bytes) (slot_in now) c
              (cell_in now floor_cell)) mark_now
              ∙ ap (λ (c : Cell). file_with setup (version_in bytes) (slots_in bytes) (slot_in now) mark c) floor_now
              ∙ ap (λ (s : ℕ → Slot). file_with setup (version_in bytes) (slots_in bytes) s mark floor) slots_there);
        }

-- the number behind a chain is at most that behind all numbers
chain_most : (first next : ℕ) (list : List Message) → Each (λ m. m.number + width m ≤ 2 ^ 63) list →
    IsChainFrom first next list → 0 < length list → next ≤ 2 ^ 63
chain_most first next [] each chain some = absurd (omega (arith, some))
chain_most first next (x ∷ []) each chain some = omega (arith, each.0, chain.0, chain.1)
chain_most first next (x ∷ (y ∷ list)) each chain some =
    let one : 0 < length (y ∷ list) = omega arith in
    chain_most (first + width x) next (y ∷ list) each.1 chain.1 one

-- a spool's file, of which a crash leaves a cell
module _ (s : Story) (k : Known) (is : Rests s k) (room : k.next ≤ k.first + k.slots) where
  abbrev bytes_now : List ℕ
  bytes_now = s.now.bytes

  abbrev the_mark : Cell
  the_mark = cell_in bytes_now mark_cell

  abbrev the_floor : Cell
  the_floor = cell_in bytes_now floor_cell

  some : 1 ≤ slots_in bytes_now
  some = (sound_slots bytes_now is.sound).some

  fits : slot_place (slots_in bytes_now) ≤ length bytes_now
  fits = (sound_slots bytes_now is.sound).fits

  mark_low : the_mark.value ≤ 2 ^ 32
  mark_low = subst (λ n. n ≤ 2 ^ 32) (sym (mark_is bytes_now))
      (front_of (front_in bytes_now) (length bytes_now) (sound_front bytes_now is.sound)).mark

  floor_low : the_floor.value ≤ 2 ^ 63
  floor_low = subst (λ n. n ≤ 2 ^ 63) (sym (floor_is bytes_now))
      (front_of (front_in bytes_now) (length bytes_now) (sound_front bytes_now is.sound)).floor

  pub cell : (at : ℕ) → at + 17 ≤ 4096 → IsCell s at
  cell at before = record {
    within = omega (arith, fits, some, before);
    settled = λ place from below. ap (λ loose. is_loose loose place) is.settled;
  }

  -- the part of an image that stands in the cell
  part_of : (image : List ℕ) (at : ℕ) (c : Cell) → at + 17 ≤ 4096 → Holds s.now at c image →
      (part : List ℕ) × (length part ≡ 17) × (image ≡ with_part bytes_now at part)
  part_of image at c before holds =
      over_but s.now image at 17 is.settled (omega (arith, fits, some, before)) holds.others

  setup_as_it_was : (part : List ℕ) (at : ℕ) → length part ≡ 17 → 12 ≤ at → at + 17 ≤ 4096 → at + 17 ≤ length bytes_now →
      (at + 17 ≤ setup_cell) ⊎ (setup_cell + 17 ≤ at) → setup_in (with_part bytes_now at part) ≡ setup_in bytes_now
  setup_as_it_was part at long behind before inside side =
      setup_beside bytes_now part at (omega (arith, inside, long)) (omega (arith, before, long, some))
      (same_slots bytes_now part at long behind before inside) (by_side side) where
        by_side : (at + 17 ≤ setup_cell) ⊎ (setup_cell + 17 ≤ at) →
            (at + length part ≤ setup_cell) ⊎ (setup_cell + 17 ≤ at)
        by_side (inl less) = inl (omega (arith, less, long))
        by_side (inr more) = inr more

  pub holds_mark : (image : List ℕ) (c : Cell) → c.value ≤ 2 ^ 32 → Holds s.now mark_cell c image →
      StandsFor image (with_mark c (file_in bytes_now))
  holds_mark image c low holds =
      let over = part_of image mark_cell c (omega arith) holds in
      let inside : mark_cell + 17 ≤ length bytes_now = omega (arith, fits, some) in
      subst (λ (i : List ℕ). StandsFor i (with_mark c (file_in bytes_now))) (sym over.2)
      (celled bytes_now over.0 mark_cell is.sound over.1 (omega arith) (omega arith) (inl (omega arith)) inside
      (setup_in bytes_now) c the_floor
      (setup_as_it_was over.0 mark_cell over.1 (omega arith) (omega arith) inside (inl (omega arith)))
      (ap (λ (i : List ℕ). cell_in i mark_cell) (sym over.2) ∙ holds.held)
      (same_cell bytes_now over.0 mark_cell over.1 (omega arith) (omega arith) inside floor_cell (inr (omega arith)))
      low floor_low (sound_area bytes_now is.sound))

  abbrev file_floored : Cell → SpoolFile
  file_floored c = file_with (setup_in bytes_now) (version_in bytes_now) (slots_in bytes_now) (slot_in bytes_now) the_mark c

  holds_floor : (image : List ℕ) (c : Cell) → c.value ≤ 2 ^ 63 →
      area_break (made_frame (version_in bytes_now) (slots_in bytes_now) c.value) (slot_in bytes_now) ≡ None →
      Holds s.now floor_cell c image → StandsFor image (file_floored c)
  holds_floor image c low area holds =
      let over = part_of image floor_cell c (omega arith) holds in
      let inside : floor_cell + 17 ≤ length bytes_now = omega (arith, fits, some) in
      subst (λ (i : List ℕ). StandsFor i (file_floored c)) (sym over.2)
      (celled bytes_now over.0 floor_cell is.sound over.1 (omega arith) (omega arith) (inl (omega arith)) inside
      (setup_in bytes_now) the_mark c
      (setup_as_it_was over.0 floor_cell over.1 (omega arith) (omega arith) inside (inl (omega arith)))
      (same_cell bytes_now over.0 floor_cell over.1 (omega arith) (omega arith) inside mark_cell (inl (omega arith)))
      (ap (λ (i : List ℕ). cell_in i floor_cell) (sym over.2) ∙ holds.held) mark_low low area)

  holds_setup : (image : List ℕ) (c : Cell) → Holds s.now setup_cell c image →
      StandsFor image (with_setup (setup_of c (area_in bytes_now)) (file_in bytes_now))
  holds_setup image c holds =
      let over = part_of image setup_cell c (omega arith) holds in
      let inside : setup_cell + 17 ≤ length bytes_now = omega (arith, fits, some) in
      let within : setup_cell + length over.0 ≤ length bytes_now = omega (arith, inside, over.1) in
      let count = same_slots bytes_now over.0 setup_cell over.1 (omega arith) (omega arith) inside in
      let anew : setup_in (with_part bytes_now setup_cell over.0) ≡ setup_of c (area_in bytes_now) =
      ap (λ (cell : Cell). setup_of cell (area_in (with_part bytes_now setup_cell over.0)))
      (ap (λ (i : List ℕ). cell_in i setup_cell) (sym over.2) ∙ holds.held)
      ∙ ap (λ (area : Option (List ℕ)). setup_of c area)
      (area_beside bytes_now over.0 setup_cell within (omega (arith, over.1, some)) count) in
      subst (λ (i : List ℕ). StandsFor i (with_setup (setup_of c (area_in bytes_now)) (file_in bytes_now))) (sym over.2)
      (celled bytes_now over.0 setup_cell is.sound over.1 (omega arith) (omega arith) (inr (omega arith)) inside
      (setup_of c (area_in bytes_now)) the_mark the_floor anew
      (same_cell bytes_now over.0 setup_cell over.1 (omega arith) (omega arith) inside mark_cell (inl (omega arith)))
      (same_cell bytes_now over.0 setup_cell over.1 (omega arith) (omega arith) inside floor_cell (inl (omega arith)))
      mark_low floor_low (sound_area bytes_now is.sound))

  -- the setup as it is, and with another value of its cell
  pub set_as_it_was : (image : List ℕ) → Holds s.now setup_cell (cell_in bytes_now setup_cell) image →
      IsSame bytes_now image
  set_as_it_was image holds = holds_setup image (cell_in bytes_now setup_cell) holds

  pub set_anew : (value : ℕ) (image : List ℕ) →
      Holds s.now setup_cell (with_value value (cell_in bytes_now setup_cell)) image →
      StandsFor image (set_in value bytes_now)
  set_anew value image holds = holds_setup image (with_value value (cell_in bytes_now setup_cell)) holds

  -- the mark as it is, and moved on
  pub marked_as_it_was : (image : List ℕ) → Holds s.now mark_cell the_mark image → IsSame bytes_now image
  marked_as_it_was image holds = holds_mark image the_mark mark_low holds

  pub marked_anew : k.mark + 4096 ≤ 2 ^ 32 → (image : List ℕ) →
      Holds s.now mark_cell (with_value (k.mark + 4096) the_mark) image →
      StandsFor image (reserved_in bytes_now)
  marked_anew low image holds =
      subst (λ m. StandsFor image (with_mark (with_value (m + 4096) the_mark) (file_in bytes_now))) is.mark_is
      (holds_mark image (with_value (k.mark + 4096) the_mark) low holds)

  -- the floor as it is, and behind all messages
  pub floored_as_it_was : (image : List ℕ) → Holds s.now floor_cell the_floor image → IsSame bytes_now image
  floored_as_it_was image holds = holds_floor image the_floor floor_low (sound_area bytes_now is.sound) holds

  abbrev frame : Frame
  frame = frame_in bytes_now

  is_whole : IsWhole frame (slot_in bytes_now) k.first k.next
  is_whole = whole bytes_now frame refl k.first k.next is.sound is.low is.chain
      (subst (λ n. k.next ≤ k.first + n) is.slots_are room)

  absent : (j : ℕ) → j < slots_in bytes_now → stands_on k.next (slot_in bytes_now j) ≡ false
  absent j below = all_absent frame (slot_in bytes_now) k.first k.next is_whole is.low j below

  next_low : 0 < k.len → k.next ≤ 2 ^ 63
  next_low one = chain_most k.first k.next (file_in bytes_now).list
      (each_so IsHeld (λ m. m.number + width m ≤ 2 ^ 63) (file_in bytes_now).list (λ m held. held.number)
      (each_held bytes_now is.sound)) is.chain (omega (arith, one, is.count))

  pub floored_anew : 0 < k.len → (image : List ℕ) → Holds s.now floor_cell (with_value k.next the_floor) image →
      StandsFor image (cleared_in k.next bytes_now)
  floored_anew one image holds =
      let above = made_frame (version_in bytes_now) (slots_in bytes_now) k.next in
      subst (λ (list : List Message). StandsFor image
      (made_file (setup_in bytes_now) (version_in bytes_now) (slots_in bytes_now) (file_in bytes_now).gates the_mark
      (with_value k.next the_floor) list)) (none_held above (slot_in bytes_now) absent)
      (holds_floor image (with_value k.next the_floor) (next_low one)
      (none_break above (slot_in bytes_now) (version_either (front_in bytes_now))
      (full_in bytes_now (slots_in bytes_now) fits) some absent) holds)
