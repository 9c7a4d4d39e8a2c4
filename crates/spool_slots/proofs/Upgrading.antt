-- That a file stands for the same list while it is made one of version 2.
use Rattle.std.proofs.Common.{◌≡◌, ℕ, ◌+◌, ◌≤◌, ◌==◌, nat_lt, Bool, true, false, if◌then◌else◌, List, [], ◌∷◌}
use Rattle.std.proofs.Common.{length, take, drop, Some}
use Rattle.std.proofs.Common.{get_or, None, sym, ap, ◌∙◌, arith, inl, inr}
use Rattle.std.proofs.lemmas.List.{drop-take, get_or-take, take-take}
use Rattle.std.specs.Int.{w32, from_be_bytes}
use Rattle.disk_base.specs.Story.{bytes_at, with_part}
use Rattle.disk_base.proofs.Marks.{length-part, outside_part}
use Rattle.gate_cell.specs.Cell.{Cell, cell_in, cell_of, names_second}
use Rattle.spool_file.specs.Breaks.{area_break, list_below}
use Rattle.spool_file.specs.File.{StandsFor, file_in, frame_in, gates_below, slots_in, spool_break, version_in}
use Rattle.spool_file.specs.Front.{floor_cell, front_break, front_in, front_size, magic, magic_break, magic_of}
use Rattle.spool_file.specs.Front.{mark_cell, slots_break, unlike_at, version_gate}
use Rattle.spool_file.specs.Setup.{Setup, setup_in}
use Rattle.spool_file.specs.Slot.{Message, Slot, slot_in, slot_place}
use Rattle.spool_file.specs.declared.slot.Frame.{Frame}
use Rattle.spool_file.proofs.Fresh.{made_file}
use Rattle.spool_file.proofs.Fronts.{floor_is, front_of, front_sound, made_frame, mark_is, of_front, slots_same}
use Rattle.spool_file.proofs.Fronts.{unlike_front}
use Rattle.spool_file.proofs.Setups.{setup_beside}
use Rattle.spool_file.proofs.Upgraded.{upgraded_frame, upgraded_sound}
use Rattle.spool_file.proofs.Wholes.{sound_area, sound_front, sound_slots, spool_sound}
use Rattle.spool_file.proofs.Written.{bytes_beside, part_at, slot_beside}
use Rattle.spool_slots.specs.Files.{upgraded_in}

-- bytes of the same version, with the same cells and slots, that pass the tests of the front
module _ (bytes now : List ℕ) (front : front_break (front_in now) (length now) ≡ None)
    (version : version_in now ≡ version_in bytes) (count : slots_in now ≡ slots_in bytes)
    (mark : cell_in now mark_cell ≡ cell_in bytes mark_cell) (floor : cell_in now floor_cell ≡ cell_in bytes floor_cell)
    (setup : setup_in now ≡ setup_in bytes) (slots : slot_in now ≡ slot_in bytes) (sound : spool_break bytes ≡ None)
  where
    same_frame : frame_in now ≡ frame_in bytes
    same_frame =
        ap (λ (v : ℕ). made_frame v (slots_in now) (cell_in now floor_cell).value) version
        ∙ ap (λ (n : ℕ). made_frame (version_in bytes) n (cell_in now floor_cell).value) count
        ∙ ap (λ (c : Cell). made_frame (version_in bytes) (slots_in bytes) c.value) floor

    same_list : (file_in now).list ≡ (file_in bytes).list
    same_list =
        ap (λ (f : Frame). list_below f (slot_in now) f.slots) same_frame
        ∙ ap (λ (slot : ℕ → Slot). list_below (frame_in bytes) slot (slots_in bytes)) slots

    -- stand for the same file
    same_stands : StandsFor now (file_in bytes)
    same_stands = record {
      sound = spool_sound now (frame_in bytes) front (sym same_frame)
          (ap (λ (slot : ℕ → Slot). area_break (frame_in bytes) slot) slots ∙ sound_area bytes sound);
      is = sym (
          ap (λ (u : Setup). made_file u (version_in now) (slots_in now) (gates_below (slot_in now) (slots_in now))
          (cell_in now mark_cell) (cell_in now floor_cell) (file_in now).list) setup
          ∙ ap (λ (v : ℕ). made_file (setup_in bytes) v (slots_in now) (gates_below (slot_in now) (slots_in now)) (cell_in now mark_cell)
          (cell_in now floor_cell) (file_in now).list) version
          ∙ ap (λ (l : List Message). made_file (setup_in bytes) (version_in bytes) (slots_in now) (gates_below (slot_in now) (slots_in now))
          (cell_in now mark_cell) (cell_in now floor_cell) l) same_list
          ∙ ap (λ (n : ℕ). made_file (setup_in bytes) (version_in bytes) n (gates_below (slot_in now) n) (cell_in now mark_cell)
          (cell_in now floor_cell) (file_in bytes).list) count
          ∙ ap (λ (slot : ℕ → Slot). made_file (setup_in bytes) (version_in bytes) (slots_in bytes) (gates_below slot (slots_in bytes))
          (cell_in now mark_cell) (cell_in now floor_cell) (file_in bytes).list) slots
          ∙ ap (λ (c : Cell). made_file (setup_in bytes) (version_in bytes) (slots_in bytes) (file_in bytes).gates c (cell_in now floor_cell)
          (file_in bytes).list) mark
          ∙ ap (λ (c : Cell). made_file (setup_in bytes) (version_in bytes) (slots_in bytes) (file_in bytes).gates (cell_in bytes mark_cell) c
          (file_in bytes).list) floor);
    }

-- a byte in the gate of the version of a sound file
module _ (bytes : List ℕ) (gate : ℕ) (sound : spool_break bytes ≡ None) where
  abbrev now : List ℕ
  now = with_part bytes version_gate (gate ∷ [])

  fits : slot_place 1 ≤ length bytes
  fits = let has = sound_slots bytes sound in omega (arith, has.fits, has.some)

  within : version_gate + length (gate ∷ []) ≤ length bytes
  within = omega (arith, fits)

  twelve : take 12 (front_in now) ≡ take 12 (front_in bytes)
  twelve =
      take-take 12 front_size now (omega arith)
      ∙ bytes_beside bytes (gate ∷ []) version_gate within 0 12 (inl (omega arith))
      ∙ sym (take-take 12 front_size bytes (omega arith))

  seven : take 7 (front_in now) ≡ take 7 (front_in bytes)
  seven =
      sym (take-take 7 12 (front_in now) (omega arith)) ∙ ap (λ (xs : List ℕ). take 7 xs) twelve
      ∙ take-take 7 12 (front_in bytes) (omega arith)

  count : slots_in now ≡ slots_in bytes
  count = slots_same (front_in now) (front_in bytes) twelve

  cell_same : (at : ℕ) → at + 17 ≤ version_gate → cell_in now at ≡ cell_in bytes at
  cell_same at before = ap cell_of (bytes_beside bytes (gate ∷ []) version_gate within at 17 (inl before))

  setup_still : setup_in now ≡ setup_in bytes
  setup_still = setup_beside bytes (gate ∷ []) version_gate within
      (let has = sound_slots bytes sound in omega (arith, has.some)) count (inl (omega arith))

  slots_there : slot_in now ≡ slot_in bytes
  slots_there = λ j k. slot_beside bytes (gate ∷ []) version_gate k within (inr (omega arith)) j

  same_long : length now ≡ length bytes
  same_long = length-part bytes (gate ∷ []) version_gate within

  version_now : version_in now ≡ (if names_second gate then 2 else 1)
  version_now = ap (λ (g : ℕ). if names_second g then 2 else 1)
      (get_or-take front_size now version_gate 1 (omega arith)
      ∙ ap (λ (p : ℕ). get_or now p 1) (omega arith)
      ∙ part_at bytes (gate ∷ []) version_gate within 0 1 (omega arith))

  -- where it is odd, the file has version 2, and all else is as it was
  module _ (one : version_in bytes ≡ 1) (odd : names_second gate ≡ true) where
    two : version_in now ≡ 2
    two = version_now ∙ ap (λ (b : Bool). if b then 2 else 1) odd

    frame_now : frame_in now ≡ made_frame 2 (slots_in bytes) (frame_in bytes).floor
    frame_now = upgraded_frame bytes now one two seven count (cell_same mark_cell (omega arith))
        (cell_same floor_cell (omega arith)) slots_there same_long sound

    pub upgraded_stands : StandsFor now (upgraded_in bytes)
    upgraded_stands = record {
      sound = upgraded_sound bytes now one two seven count (cell_same mark_cell (omega arith))
          (cell_same floor_cell (omega arith)) slots_there same_long sound;
      is = sym (
          ap (λ (u : Setup). made_file u (version_in now) (slots_in now) (gates_below (slot_in now) (slots_in now))
          (cell_in now mark_cell) (cell_in now floor_cell) (file_in now).list) setup_still
          ∙ ap (λ (v : ℕ). made_file (setup_in bytes) v (slots_in now) (gates_below (slot_in now) (slots_in now)) (cell_in now mark_cell)
          (cell_in now floor_cell) (file_in now).list) two
          ∙ ap (λ (l : List Message). made_file (setup_in bytes) 2 (slots_in now) (gates_below (slot_in now) (slots_in now))
          (cell_in now mark_cell) (cell_in now floor_cell) l)
          (ap (λ (f : Frame). list_below f (slot_in now) f.slots) frame_now
          ∙ ap (λ (slot : ℕ → Slot). list_below (made_frame 2 (slots_in bytes) (frame_in bytes).floor) slot
          (slots_in bytes)) slots_there)
          ∙ ap (λ (n : ℕ). made_file (setup_in bytes) 2 n (gates_below (slot_in now) n) (cell_in now mark_cell) (cell_in now floor_cell)
          (file_in bytes).list) count
          ∙ ap (λ (slot : ℕ → Slot). made_file (setup_in bytes) 2 (slots_in bytes) (gates_below slot (slots_in bytes))
          (cell_in now mark_cell) (cell_in now floor_cell) (file_in bytes).list) slots_there
          ∙ ap (λ (c : Cell). made_file (setup_in bytes) 2 (slots_in bytes) (file_in bytes).gates c (cell_in now floor_cell)
          (file_in bytes).list) (cell_same mark_cell (omega arith))
          ∙ ap (λ (c : Cell). made_file (setup_in bytes) 2 (slots_in bytes) (file_in bytes).gates (cell_in bytes mark_cell) c
          (file_in bytes).list) (cell_same floor_cell (omega arith)));
    }

  -- where it is even, the file has version 1 still
  module _ (one : version_in bytes ≡ 1) (even : names_second gate ≡ false) where
    still_one : version_in now ≡ version_in bytes
    still_one = version_now ∙ ap (λ (b : Bool). if b then 2 else 1) even ∙ sym one

    front_still : front_break (front_in now) (length now) ≡ None
    front_still =
        let is = front_of (front_in bytes) (length bytes) (sound_front bytes sound) in
        front_sound (front_in bytes) (front_in now) (sym twelve) (sym still_one) (length now)
        (ap (λ (n : ℕ). front_break (front_in bytes) n) same_long ∙ sound_front bytes sound)
        (omega (
          arith,
          mark_is now,
          ap (λ (c : Cell). c.value) (cell_same mark_cell (omega arith)),
          mark_is bytes,
          is.mark,
        ))
        (omega (
          arith,
          floor_is now,
          ap (λ (c : Cell). c.value) (cell_same floor_cell (omega arith)),
          floor_is bytes,
          is.floor,
        ))

    pub even_stands : StandsFor now (file_in bytes)
    even_stands = same_stands bytes now front_still still_one count (cell_same mark_cell (omega arith))
        (cell_same floor_cell (omega arith)) setup_still slots_there sound

-- the last letter of the name of a file of version 2 says nothing
module _ (bytes : List ℕ) (letter : ℕ) (two : version_in bytes ≡ 2) (sound : spool_break bytes ≡ None) where
  abbrev named : List ℕ
  named = with_part bytes 7 (letter ∷ [])

  inside : 7 + length (letter ∷ []) ≤ length bytes
  inside = let has = sound_slots bytes sound in omega (arith, has.fits, has.some)

  first_letters : take 7 (front_in named) ≡ take 7 (front_in bytes)
  first_letters =
      take-take 7 front_size named (omega arith)
      ∙ bytes_beside bytes (letter ∷ []) 7 inside 0 7 (inl (omega arith))
      ∙ sym (take-take 7 front_size bytes (omega arith))

  count_at : (xs : List ℕ) → slots_in xs ≡ from_be_bytes w32 (bytes_at xs 8 4)
  count_at xs =
      ap (λ (part : List ℕ). from_be_bytes w32 (take 4 part)) (drop-take 8 39 xs)
      ∙ ap (λ (part : List ℕ). from_be_bytes w32 part) (take-take 4 39 (drop 8 xs) (omega arith))

  count_same : slots_in named ≡ slots_in bytes
  count_same =
      count_at named
      ∙ ap (λ (part : List ℕ). from_be_bytes w32 part) (bytes_beside bytes (letter ∷ []) 7 inside 8 4 (inr (omega arith)))
      ∙ sym (count_at bytes)

  cell_beside : (at : ℕ) → 8 ≤ at → cell_in named at ≡ cell_in bytes at
  cell_beside at behind = ap cell_of (bytes_beside bytes (letter ∷ []) 7 inside at 17 (inr (omega (arith, behind))))

  long_same : length named ≡ length bytes
  long_same = length-part bytes (letter ∷ []) 7 inside

  version_same : version_in named ≡ version_in bytes
  version_same = ap (λ (g : ℕ). if names_second g then 2 else 1)
      (get_or-take front_size named version_gate 1 (omega arith)
      ∙ outside_part bytes (letter ∷ []) 7 version_gate 1 inside (inr (omega arith))
      ∙ sym (get_or-take front_size bytes version_gate 1 (omega arith)))

  name_good : magic_break (front_in named) ≡ None
  unfolding magic_break
  name_good =
      let f = front_in bytes in
      let now = front_in named in
      ap (λ (v : ℕ). unlike_at 0 (magic_of v) now) (version_same ∙ two)
      ∙ sym (unlike_front 0 7 (take 7 magic) now (omega arith))
      ∙ ap (λ (xs : List ℕ). unlike_at 0 (take 7 magic) xs) first_letters
      ∙ unlike_front 0 7 (take 7 magic) f (omega arith)
      ∙ ap (λ (v : ℕ). unlike_at 0 (magic_of v) f) (sym two)
      ∙ (front_of f (length bytes) (sound_front bytes sound)).name

  front_good : front_break (front_in named) (length named) ≡ None
  front_good =
      let f = front_in bytes in
      let now = front_in named in
      let is = front_of f (length bytes) (sound_front bytes sound) in
      of_front now (length named) (record {
        name = name_good;
        slots = ap (λ (size : ℕ). slots_break now size) long_same
            ∙ ap (λ (n : ℕ). if nat_lt (length bytes) 12 then Some (length bytes)
            else (if n == 0 then Some 8 else
            (if nat_lt 65535 n then Some 8 else (if nat_lt (length bytes) (slot_place n) then Some (length bytes)
            else None)))) count_same ∙ is.slots;
        mark = omega (
          arith,
          mark_is named,
          ap (λ (c : Cell). c.value) (cell_beside mark_cell (omega arith)),
          mark_is bytes,
          is.mark,
        );
        floor = omega (
          arith,
          floor_is named,
          ap (λ (c : Cell). c.value) (cell_beside floor_cell (omega arith)),
          floor_is bytes,
          is.floor,
        );
      })

  pub name_stands : StandsFor named (file_in bytes)
  name_stands = same_stands bytes named front_good version_same count_same (cell_beside mark_cell (omega arith))
      (cell_beside floor_cell (omega arith))
      (setup_beside bytes (letter ∷ []) 7 inside (let has = sound_slots bytes sound in omega (arith, has.some)) count_same
      (inl (omega arith)))
      (λ j k. slot_beside bytes (letter ∷ []) 7 k inside (inr (omega arith)) j) sound
