-- That a file of version 1 is one of version 2 with the same list, once its gate says so.
use Rattle.std.proofs.Common.{◌≡◌, ℕ, zero, suc, ◌+◌, ◌<◌, ◌≤◌, ◌==◌, nat_lt, Bool, true, false, if◌then◌else◌}
use Rattle.std.proofs.Common.{List, [], ◌∷◌, length, take, Option, Some, None, refl, sym, ap, subst, ◌∙◌, arith, inr}
use Rattle.std.proofs.lemmas.Bool.Decides.{nat_tests}
use Rattle.disk_base.proofs.Marks.{not_either}
use Rattle.disk_base.proofs.Moments.{neither}
use Rattle.gate_cell.specs.Cell.{Cell, cell_in}
use Rattle.spool_file.specs.Breaks.{area_break}
use Rattle.spool_file.specs.File.{frame_in, slots_in, spool_break, version_in}
use Rattle.spool_file.specs.Front.{floor_cell, front_in, magic, magic_break, magic_of, mark_cell, slots_break}
use Rattle.spool_file.specs.Front.{unlike_at}
use Rattle.spool_file.specs.Sizes.{is_too_long, slots_for}
use Rattle.spool_file.specs.Slot.{Slot, slot_break, slot_in, slot_place, stands_on}
use Rattle.spool_file.specs.declared.slot.Frame.{Frame}
use Rattle.spool_file.proofs.BodySizes.{within_most}
use Rattle.spool_file.proofs.Fronts.{floor_is, front_of, made_frame, mark_is, of_front, unlike_front}
use Rattle.spool_file.proofs.Sound.{IsWhole, absent_none, good_none, is_good, stands_good}
use Rattle.spool_file.proofs.Wholes.{full_in, kept_area, sound_front, sound_kept, sound_slots, spool_sound}

-- what isn't too long for version 1 isn't for version 2
longer : (version slots long : ℕ) → version ≡ 1 → is_too_long version slots long ≡ false →
    is_too_long 2 slots long ≡ false
longer version slots long one short =
    let most : long ≤ 4081 = subst (λ (v : ℕ). long ≤ (if v == 1 then 4081 else 1048576)) one
    (within_most version slots long short) in
    let room = (not_either (nat_lt (if version == 1 then 4081 else 1048576) long) (nat_lt slots (slots_for long)) short).1 in
    neither (nat_lt 1048576 long) (nat_lt slots (slots_for long)) (grind (arith, nat_tests, most)) room

-- so the slots pass the same tests of fields
pub upgraded_whole : (frame : Frame) (slot : ℕ → Slot) (first next : ℕ) → frame.version ≡ 1 →
    IsWhole frame slot first next → IsWhole (made_frame 2 frame.slots frame.floor) slot first next
upgraded_whole frame slot first next one is = record {
  fields = λ k below. by_test k below (stands_on frame.floor (slot k)) refl;
  kept = is.kept;
  room = is.room;
} where
  by_test : (k : ℕ) → k < frame.slots → (b : Bool) → stands_on frame.floor (slot k) ≡ b →
      slot_break (made_frame 2 frame.slots frame.floor) k (slot k) ≡ None
  by_test k below false there = absent_none (made_frame 2 frame.slots frame.floor) k (slot k) there
  by_test k below true there =
      let good = stands_good frame k (slot k) (is.fields k below) there in
      good_none (made_frame 2 frame.slots frame.floor) k (slot k)
      (is_good (made_frame 2 frame.slots frame.floor) k (slot k).head (record {
        short = longer frame.version frame.slots (slot k).head.len one good.short;
        place = good.place;
        number = good.number;
        function = good.function;
      }))

-- the first letters of a name
unlike_if : (b : Bool) (place : ℕ) (rest less : Option ℕ) → (if b then rest else Some place) ≡ None →
    (rest ≡ None → less ≡ None) → (if b then less else Some place) ≡ None
unlike_if true place rest less none more = more none
unlike_if false place rest less none more = absurd (grind (arith, none))

fewer_letters : (place n : ℕ) (wanted front : List ℕ) → unlike_at place wanted front ≡ None →
    unlike_at place (take n wanted) front ≡ None
fewer_letters place zero wanted front none = refl
fewer_letters place (suc n) [] front none = refl
fewer_letters place (suc n) (want ∷ wanted) [] none = none
fewer_letters place (suc n) (want ∷ wanted) (byte ∷ front) none =
    unlike_if (want == byte) place (unlike_at (place + 1) wanted front) (unlike_at (place + 1) (take n wanted) front) none
    (fewer_letters (place + 1) n wanted front)

module _ (bytes now : List ℕ) (one : version_in bytes ≡ 1) (two : version_in now ≡ 2)
    (name : take 7 (front_in now) ≡ take 7 (front_in bytes)) (count : slots_in now ≡ slots_in bytes)
    (mark : cell_in now mark_cell ≡ cell_in bytes mark_cell) (floor : cell_in now floor_cell ≡ cell_in bytes floor_cell)
    (slots : slot_in now ≡ slot_in bytes) (long : length now ≡ length bytes) (sound : spool_break bytes ≡ None) where
  abbrev front : List ℕ
  front = front_in now

  name_none : magic_break front ≡ None
  unfolding magic_break
  name_none =
      let f = front_in bytes in
      let was : unlike_at 0 magic f ≡ None =
      ap (λ (v : ℕ). unlike_at 0 (magic_of v) f) (sym one) ∙ (front_of f (length bytes) (sound_front bytes sound)).name in
      ap (λ (v : ℕ). unlike_at 0 (magic_of v) front) two
      ∙ sym (unlike_front 0 7 (take 7 magic) front (omega arith))
      ∙ ap (λ (xs : List ℕ). unlike_at 0 (take 7 magic) xs) name
      ∙ unlike_front 0 7 (take 7 magic) f (omega arith)
      ∙ fewer_letters 0 7 magic f was

  pub upgraded_frame : frame_in now ≡ made_frame 2 (slots_in bytes) (frame_in bytes).floor
  upgraded_frame =
      ap (λ (v : ℕ). made_frame v (slots_in now) (cell_in now floor_cell).value) two
      ∙ ap (λ (n : ℕ). made_frame 2 n (cell_in now floor_cell).value) count
      ∙ ap (λ (c : Cell). made_frame 2 (slots_in bytes) c.value) floor

  -- the file of version 2 breaks nowhere
  pub upgraded_sound : spool_break now ≡ None
  upgraded_sound =
      let f = front_in bytes in
      let is = front_of f (length bytes) (sound_front bytes sound) in
      let whole = upgraded_whole (frame_in bytes) (slot_in bytes) _ _ one (sound_kept bytes sound) in
      let has = sound_slots bytes sound in
      let frame = made_frame 2 (slots_in bytes) (frame_in bytes).floor in
      spool_sound now frame
      (of_front front (length now) (record {
        name = name_none;
        slots = ap (λ (size : ℕ). slots_break front size) long
            ∙ ap (λ (n : ℕ). if nat_lt (length bytes) 12 then Some (length bytes)
            else (if n == 0 then Some 8 else
            (if nat_lt 65535 n then Some 8 else (if nat_lt (length bytes) (slot_place n) then Some (length bytes)
            else None)))) count ∙ is.slots;
        mark = omega (arith, mark_is now, ap (λ (c : Cell). c.value) mark, mark_is bytes, is.mark);
        floor = omega (arith, floor_is now, ap (λ (c : Cell). c.value) floor, floor_is bytes, is.floor);
      })) (sym upgraded_frame)
      (ap (λ (slot : ℕ → Slot). area_break frame slot) slots
      ∙ kept_area frame (slot_in bytes) (inr refl) (full_in bytes (slots_in bytes) has.fits) has.some _ _ whole)
