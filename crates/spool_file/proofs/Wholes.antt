-- A whole file: its front and its slots together, of either version.
use Rattle.std.proofs.Common.{◌≡◌, ◌⊎◌, ℕ, ◌+◌, ◌<◌, ◌≤◌, false, List, length, drop, Option, Some, None, refl, sym, ap}
use Rattle.std.proofs.Common.{subst, ◌∙◌, arith, inl, inr, length-drop}
use Rattle.std.proofs.lemmas.List.{length-take-le}
use Rattle.spool_file.specs.Area.{first_of, next_of, or_else}
use Rattle.spool_file.specs.Breaks.{area_break, list_below}
use Rattle.spool_file.specs.File.{frame_in, slots_in, spool_break}
use Rattle.spool_file.specs.Front.{front_break, front_in}
use Rattle.spool_file.specs.Run.{IsChainFrom}
use Rattle.spool_file.specs.Slot.{Slot, slot_in, slot_place, stands_on}
use Rattle.spool_file.specs.declared.slot.Frame.{Frame}
use Rattle.spool_file.specs.declared.slots.Scan.{Scan}
use Rattle.spool_file.proofs.Chains.{chain_kept, kept_chain, total_below}
use Rattle.spool_file.proofs.Firsts.{both_none}
use Rattle.spool_file.proofs.Fronts.{HasSlots, front_of, has_slots, version_either}
use Rattle.spool_file.proofs.Gapless.{even_kept, kept_even}
use Rattle.spool_file.proofs.Runs.{chain_total}
use Rattle.spool_file.proofs.Scans.{IsScan}
use Rattle.spool_file.proofs.Sound.{IsFull, IsWhole, absent_none, none_held}

-- slots that pass the tests hold a chain, and the other way round, whatever their version
module _ (frame : Frame) (slot : ℕ → Slot) (version : (frame.version ≡ 1) ⊎ (frame.version ≡ 2))
    (full : IsFull slot frame.slots) (some : 1 ≤ frame.slots) where
  pub area_kept : area_break frame slot ≡ None → IsWhole frame slot
      (first_of frame.floor (list_below frame slot frame.slots)) (next_of frame.floor (list_below frame slot frame.slots))
  area_kept none = by_version version where
    by_version : (frame.version ≡ 1) ⊎ (frame.version ≡ 2) → IsWhole frame slot
        (first_of frame.floor (list_below frame slot frame.slots))
        (next_of frame.floor (list_below frame slot frame.slots))
    by_version (inl one) = kept_even frame slot one none
    by_version (inr two) = kept_chain frame slot full some two none

  pub kept_area : (first next : ℕ) → IsWhole frame slot first next → area_break frame slot ≡ None
  kept_area first next is = by_version version where
    by_version : (frame.version ≡ 1) ⊎ (frame.version ≡ 2) → area_break frame slot ≡ None
    by_version (inl one) = even_kept frame slot one first next is
    by_version (inr two) = chain_kept frame slot full some two first next is

  -- where none stands, nothing breaks
  pub none_break : ((k : ℕ) → k < frame.slots → stands_on frame.floor (slot k) ≡ false) → area_break frame slot ≡ None
  none_break none = kept_area frame.floor frame.floor (record {
    fields = λ k below. absent_none frame k (slot k) (none k below);
    kept = record {
      places = λ k below there. absurd (grind (arith, none k below, there));
      chain = subst (IsChainFrom frame.floor frame.floor) (sym (none_held frame slot none)) refl;
    };
    room = omega arith;
  })

-- the areas of slots that the bytes hold are whole
pub full_in : (bytes : List ℕ) (n : ℕ) → slot_place n ≤ length bytes → IsFull (slot_in bytes) n
full_in bytes n fits k below =
    length-take-le 4081 (drop (slot_place k + 15) bytes)
    (omega (arith, fits, below, length-drop (slot_place k + 15) bytes))

module _ (bytes : List ℕ) where
  -- front and slots make the file
  pub spool_sound : (frame : Frame) → front_break (front_in bytes) (length bytes) ≡ None → frame ≡ frame_in bytes →
      area_break frame (slot_in bytes) ≡ None → spool_break bytes ≡ None
  spool_sound frame front same area =
      ap (λ (o : Option ℕ). or_else o (area_break (frame_in bytes) (slot_in bytes))) front
      ∙ ap (λ (f : Frame). area_break f (slot_in bytes)) (sym same) ∙ area

  -- and the other way round
  pub sound_front : spool_break bytes ≡ None → front_break (front_in bytes) (length bytes) ≡ None
  sound_front none =
      (both_none (front_break (front_in bytes) (length bytes)) (area_break (frame_in bytes) (slot_in bytes)) none).0

  pub sound_slots : spool_break bytes ≡ None → HasSlots (slots_in bytes) (length bytes)
  sound_slots none =
      has_slots (front_in bytes) (length bytes) (front_of (front_in bytes) (length bytes) (sound_front none)).slots

  pub sound_area : spool_break bytes ≡ None → area_break (frame_in bytes) (slot_in bytes) ≡ None
  sound_area none =
      (both_none (front_break (front_in bytes) (length bytes)) (area_break (frame_in bytes) (slot_in bytes)) none).1

  -- whatever the frame is called
  module _ (frame : Frame) (frame_is : frame ≡ frame_in bytes) where
    pub area_sound : spool_break bytes ≡ None → area_break frame (slot_in bytes) ≡ None
    area_sound none = ap (λ (f : Frame). area_break f (slot_in bytes)) frame_is ∙ sound_area none

    pub spool_broken : (at : ℕ) → front_break (front_in bytes) (length bytes) ≡ None →
        area_break frame (slot_in bytes) ≡ Some at → spool_break bytes ≡ Some at
    spool_broken at front area =
        ap (λ (o : Option ℕ). or_else o (area_break (frame_in bytes) (slot_in bytes))) front
        ∙ ap (λ (f : Frame). area_break f (slot_in bytes)) (sym frame_is) ∙ area

  -- a sound file holds a chain
  pub sound_kept : spool_break bytes ≡ None → IsWhole (frame_in bytes) (slot_in bytes)
      (first_of (frame_in bytes).floor (list_below (frame_in bytes) (slot_in bytes) (slots_in bytes)))
      (next_of (frame_in bytes).floor (list_below (frame_in bytes) (slot_in bytes) (slots_in bytes)))
  sound_kept none =
      let slots = sound_slots none in
      area_kept (frame_in bytes) (slot_in bytes) (version_either (front_in bytes))
      (full_in bytes (slots_in bytes) slots.fits) slots.some (sound_area none)

  -- the number behind them is that behind the first one by as many as they take
  pub next_counted : (scan : Scan) → spool_break bytes ≡ None →
      IsScan (frame_in bytes) (slot_in bytes) (slots_in bytes) scan →
      scan.least + scan.used
      ≡ next_of (frame_in bytes).floor (list_below (frame_in bytes) (slot_in bytes) (slots_in bytes))
  next_counted scan none is =
      let slots = sound_slots none in
      let kept = sound_kept none in
      let all = total_below (frame_in bytes) (slot_in bytes) (full_in bytes (slots_in bytes) slots.fits) slots.some
      (slots_in bytes) (omega arith) in
      omega (arith, is.least, is.used, all, chain_total _ _ _ kept.kept.chain)
