-- What a crash leaves of a cell whose gate was written and not synced.
use Rattle.std.proofs.Common.{◌≡◌, ℕ, ◌+◌, ◌≤◌, Bool, true, false, not, if◌then◌else◌, List, [], ◌∷◌, length, get_or, slice_index, Option, Some, None, refl, sym, ap, subst, ◌∙◌, arith, inl, inr, ⊎_elim}
use Rattle.std.specs.Int.{w64, from_be_bytes}
use Rattle.disk_base.specs.Calls.{DiskCall}
use Rattle.disk_base.specs.Cut.{chosen_byte, image_of}
use Rattle.disk_base.specs.Faults.{DiskHealth, GoesAsListed, IsLeftOut, IsUsed}
use Rattle.disk_base.specs.Images.{is_in, is_loose}
use Rattle.disk_base.specs.Listed.{AsListed}
use Rattle.disk_base.specs.Settle.{LogsBoth}
use Rattle.disk_base.specs.Story.{Story, bytes_at, with_part, with_write}
use Rattle.disk_base.specs.Through.{IsImageBut}
use Rattle.disk_base.specs.declared.cut.CutChoice.{CutChoice}
use Rattle.disk_base.specs.declared.disk.DiskAnswer.TheVariants.{Done, Failed}
use Rattle.disk_base.proofs.Marks.{beside, length-part, not_either}
use Rattle.disk_base.proofs.Moments.{now_is}
use Rattle.disk_base.proofs.Stretches.{both_wider}
use Rattle.gate_cell.specs.Cell.{Cell, cell_in, copy_of, copy_place, gate_byte, gate_of, names_second, with_value}
use Rattle.gate_cell.specs.Holds.{Holds}
use Rattle.gate_cell.specs.Ready.{HasSpare, IsReady, Prepares}
use Rattle.gate_cell.proofs.Values.{others_behind, spare_now}
use Rattle.spool_file.proofs.Fronts.{copy_in_cell}
use Rattle.spool_file.proofs.Written.{at-taken, byte_beside, bytes_beside, part_at}
use Rattle.spool_slots.specs.Losses.{IsSure, LeavesValue, cell_left, gate_counts, names_spare}
use Rattle.spool_slots.proofs.Lost.{ChosenLaw, HasWrittenLaw, left_by, sure_behind}

-- a copy ends before the gate
ends : (b : Bool) → copy_place b + 8 ≤ 16
ends false = omega arith
ends true = omega arith

-- a cell of which this copy counts, and which copy counts by a gate
abbrev counting : List ℕ → Bool → Cell
counting bytes second = record { value = copy_of bytes second; second = second }

by_name : (second named : Bool) (f : Bool → Cell) →
    f named ≡ cell_left (if second then not named else named) (f (not second)) (f second)
by_name true true f = refl
by_name true false f = refl
by_name false true f = refl
by_name false false f = refl

-- the gate of the copy that counts, and that of the other one
names_old : (cell : Cell) (gate : ℕ) → names_second gate ≡ cell.second → names_spare cell gate ≡ false
names_old cell gate is = ap (λ (b : Bool). if cell.second then not b else b) is ∙ none cell.second where
  none : (b : Bool) → (if b then not b else b) ≡ false
  none true = refl
  none false = refl

names_new : (cell : Cell) (second : Bool) → second ≡ not cell.second → names_spare cell (gate_byte second) ≡ true
names_new cell second is =
    ap (λ (b : Bool). if cell.second then not (names_second (gate_byte b)) else names_second (gate_byte b)) is
    ∙ other cell.second where
      other : (b : Bool) →
          (if b then not (names_second (gate_byte (not b))) else names_second (gate_byte (not b))) ≡ true
      other true = refl
      other false = refl

abbrev story_or : Story → Option Story → Story
story_or other None = other
story_or other (Some s) = s

abbrev loose_or : Option Story → List (ℕ × ℕ)
loose_or None = []
loose_or (Some s) = s.now.loose

-- behind a value that was prepared
module _ (s t : Story) (at value : ℕ) (second : Bool) (prepared : Prepares s at value (Some t) Done) (ready : IsReady at value (Some t))
    (spare : HasSpare t at second) (second_is : second ≡ not (cell_in s.now.bytes at).second) where
  -- the cell as it was, with the new value, and its bytes now
  abbrev old : Cell
  old = cell_in s.now.bytes at

  abbrev new : Cell
  new = with_value value old

  abbrev cell : List ℕ
  cell = bytes_at t.now.bytes at 17

  settled : t.now.loose ≡ []
  settled = ap loose_or prepared.settles

  old_there : cell_in t.now.bytes at ≡ old
  old_there =
      let goes = prepared.images in
      let same : goes.0 ≡ t = ap (λ (o : Option Story). story_or t o) (sym goes.1) in
      (subst (λ (u : Story). Holds s.now at old u.now.bytes) same
      (goes.2.last goes.0.now.bytes (now_is goes.0.now))).held

  module _ (p : ℕ) where
    abbrev now : List ℕ
    now = with_part t.now.bytes (at + 16) (p ∷ [])

    within : at + 16 + length (p ∷ []) ≤ length t.now.bytes
    within = omega (arith, spare.within)

    copies : (b : Bool) → copy_of (bytes_at now at 17) b ≡ copy_of cell b
    copies b =
        copy_in_cell at now b
        ∙ ap (λ (xs : List ℕ). from_be_bytes w64 xs) (bytes_beside t.now.bytes (p ∷ []) (at + 16) within (at + copy_place b) 8 (inl (omega (arith, ends b))))
        ∙ sym (copy_in_cell at t.now.bytes b)

    gate_now : gate_of (bytes_at now at 17) ≡ p
    gate_now =
        at-taken now at 17 16 0 (omega arith)
        ∙ ap (λ (i : ℕ). get_or now i 0) (omega arith)
        ∙ part_at t.now.bytes (p ∷ []) (at + 16) within 0 0 (omega arith)

    cell_now : cell_in now at ≡ cell_left (names_spare old p) new old
    cell_now =
        ap (λ (g : ℕ). counting (bytes_at now at 17) (names_second g)) gate_now
        ∙ ap (λ (n : ℕ). record { value = n; second = names_second p }) (copies (names_second p))
        ∙ by_name (cell_in t.now.bytes at).second (names_second p) (counting cell)
        ∙ ap (λ (c : Cell). cell_left (names_spare (cell_in t.now.bytes at) p) c (cell_in t.now.bytes at))
        (spare_now s t at value prepared ready)
        ∙ ap (λ (c : Cell). cell_left (names_spare c p) new c) old_there

    others : IsImageBut s.now at 17 now
    others = others_behind s t at value prepared ready now (record {
      long = length-part t.now.bytes (p ∷ []) (at + 16) within;
      kept = λ place out. byte_beside t.now.bytes (p ∷ []) (at + 16) within place
          (⊎_elim (λ before. inl (omega (arith, before))) (λ behind. inr (omega (arith, behind)))
          (beside place (at, 17) (not_either (is_in place (at, 17)) (is_loose t.now.loose place) out).0));
    })

  old_gate : names_spare old (slice_index t.now.bytes (at + 16)) ≡ false
  old_gate = names_old old (slice_index t.now.bytes (at + 16))
      (ap names_second (sym (at-taken t.now.bytes at 17 16 0 (omega arith))) ∙ ap (λ (c : Cell). c.second) old_there)

  new_gate : names_spare old (gate_byte second) ≡ true
  new_gate = names_new old second second_is

  -- the byte that a crash leaves
  abbrev left_byte : CutChoice → ℕ
  left_byte choice = chosen_byte choice (slice_index t.now.bytes (at + 16)) (gate_byte second)

  counts : (choice : CutChoice) → names_spare old (left_byte choice) ≡ gate_counts choice (names_spare old)
  counts choice =
      left_by (names_spare old) choice (slice_index t.now.bytes (at + 16)) (gate_byte second) old_gate new_gate

  image : ChosenLaw → (after : Option Story) → after ≡ Some (with_write (at + 16) (gate_byte second ∷ []) t) → (u : Story) → after ≡ Some u → (choice : CutChoice) →
      with_part t.now.bytes (at + 16) (left_byte choice ∷ []) ≡ image_of choice u
  image one_byte_left after written u told choice =
      let same : with_write (at + 16) (gate_byte second ∷ []) t ≡ u = ap (λ (o : Option Story). story_or u o) (sym written ∙ told) in
      sym (one_byte_left choice t (at + 16) (gate_byte second) settled (omega (arith, spare.within))) ∙ ap (λ (w : Story). image_of choice w) same

  pub lost_value : ChosenLaw → (after : Option Story) → after ≡ Some (with_write (at + 16) (gate_byte second ∷ []) t) → LeavesValue s at value after
  lost_value one_byte_left after written u told choice =
      subst (λ (i : List ℕ). Holds s.now at (cell_left (gate_counts choice (names_spare old)) new old) i)
      (image one_byte_left after written u told choice) (record {
        others = others (left_byte choice);
        held = cell_now (left_byte choice) ∙ ap (λ (b : Bool). cell_left b new old) (counts choice);
      })

-- the same of the calls that came into the list
pub lost_late : HasWrittenLaw → ChosenLaw → (s t : Story) (at value there : ℕ) (second : Bool) (h k l : DiskHealth) (mid after : Option Story)
    (calls calls_after : Option (List DiskCall)) → IsSure h l 5 9 → IsUsed h k 3 8 → mid ≡ Some t → Prepares s at value mid Done → IsReady at value mid →
    there ≡ at → HasSpare t there second → second ≡ not (cell_in s.now.bytes at).second →
    ((all : List DiskCall) × (calls ≡ Some all)) → LogsBoth (there + 16) (gate_byte second ∷ []) (IsLeftOut k l) calls calls_after Failed →
    (GoesAsListed k → AsListed mid calls after calls_after) → LeavesValue s at value after
lost_late has_written one_byte_left s t at value there second h k l mid after calls calls_after sure used told prepared ready is_at spare second_is all logs listed =
    let sure_now : IsSure k l 2 1 = sure_behind h k l 3 8 used 2 1 5 9 (omega arith) (omega arith) sure in
    let here : LogsBoth (there + 16) (gate_byte second ∷ []) (λ made n. ⊥) (Some all.0) calls_after Failed =
    subst (λ (o : Option (List DiskCall)). LogsBoth (there + 16) (gate_byte second ∷ []) (λ made n. ⊥) o calls_after Failed) all.1
    (both_wider (there + 16) (gate_byte second ∷ []) (IsLeftOut k l) (λ made n. ⊥) calls calls_after Failed sure_now.listed logs) in
    let as_listed : AsListed (Some t) (Some all.0) after calls_after =
    subst (λ (o : Option (List DiskCall)). AsListed (Some t) o after calls_after) all.1
    (subst (λ (o : Option Story). AsListed o calls after calls_after) told (listed sure_now.going)) in
    let written : after ≡ Some (with_write (there + 16) (gate_byte second ∷ []) t) =
    has_written t (there + 16) (gate_byte second ∷ []) all.0 after calls_after here as_listed in
    let prepared_t = subst (λ (o : Option Story). Prepares s at value o Done) told prepared in
    let ready_t = subst (λ (o : Option Story). IsReady at value o) told ready in
    let spare_t = subst (λ (n : ℕ). HasSpare t n second) is_at spare in
    let written_t = subst (λ (n : ℕ). after ≡ Some (with_write (n + 16) (gate_byte second ∷ []) t)) is_at written in
    lost_value s t at value second prepared_t ready_t spare_t second_is one_byte_left after written_t
