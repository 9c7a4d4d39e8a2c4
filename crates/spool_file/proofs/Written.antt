-- The slots of a file of which a part was written.
use Rattle.std.proofs.Common.{◌≡◌, ℕ, ◌+◌, ◌<◌, ◌≤◌, ◌⊎◌, min, List, [], ◌∷◌, length, drop, get_or, slice_index, sym}
use Rattle.std.proofs.Common.{ap, ◌∙◌, arith, inl, inr, length-drop}
use Rattle.std.proofs.lemmas.Bool.{cases_lt}
use Rattle.std.proofs.lemmas.List.{places, length-take, get_or-take, get_or-drop, same_lists}
use Rattle.disk_base.specs.Story.{bytes_at, with_part}
use Rattle.disk_base.proofs.Marks.{length-part, outside_part}
use Rattle.spool_file.specs.Front.{front_in, front_size}
use Rattle.spool_file.specs.Slot.{Slot, head_of, slot_in, slot_place}

length-same : (xs ys : List ℕ) (from n : ℕ) → length xs ≡ length ys →
    length (bytes_at xs from n) ≡ length (bytes_at ys from n)
length-same xs ys from n same =
    length-take n (drop from xs)
    ∙ ap (λ (k : ℕ). min n k) (length-drop from xs ∙ omega (arith, same) ∙ sym (length-drop from ys))
    ∙ sym (length-take n (drop from ys))

below-taken : (xs : List ℕ) (from n k : ℕ) → k < length (bytes_at xs from n) → k < n
below-taken xs from n k below = omega (arith, below, length-take n (drop from xs))

pub at-taken : (xs : List ℕ) (from n k d : ℕ) → k < n → get_or (bytes_at xs from n) k d ≡ get_or xs (from + k) d
at-taken xs from n k d below = get_or-take n (drop from xs) k d below ∙ get_or-drop from xs k d

module _ (bytes part : List ℕ) (at : ℕ) (inside : at + length part ≤ length bytes) where
  -- bytes beside the part are as they were
  pub byte_beside : (place : ℕ) → (place < at) ⊎ (at + length part ≤ place) →
      slice_index (with_part bytes at part) place ≡ slice_index bytes place
  byte_beside place side = outside_part bytes part at place 0 inside side

  side_at : (from n k : ℕ) → (from + n ≤ at) ⊎ (at + length part ≤ from) → k < n →
      (from + k < at) ⊎ (at + length part ≤ from + k)
  side_at from n k (inl before) below = inl (omega (arith, before, below))
  side_at from n k (inr behind) below = inr (omega (arith, behind))

  pub bytes_beside : (from n : ℕ) → (from + n ≤ at) ⊎ (at + length part ≤ from) →
      bytes_at (with_part bytes at part) from n ≡ bytes_at bytes from n
  bytes_beside from n side =
      same_lists (bytes_at (with_part bytes at part) from n) (bytes_at bytes from n)
      (length-same (with_part bytes at part) bytes from n (length-part bytes part at inside))
      (λ k d below. let less = below-taken (with_part bytes at part) from n k below in
      at-taken (with_part bytes at part) from n k d less
      ∙ outside_part bytes part at (from + k) d inside (side_at from n k side less)
      ∙ sym (at-taken bytes from n k d less))

  -- and those of the part are the part's
  pub part_at : (place d : ℕ) → place < length part →
      get_or (with_part bytes at part) (at + place) d ≡ get_or part place d
  part_at place d below = grind (arith, places, inside, below)

  pub bytes_inside : (from n : ℕ) → from + n ≤ length part →
      bytes_at (with_part bytes at part) (at + from) n ≡ bytes_at part from n
  bytes_inside from n within =
      same_lists (bytes_at (with_part bytes at part) (at + from) n) (bytes_at part from n)
      (length-take n (drop (at + from) (with_part bytes at part))
      ∙ ap (λ (k : ℕ). min n k) (length-drop (at + from) (with_part bytes at part))
      ∙ omega (arith, length-part bytes part at inside, inside, within, length-drop from part)
      ∙ sym (length-take n (drop from part)))
      (λ k d below. let less = below-taken (with_part bytes at part) (at + from) n k below in
      at-taken (with_part bytes at part) (at + from) n k d less
      ∙ ap (λ (p : ℕ). get_or (with_part bytes at part) p d) (omega arith)
      ∙ part_at (from + k) d (omega (arith, within, less))
      ∙ sym (at-taken part from n k d less))

  pub front_beside : front_size ≤ at → front_in (with_part bytes at part) ≡ front_in bytes
  front_beside before = bytes_beside 0 front_size (inl (omega (arith, before)))

abbrev made : ℕ → List ℕ → List ℕ → Slot
made gate fields area = record { gate = gate; head = head_of fields; area = area }

made_same : (gate gate' : ℕ) (fields fields' area area' : List ℕ) → gate ≡ gate' → fields ≡ fields' → area ≡ area' →
    made gate fields area ≡ made gate' fields' area'
made_same gate gate' fields fields' area area' a b c =
    ap (λ (g : ℕ). made g fields area) a ∙ ap (λ (f : List ℕ). made gate' f area) b
    ∙ ap (λ (r : List ℕ). made gate' fields' r) c

-- the slots beside a part stay
module _ (bytes part : List ℕ) (at k : ℕ) (inside : at + length part ≤ length bytes)
    (side : (slot_place k + 4096 ≤ at) ⊎ (at + length part ≤ slot_place k)) where
  within : (from n : ℕ) → slot_place k ≤ from → from + n ≤ slot_place k + 4096 →
      (slot_place k + 4096 ≤ at) ⊎ (at + length part ≤ slot_place k) →
      (from + n ≤ at) ⊎ (at + length part ≤ from)
  within from n a b (inl before) = inl (omega (arith, b, before))
  within from n a b (inr behind) = inr (omega (arith, a, behind))

  place_in : (slot_place k + 4096 ≤ at) ⊎ (at + length part ≤ slot_place k) →
      (slot_place k < at) ⊎ (at + length part ≤ slot_place k)
  place_in (inl before) = inl (omega (arith, before))
  place_in (inr behind) = inr behind

  pub slot_beside : slot_in (with_part bytes at part) k ≡ slot_in bytes k
  slot_beside =
      made_same _ _ _ _ _ _ (byte_beside bytes part at inside (slot_place k) (place_in side))
      (bytes_beside bytes part at inside (slot_place k + 1) 14
      (within (slot_place k + 1) 14 (omega arith) (omega arith) side))
      (bytes_beside bytes part at inside (slot_place k + 15) 4081
      (within (slot_place k + 15) 4081 (omega arith) (omega arith) side))

-- a part in slot j stands beside slot k
side_of : (j k at p long : ℕ) → at ≡ slot_place j + p → p + long ≤ 4096 → (k < j) ⊎ (j ≤ k) → (k ≡ j → ⊥) →
    (slot_place k + 4096 ≤ at) ⊎ (at + long ≤ slot_place k)
side_of j k at p long is short (inl before) other = inl (omega (arith, is, before))
side_of j k at p long is short (inr behind) other =
    let less : j < k = grind (arith, behind, other) in inr (omega (arith, is, less, short))

-- so a part in slot j leaves the others
pub others_stay : (bytes part : List ℕ) (j k at p : ℕ) → at ≡ slot_place j + p → at + length part ≤ length bytes →
    p + length part ≤ 4096 →
    (k ≡ j → ⊥) → slot_in (with_part bytes at part) k ≡ slot_in bytes k
others_stay bytes part j k at p is inside short other =
    slot_beside bytes part at k inside (side_of j k at p (length part) is short (cases_lt k j) other)

-- a gate that was written
pub gate_written : (bytes : List ℕ) (j gate : ℕ) → slot_place j + 4096 ≤ length bytes →
    slot_in (with_part bytes (slot_place j) (gate ∷ [])) j ≡ record {
      gate = gate;
      head = (slot_in bytes j).head;
      area =
          (slot_in bytes j).area;
    }
gate_written bytes j gate inside =
    let fits : slot_place j + length (gate ∷ []) ≤ length bytes = omega (arith, inside) in
    made_same _ gate _ _ _ _
    (ap (λ (p : ℕ). get_or (with_part bytes (slot_place j) (gate ∷ [])) p 0) (omega arith)
    ∙ part_at bytes (gate ∷ []) (slot_place j) fits 0 0 (omega arith))
    (bytes_beside bytes (gate ∷ []) (slot_place j) fits (slot_place j + 1) 14 (inr (omega arith)))
    (bytes_beside bytes (gate ∷ []) (slot_place j) fits (slot_place j + 15) 4081 (inr (omega arith)))

-- parts that were written leave the gate
pub gate_stays : (bytes part : List ℕ) (j : ℕ) → slot_place j + 1 + length part ≤ length bytes →
    (slot_in (with_part bytes (slot_place j + 1) part) j).gate ≡ (slot_in bytes j).gate
gate_stays bytes part j inside = byte_beside bytes part (slot_place j + 1) inside (slot_place j) (inl (omega arith))

-- and are there
pub parts_there : (bytes part : List ℕ) (j from n : ℕ) → slot_place j + 1 + length part ≤ length bytes →
    from + n ≤ length part →
    bytes_at (with_part bytes (slot_place j + 1) part) (slot_place j + 1 + from) n ≡ bytes_at part from n
parts_there bytes part j from n inside within = bytes_inside bytes part (slot_place j + 1) inside from n within
