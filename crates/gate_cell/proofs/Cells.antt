-- The parts of a cell, and what writing one of them leaves.
use Rattle.std.proofs.Common.{◌≡◌, ℕ, ◌+◌, ◌-◌, ◌^◌, ◌<◌, ◌≤◌, ◌⊎◌, Bool, true, false, not, List, [], ◌∷◌, length, get_or, drop, refl, sym, ap, ◌∙◌, arith, inl, inr, ⊎_elim, length-drop}
use Rattle.std.specs.Int.{w64, from_be_bytes}
use Rattle.std.proofs.lemmas.Bool.{cases_lt}
use Rattle.std.proofs.lemmas.List.{ext_get_or, places, get_or-take, get_or-drop, length-take-le}
use Rattle.std.proofs.lemmas.Nat.{from_be_bytes-to_be_bytes_8}
use Rattle.disk_base.specs.Story.{bytes_at, with_part}
use Rattle.disk_base.proofs.Marks.{length-part, outside_part}
use Rattle.gate_cell.specs.Cell.{Cell, cell_of, copy_bytes, copy_of, copy_place, gate_byte, gate_of, names_second, spare_of}

pub length-bytes_at : (bytes : List ℕ) (from long : ℕ) → from + long ≤ length bytes → length (bytes_at bytes from long) ≡ long
length-bytes_at bytes from long within = length-take-le long (drop from bytes) (omega (arith, within, length-drop from bytes))

pub byte_in : (bytes : List ℕ) (from long place : ℕ) → place < long → get_or (bytes_at bytes from long) place 0 ≡ get_or bytes (from + place) 0
byte_in bytes from long place below = get_or-take long (drop from bytes) place 0 below ∙ get_or-drop from bytes place 0

-- the same bytes, place by place
same_bytes : (one two : List ℕ) (from long : ℕ) → from + long ≤ length one → from + long ≤ length two →
    ((place : ℕ) → place < long → get_or one (from + place) 0 ≡ get_or two (from + place) 0) → bytes_at one from long ≡ bytes_at two from long
same_bytes one two from long first second same =
    let here = length-bytes_at one from long first in
    ext_get_or 0 (bytes_at one from long) (bytes_at two from long) (here ∙ sym (length-bytes_at two from long second)) (λ place below.
    let less : place < long = omega (arith, below, here) in
    byte_in one from long place less ∙ same place less ∙ sym (byte_in two from long place less))

-- bytes before a part, and behind it
beside_part : (all part : List ℕ) (at from long : ℕ) → at + length part ≤ length all → from + long ≤ length all →
    (from + long ≤ at) ⊎ (at + length part ≤ from) → bytes_at (with_part all at part) from long ≡ bytes_at all from long
beside_part all part at from long within there side =
    same_bytes (with_part all at part) all from long (omega (arith, there, length-part all part at within)) there
    (λ place below. outside_part all part at (from + place) 0 within (where_is place below side)) where
      where_is : (place : ℕ) → place < long → (from + long ≤ at) ⊎ (at + length part ≤ from) → (from + place < at) ⊎ (at + length part ≤ from + place)
      where_is place below (inl before) = inl (omega (arith, below, before))
      where_is place below (inr behind) = inr (omega (arith, behind))

byte_of_part : (all part : List ℕ) (at place : ℕ) → at + length part ≤ length all → place < length part →
    get_or (with_part all at part) (at + place) 0 ≡ get_or part place 0
byte_of_part all part at place within below = grind (arith, places, within, below)

-- the part itself
part_there : (all part : List ℕ) (at : ℕ) → at + length part ≤ length all → bytes_at (with_part all at part) at (length part) ≡ part
part_there all part at within =
    let long = length-bytes_at (with_part all at part) at (length part) (omega (arith, within, length-part all part at within)) in
    ext_get_or 0 (bytes_at (with_part all at part) at (length part)) part long (λ place below.
    let less : place < length part = omega (arith, below, long) in
    byte_in (with_part all at part) at (length part) place less ∙ byte_of_part all part at place within less)

-- a part among some bytes
pub part_among : (bytes part : List ℕ) (from size at : ℕ) → from + size ≤ length bytes → at + length part ≤ size →
    bytes_at (with_part bytes (from + at) part) from size ≡ with_part (bytes_at bytes from size) at part
part_among bytes part from size at within among =
    let wide : from + at + length part ≤ length bytes = omega (arith, within, among) in
    let whole = length-part bytes part (from + at) wide in
    let long = length-bytes_at (with_part bytes (from + at) part) from size (omega (arith, within, whole)) in
    let part_long = length-bytes_at bytes from size within in
    let inner : at + length part ≤ length (bytes_at bytes from size) = omega (arith, among, part_long) in
    ext_get_or 0 _ _ (long ∙ sym (length-part (bytes_at bytes from size) part at inner ∙ part_long)) (λ place below.
    let less : place < size = omega (arith, below, long) in
    byte_in (with_part bytes (from + at) part) from size place less
    ∙ ⊎_elim
    (λ (before : place < at). outside_part bytes part (from + at) (from + place) 0 wide (inl (omega (arith, before)))
    ∙ sym (byte_in bytes from size place less)
    ∙ sym (outside_part (bytes_at bytes from size) part at place 0 inner (inl before)))
    (λ (from_there : at ≤ place). ⊎_elim
    (λ (to : place < at + length part). inside place wide inner from_there to)
    (λ (behind : at + length part ≤ place). outside_part bytes part (from + at) (from + place) 0 wide (inr (omega (arith, behind)))
    ∙ sym (byte_in bytes from size place less)
    ∙ sym (outside_part (bytes_at bytes from size) part at place 0 inner (inr behind)))
    (cases_lt place (at + length part)))
    (cases_lt place at)) where
      inside : (place : ℕ) → from + at + length part ≤ length bytes → at + length part ≤ length (bytes_at bytes from size) → at ≤ place → place < at + length part →
          get_or (with_part bytes (from + at) part) (from + place) 0 ≡ get_or (with_part (bytes_at bytes from size) at part) place 0
      inside place wide inner least below =
          let behind : at + (place - at) ≡ place = omega (arith, least) in
          let further : from + at + (place - at) ≡ from + place = omega (arith, least) in
          ap (λ (n : ℕ). get_or (with_part bytes (from + at) part) n 0) (sym further)
          ∙ byte_of_part bytes part (from + at) (place - at) wide (omega (arith, least, below))
          ∙ sym (byte_of_part (bytes_at bytes from size) part at (place - at) inner (omega (arith, least, below)))
          ∙ ap (λ (n : ℕ). get_or (with_part (bytes_at bytes from size) at part) n 0) behind

-- the gate, after other parts were written
gate_kept : (cell part : List ℕ) (at : ℕ) → length cell ≡ 17 → at + length part ≤ 16 → gate_of (with_part cell at part) ≡ gate_of cell
gate_kept cell part at long within = outside_part cell part at 16 0 (omega (arith, long, within)) (inr within)

-- a copy, after the other one was written, and after the gate was
copy_kept : (cell part : List ℕ) (second : Bool) → length cell ≡ 17 → length part ≡ 8 →
    copy_of (with_part cell (copy_place (not second)) part) second ≡ copy_of cell second
unfolding copy_of
copy_kept cell part false long eight =
    ap (λ bytes. from_be_bytes w64 bytes) (beside_part cell part 8 0 8 (omega (arith, long, eight)) (omega (arith, long)) (inl (omega arith)))
copy_kept cell part true long eight =
    ap (λ bytes. from_be_bytes w64 bytes) (beside_part cell part 0 8 8 (omega (arith, long, eight)) (omega (arith, long)) (inr (omega (arith, eight))))

both_kept : (cell part : List ℕ) (second : Bool) → length cell ≡ 17 → length part ≡ 1 → copy_of (with_part cell 16 part) second ≡ copy_of cell second
unfolding copy_of
both_kept cell part false long one =
    ap (λ bytes. from_be_bytes w64 bytes) (beside_part cell part 16 0 8 (omega (arith, long, one)) (omega (arith, long)) (inl (omega arith)))
both_kept cell part true long one =
    ap (λ bytes. from_be_bytes w64 bytes) (beside_part cell part 16 8 8 (omega (arith, long, one)) (omega (arith, long)) (inl (omega arith)))

-- where a copy ends
pub copy_ends : (second : Bool) → copy_place second + 8 ≤ 16
copy_ends false = omega arith
copy_ends true = omega arith

copy_there : (cell part : List ℕ) (second : Bool) → length cell ≡ 17 → length part ≡ 8 →
    copy_of (with_part cell (copy_place second) part) second ≡ from_be_bytes w64 part
unfolding copy_of
copy_there cell part second long eight =
    ap (λ (n : ℕ). from_be_bytes w64 (bytes_at (with_part cell (copy_place second) part) (copy_place second) n)) (sym eight)
    ∙ ap (λ bytes. from_be_bytes w64 bytes) (part_there cell part (copy_place second) (omega (arith, long, eight, copy_ends second)))

-- the cell in which a copy counts, and the copy that doesn't
abbrev counting : List ℕ → Bool → Cell
counting cell second = record { value = copy_of cell second; second = second }

abbrev pub other_copy : List ℕ → Bool
other_copy cell = not (names_second (gate_of cell))

abbrev with_number : Bool → ℕ → Cell
with_number second value = record { value = value; second = second }

module _ (cell part : List ℕ) (long : length cell ≡ 17) where
  -- after the copy was written that the gate doesn't name
  module _ (eight : length part ≡ 8) where
    abbrev written : List ℕ
    written = with_part cell (copy_place (other_copy cell)) part

    pub same_gate : gate_of written ≡ gate_of cell
    same_gate =
        gate_kept cell part (copy_place (other_copy cell)) long (omega (arith, eight, copy_ends (other_copy cell)))

    pub cell_kept : cell_of written ≡ cell_of cell
    cell_kept = ap (λ (gate : ℕ). counting written (names_second gate)) same_gate
        ∙ ap (with_number (names_second (gate_of cell))) (copy_kept cell part (names_second (gate_of cell)) long eight)

    pub spare_there : (spare_of written).value ≡ from_be_bytes w64 part
    spare_there =
        ap (λ (gate : ℕ). copy_of written (not (names_second gate))) same_gate
        ∙ copy_there cell part (other_copy cell) long eight

  -- after the gate was written
  module _ (one : length part ≡ 1) where
    either_copy : (f : Bool → Cell) (new old : Bool) → (f new ≡ f old) ⊎ (f new ≡ f (not old))
    either_copy f false false = inl refl
    either_copy f false true = inr refl
    either_copy f true false = inr refl
    either_copy f true true = inl refl

    abbrev copy_now : Bool
    copy_now = names_second (gate_of (with_part cell 16 part))

    named : cell_of (with_part cell 16 part) ≡ counting cell copy_now
    named = ap (with_number copy_now) (both_kept cell part copy_now long one)

    pub either_cell :
        (cell_of (with_part cell 16 part) ≡ cell_of cell) ⊎ (cell_of (with_part cell 16 part) ≡ spare_of cell)
    either_cell = ⊎_elim (λ same. inl (named ∙ same)) (λ other. inr (named ∙ other))
        (either_copy (counting cell) copy_now (names_second (gate_of cell)))

pub length-copy_bytes : (value : ℕ) → length (copy_bytes value) ≡ 8
unfolding copy_bytes
length-copy_bytes value = refl

number_back : (value : ℕ) → value < 2 ^ 64 → from_be_bytes w64 (copy_bytes value) ≡ value
unfolding copy_bytes
number_back value below = from_be_bytes-to_be_bytes_8 value below

pub spare_ready : (cell : List ℕ) (value : ℕ) → length cell ≡ 17 → value < 2 ^ 64 →
    (spare_of (with_part cell (copy_place (other_copy cell)) (copy_bytes value))).value ≡ value
spare_ready cell value long below = spare_there cell (copy_bytes value) long (length-copy_bytes value) ∙ number_back value below

names_its_own : (second : Bool) → names_second (gate_byte second) ≡ second
names_its_own false = refl
names_its_own true = refl

pub gate_counts : (cell : List ℕ) (second : Bool) → length cell ≡ 17 → second ≡ other_copy cell →
    cell_of (with_part cell 16 (gate_byte second ∷ [])) ≡ spare_of cell
gate_counts cell second long is =
    let gate : gate_of (with_part cell 16 (gate_byte second ∷ [])) ≡ gate_byte second = byte_of_part cell (gate_byte second ∷ []) 16 0 (omega (arith, long)) (omega arith) in
    named cell (gate_byte second ∷ []) long refl
    ∙ ap (counting cell) (ap names_second gate ∙ names_its_own second ∙ is)

-- the gate as a read of one byte gives it
pub gate_read : (bytes : List ℕ) (at : ℕ) → get_or (bytes_at bytes (at + 16) 1) 0 0 ≡ gate_of (bytes_at bytes at 17)
gate_read bytes at =
    byte_in bytes (at + 16) 1 0 (omega arith)
    ∙ ap (λ (n : ℕ). get_or bytes n 0) (omega arith)
    ∙ sym (byte_in bytes at 17 16 (omega arith))
