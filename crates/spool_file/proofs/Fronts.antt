-- What another value of a cell in front of the slots leaves: all that the tests take, but this value.
use Rattle.std.proofs.Common.{◌≡◌, ◌⊎◌, ℕ, zero, suc, ◌+◌, ◌<◌, ◌≤◌, ◌==◌, ◌-◌, ◌^◌, nat_lt, Bool, true, false}
use Rattle.std.proofs.Common.{if◌then◌else◌, List, [], ◌∷◌, length, take, drop, get_or, Option, Some, None, refl, sym, ap}
use Rattle.std.proofs.Common.{◌∙◌, arith, inl, inr}
use Rattle.std.proofs.lemmas.Bool.Decides.{nat_tests}
use Rattle.std.proofs.lemmas.List.{drop-drop, drop-take, get_or-take, take-take}
use Rattle.std.specs.Int.{w32, w64, from_be_bytes}
use Rattle.disk_base.specs.Story.{bytes_at, with_part}
use Rattle.disk_base.proofs.Marks.{length-part, outside_part}
use Rattle.gate_cell.specs.Cell.{Cell, cell_in, cell_of, copy_of, copy_place, names_second}
use Rattle.spool_file.specs.Area.{or_else}
use Rattle.spool_file.specs.File.{floor_in, frame_in, slots_in, version_in}
use Rattle.spool_file.specs.Front.{floor_break, floor_cell, floor_of, frame_of, front_break, front_in, front_size, magic}
use Rattle.spool_file.specs.Front.{magic_break, magic_of, mark_break, mark_cell, mark_of, slots_break, slots_of}
use Rattle.spool_file.specs.Front.{unlike_at, version_gate, version_of}
use Rattle.spool_file.specs.Slot.{slot_in, slot_place}
use Rattle.spool_file.specs.declared.slot.Frame.{Frame}
use Rattle.spool_file.proofs.Firsts.{both_none}
use Rattle.spool_file.proofs.Written.{bytes_beside, slot_beside}

-- ---- a cell by its bytes, and as the tests take it

pub copy_in_cell : (at : ℕ) (front : List ℕ) (second : Bool) →
    copy_of (bytes_at front at 17) second ≡ from_be_bytes w64 (bytes_at front (at + copy_place second) 8)
unfolding copy_of
copy_in_cell at front false =
    let place : at ≡ at + 0 = omega arith in
    ap (λ (xs : List ℕ). from_be_bytes w64 xs)
    (take-take 8 17 (drop at front) (omega arith) ∙ ap (λ (p : ℕ). take 8 (drop p front)) place)
copy_in_cell at front true =
    ap (λ (xs : List ℕ). from_be_bytes w64 xs)
    (ap (λ (xs : List ℕ). take 8 xs) (drop-take 8 9 (drop at front))
    ∙ take-take 8 9 (drop 8 (drop at front)) (omega arith)
    ∙ ap (λ (xs : List ℕ). take 8 xs) (drop-drop 8 at front))

-- bytes that lie among the first ones of a file, as a cell does
pub bytes_taken : (at size n : ℕ) (bytes : List ℕ) → at + size ≤ n →
    bytes_at (take n bytes) at size ≡ bytes_at bytes at size
bytes_taken at size n bytes within =
    let rest : n ≡ at + (n - at) = omega (arith, within) in
    ap (λ (m : ℕ). bytes_at (take m bytes) at size) rest
    ∙ ap (λ (xs : List ℕ). take size xs) (drop-take at (n - at) bytes)
    ∙ take-take size (n - at) (drop at bytes) (omega (arith, within))

pub front_cell : (at n : ℕ) (bytes : List ℕ) → at + 17 ≤ n → cell_in bytes at ≡ cell_in (take n bytes) at
front_cell at n bytes within = ap cell_of (sym (bytes_taken at 17 n bytes within))

-- so mark and floor are the values of their cells
pub mark_is : (bytes : List ℕ) → (cell_in bytes mark_cell).value ≡ mark_of (front_in bytes)
mark_is bytes = ap (λ (cell : Cell). cell.value) (front_cell mark_cell front_size bytes (omega arith))

pub floor_is : (bytes : List ℕ) → floor_in bytes ≡ floor_of (front_in bytes)
floor_is bytes = ap (λ (cell : Cell). cell.value) (front_cell floor_cell front_size bytes (omega arith))

-- a frame of these parts
abbrev pub made_frame : (version slots floor : ℕ) → Frame
made_frame version slots floor = record { version = version; slots = slots; floor = floor }

pub frame_is : (bytes : List ℕ) → frame_in bytes ≡ frame_of (front_in bytes)
frame_is bytes = ap (λ (floor : ℕ). made_frame (version_in bytes) (slots_in bytes) floor) (floor_is bytes)

-- ---- the name, and how many slots there are

-- the name of such files is in the first bytes
pub unlike_front : (place n : ℕ) (wanted front : List ℕ) → length wanted ≤ n →
    unlike_at place wanted (take n front) ≡ unlike_at place wanted front
unlike_front place n [] front within = refl
unlike_front place zero (want ∷ wanted) front within = absurd (omega (arith, within))
unlike_front place (suc n) (want ∷ wanted) [] within = refl
unlike_front place (suc n) (want ∷ wanted) (byte ∷ front) within =
    ap (λ (o : Option ℕ). if want == byte then o else Some place)
    (unlike_front (place + 1) n wanted front (omega (arith, within)))

short_magic : (version : ℕ) → length (magic_of version) ≤ 12
short_magic version = by_version (version == 1) where
  by_version : (b : Bool) → length (if b then magic else take 7 magic) ≤ 12
  by_version true = omega arith
  by_version false = omega arith

-- the version is one of two
abbrev version_if : Bool → ℕ
version_if b = if b then 2 else 1

pub version_either : (front : List ℕ) → (version_of front ≡ 1) ⊎ (version_of front ≡ 2)
version_either front = by_gate (names_second (get_or front version_gate 1)) where
  by_gate : (b : Bool) → (version_if b ≡ 1) ⊎ (version_if b ≡ 2)
  by_gate true = inr refl
  by_gate false = inl refl

small : (m p most : ℕ) → m ≤ most → (if nat_lt most m then Some p else None) ≡ None
small m p most low = grind (arith, nat_tests, low)

of_small : (m p most : ℕ) → (if nat_lt most m then Some p else None) ≡ None → m ≤ most
of_small m p most none = grind (arith, nat_tests, none)

-- the tests of a front, one by one
pub record IsFront (f : List ℕ) (size : ℕ) : Type 0 where
  pub name : magic_break f ≡ None
  pub slots : slots_break f size ≡ None
  pub mark : mark_of f ≤ 2 ^ 32
  pub floor : floor_of f ≤ 2 ^ 63

pub front_of : (f : List ℕ) (size : ℕ) → front_break f size ≡ None → IsFront f size
unfolding front_break
front_of f size none =
    let floor = or_else (floor_break f) None in
    let all = both_none (magic_break f) (or_else (slots_break f size) (or_else (mark_break f) floor)) none in
    let rest = both_none (slots_break f size) (or_else (mark_break f) floor) all.1 in
    let cells = both_none (mark_break f) floor rest.1 in
    let last = both_none (floor_break f) None cells.1 in
    record {
      name = all.0;
      slots = rest.0;
      mark = of_small (mark_of f) (mark_cell + copy_place (cell_in f mark_cell).second) (2 ^ 32) cells.0;
      floor = of_small (floor_of f) (floor_cell + copy_place (cell_in f floor_cell).second) (2 ^ 63) last.0;
    }

pub of_front : (f : List ℕ) (size : ℕ) → IsFront f size → front_break f size ≡ None
unfolding front_break
of_front f size is =
    let floor = or_else (floor_break f) None in
    ap (λ (o : Option ℕ). or_else o (or_else (slots_break f size) (or_else (mark_break f) floor))) is.name
    ∙ ap (λ (o : Option ℕ). or_else o (or_else (mark_break f) floor)) is.slots
    ∙ ap (λ (o : Option ℕ). or_else o floor)
    (small (mark_of f) (mark_cell + copy_place (cell_in f mark_cell).second) (2 ^ 32) is.mark)
    ∙ ap (λ (o : Option ℕ). or_else o None)
    (small (floor_of f) (floor_cell + copy_place (cell_in f floor_cell).second) (2 ^ 63) is.floor)

-- how many slots there are
pub record HasSlots (slots size : ℕ) : Type 0 where
  pub some : 1 ≤ slots
  pub most : slots ≤ 65535
  pub fits : slot_place slots ≤ size

pub has_slots : (f : List ℕ) (size : ℕ) → slots_break f size ≡ None → HasSlots (slots_of f) size
has_slots f size none = by_slots (slots_of f) none where
  by_slots : (n : ℕ) → (if nat_lt size 12 then Some size
      else (if n == 0 then Some 8 else
      (if nat_lt 65535 n then Some 8 else (if nat_lt size (slot_place n) then Some size else None)))) ≡ None →
      HasSlots n size
  by_slots n none = record {
    some = grind (arith, nat_tests, none);
    most = grind (arith, nat_tests, none);
    fits = grind (arith, nat_tests, none);
  }

pub slots_same : (f g : List ℕ) → take 12 f ≡ take 12 g → slots_of f ≡ slots_of g
slots_same f g same =
    ap (λ (xs : List ℕ). from_be_bytes w32 xs)
    (sym (drop-take 8 4 f) ∙ ap (λ (xs : List ℕ). drop 8 xs) same ∙ drop-take 8 4 g)

module _ (f g : List ℕ) (same : take 12 f ≡ take 12 g) (version : version_of f ≡ version_of g) where
  magic_same : magic_break f ≡ magic_break g
  unfolding magic_break
  magic_same =
      let name = magic_of (version_of f) in
      sym (unlike_front 0 12 name f (short_magic (version_of f)))
      ∙ ap (λ (xs : List ℕ). unlike_at 0 name xs) same
      ∙ unlike_front 0 12 name g (short_magic (version_of f))
      ∙ ap (λ (v : ℕ). unlike_at 0 (magic_of v) g) version

  -- where mark and floor may have their values, what is before them passes the tests as it did
  pub front_sound : (size : ℕ) → front_break f size ≡ None → mark_of g ≤ 2 ^ 32 → floor_of g ≤ 2 ^ 63 →
      front_break g size ≡ None
  front_sound size none mark floor =
      let is = front_of f size none in
      of_front g size (record {
        name = sym magic_same ∙ is.name;
        slots = ap (λ (n : ℕ). if nat_lt size 12 then Some size
            else (if n == 0 then Some 8 else
            (if nat_lt 65535 n then Some 8 else (if nat_lt size (slot_place n) then Some size else None))))
            (sym (slots_same f g same)) ∙ is.slots;
        mark = mark;
        floor = floor;
      })

-- ---- other bytes in the cell at a place

module _ (bytes part : List ℕ) (at : ℕ) (long : length part ≡ 17) (behind : 12 ≤ at) (before : at + 17 ≤ 4096)
    (inside : at + 17 ≤ length bytes) where
  abbrev now : List ℕ
  now = with_part bytes at part

  within : at + length part ≤ length bytes
  within = omega (arith, long, inside)

  pub twelve : take 12 (front_in bytes) ≡ take 12 (front_in now)
  twelve =
      take-take 12 front_size bytes (omega arith)
      ∙ sym (bytes_beside bytes part at within 0 12 (inl (omega (arith, behind))))
      ∙ sym (take-take 12 front_size now (omega arith))

  pub same_slots : slots_in now ≡ slots_in bytes
  same_slots = sym (slots_same (front_in bytes) (front_in now) twelve)

  -- and the version, where its gate is beside the cell
  pub same_version : (at + 17 ≤ version_gate) ⊎ (version_gate < at) → version_in now ≡ version_in bytes
  same_version side =
      ap (λ (gate : ℕ). if names_second gate then 2 else 1)
      (get_or-take front_size now version_gate 1 (omega arith)
      ∙ outside_part bytes part at version_gate 1 within (by_side side)
      ∙ sym (get_or-take front_size bytes version_gate 1 (omega arith))) where
        by_side : (at + 17 ≤ version_gate) ⊎ (version_gate < at) →
            (version_gate < at) ⊎ (at + length part ≤ version_gate)
        by_side (inl before) = inr (omega (arith, before, long))
        by_side (inr behind) = inl behind

  pub same_long : length now ≡ length bytes
  same_long = length-part bytes part at within

  pub each_slot : slot_in now ≡ slot_in bytes
  each_slot = λ j k. slot_beside bytes part at k within (inr (omega (arith, long, before))) j

  -- another cell is as it was
  pub same_cell : (other : ℕ) → (other + 17 ≤ at) ⊎ (at + 17 ≤ other) → cell_in now other ≡ cell_in bytes other
  same_cell other side = ap cell_of (bytes_beside bytes part at within other 17 (by_side side)) where
    by_side : (other + 17 ≤ at) ⊎ (at + 17 ≤ other) → (other + 17 ≤ at) ⊎ (at + length part ≤ other)
    by_side (inl less) = inl less
    by_side (inr more) = inr (omega (arith, more, long))
