-- That the list stands while a message is written into slots of which none stands.
use Rattle.std.proofs.Common.{◌≡◌, ◌⊎◌, ℕ, zero, suc, ◌+◌, ◌%◌, ◌<◌, ◌≤◌, ◌&&◌, nat_le, min, Bool, true, false}
use Rattle.std.proofs.Common.{List, length, drop, get_or, slice_index, refl, sym, ap, subst, ◌∙◌, arith, inl}
use Rattle.std.proofs.Common.{inr, length-drop}
use Rattle.std.proofs.lemmas.Bool.{cases_eq, cases_lt}
use Rattle.std.proofs.lemmas.List.{ext_get_or, length-take}
use Rattle.std.proofs.lemmas.Nat.{mod_below}
use Rattle.disk_base.specs.Story.{Story, bytes_at}
use Rattle.gate_cell.specs.Cell.{cell_of}
use Rattle.spool_file.specs.Breaks.{slot_stands}
use Rattle.spool_file.specs.File.{StandsFor, file_in, floor_in, gates_below, slots_in}
use Rattle.spool_file.specs.Front.{front_in, front_size, slots_of}
use Rattle.spool_file.specs.Setup.{area_size, setup_cell, setup_in}
use Rattle.spool_file.specs.Slot.{Slot, head_of, is_open, slot_in, slot_message, slot_place, stands_on}
use Rattle.spool_file.specs.declared.recovery.Known.{Known}
use Rattle.spool_file.specs.declared.slot.SlotHead.{SlotHead}
use Rattle.spool_file.proofs.Gates.{closed_absent}
use Rattle.spool_file.proofs.Others.{IsOfRow}
use Rattle.spool_file.proofs.Runs.{free}
use Rattle.spool_file.proofs.Setups.{setup_same}
use Rattle.spool_file.proofs.Wholes.{sound_slots}
use Rattle.spool_file.proofs.Written.{at-taken}
use Rattle.spool_slots.specs.Calls.{number_place}
use Rattle.spool_slots.specs.Files.{with_gates}
use Rattle.spool_slots.specs.Losses.{opens}
use Rattle.spool_slots.specs.Put.{IsBehindGate, IsOpenGate, IsPutting, opens_in}
use Rattle.spool_slots.specs.Spool.{Rests}
use Rattle.spool_slots.proofs.Lasting.{frame, frame_is}
use Rattle.spool_slots.proofs.Moves.{row_stands, whole}

-- bytes that are the same from a place on
pub bytes_same : (xs ys : List ℕ) (from n : ℕ) → length xs ≡ length ys →
    ((place : ℕ) → from ≤ place → place < from + n → get_or xs place 0 ≡ get_or ys place 0) →
    bytes_at xs from n ≡ bytes_at ys from n
bytes_same xs ys from n long same =
    ext_get_or 0 (bytes_at xs from n) (bytes_at ys from n)
    (length-take n (drop from xs) ∙ ap (λ (k : ℕ). min n k) (length-drop from xs ∙ omega (arith, long)
    ∙ sym (length-drop from ys)) ∙ sym (length-take n (drop from ys)))
    (λ k below.
    let less : k < n = omega (arith, below, length-take n (drop from xs)) in
    at-taken xs from n k 0 less ∙ same (from + k) (omega arith) (omega (arith, less)) ∙ sym (at-taken ys from n k 0 less))

abbrev made : ℕ → List ℕ → List ℕ → Slot
made gate fields area = record { gate = gate; head = head_of fields; area = area }

-- a slot of such bytes
pub slot_same : (xs ys : List ℕ) (k : ℕ) → length xs ≡ length ys →
    ((place : ℕ) → slot_place k ≤ place → place < slot_place k + 4096 → get_or xs place 0 ≡ get_or ys place 0) →
    slot_in xs k ≡ slot_in ys k
slot_same xs ys k long same =
    ap (λ (g : ℕ). made g (bytes_at xs (slot_place k + 1) 14) (bytes_at xs (slot_place k + 15) 4081))
    (same (slot_place k) (omega arith) (omega arith))
    ∙ ap (λ (f : List ℕ). made (slice_index ys (slot_place k)) f (bytes_at xs (slot_place k + 15) 4081))
    (bytes_same xs ys (slot_place k + 1) 14 long (λ place from below. same place (omega (arith, from)) (omega (arith, below))))
    ∙ ap (λ (a : List ℕ). made (slice_index ys (slot_place k)) (bytes_at ys (slot_place k + 1) 14) a)
    (bytes_same xs ys (slot_place k + 15) 4081 long
    (λ place from below. same place (omega (arith, from)) (omega (arith, below))))

-- two places of different slots differ
apart_slots : (j k at place : ℕ) → slot_place j ≤ at → at < slot_place j + 4096 → slot_place k ≤ place →
    place < slot_place k + 4096 → at ≡ place → j ≡ k
apart_slots j k at place from below start end same = by_order (cases_eq j k) (cases_lt j k) where
  by_order : (j ≡ k) ⊎ (j ≡ k → ⊥) → (j < k) ⊎ (k ≤ j) → j ≡ k
  by_order (inl is) order = is
  by_order (inr other) (inl less) = absurd (omega (arith, less, below, start, same))
  by_order (inr other) (inr more) =
      let over : k < j = grind (arith, more, other) in absurd (omega (arith, over, from, end, same))

-- a gate that is open by the list is so in the bytes
open_there : (bytes : List ℕ) (slots number n p : ℕ) → get_or (opens_in bytes slots number n) p false ≡ true →
    opens (slice_index bytes (number_place slots (number + p))) ≡ true
open_there bytes slots number zero p is = absurd (grind (arith, is))
open_there bytes slots number (suc n) zero is =
    let here : number + 0 ≡ number = omega arith in
    ap (λ (x : ℕ). opens (slice_index bytes (number_place slots x))) here ∙ is
open_there bytes slots number (suc n) (suc p) is =
    let next : number + suc p ≡ number + 1 + p = omega arith in
    ap (λ (x : ℕ). opens (slice_index bytes (number_place slots x))) next ∙ open_there bytes slots (number + 1) n p is

length-opens : (bytes : List ℕ) (slots number n : ℕ) → length (opens_in bytes slots number n) ≡ n
length-opens bytes slots number zero = refl
length-opens bytes slots number (suc n) = ap suc (length-opens bytes slots (number + 1) n)

and_false : (a b : Bool) → a ≡ true → (a && b) ≡ false → b ≡ false
and_false true b there none = none
and_false false b there none = absurd (grind (arith, there))

false_and : (a b : Bool) → b ≡ false → (a && b) ≡ false
false_and true b none = none
false_and false b none = refl

module _ (s : Story) (k : Known) (is : Rests s k) (room : k.next ≤ k.first + k.slots) (n : ℕ)
    (fits : k.next + n ≤ k.first + k.slots) where
  abbrev bytes : List ℕ
  bytes = s.now.bytes

  abbrev Row : ℕ → Type 0
  Row = IsOfRow k.slots k.next n

  -- none of the slots stands
  pub row_absent : (j : ℕ) → j < k.slots → Row j → stands_on (floor_in bytes) (slot_in bytes j) ≡ false
  row_absent j below row =
      free (slot_stands (floor_in bytes) (slot_in bytes)) (slot_message k.slots (slot_in bytes)) k.slots k.first k.next
      (whole bytes (frame s k is room) (frame_is s k is room) k.first k.next is.sound is.low is.chain room).kept
      (k.next + row.0) j (omega arith) (omega (arith, fits, row.1)) below row.2

  module _ (image : List ℕ) (put : IsPutting k.slots k.next n bytes image) where
    -- bytes beside the slots are as they were
    beside_row : (place : ℕ) → ((p : ℕ) → p < n → number_place k.slots (k.next + p) ≤ place →
        place < number_place k.slots (k.next + p) + 4096 → ⊥) → get_or image place 0 ≡ get_or bytes place 0
    beside_row place out = put.kept place
        (λ behind. out behind.0 behind.1 (omega (arith, behind.2)) behind.3)
        (λ gate. out gate.0 (omega (arith, gate.1, length-opens bytes k.slots k.next n)) (omega (arith, gate.3))
        (omega (arith, gate.3)))

    pub front_same : front_in image ≡ front_in bytes
    front_same = bytes_same image bytes 0 front_size put.long (λ place from below.
        beside_row place (λ p less start end. omega (arith, start, below)))

    -- nor is the cell of the setup one of them, or the area
    setup_still : setup_in image ≡ setup_in bytes
    setup_still =
        let some : 1 ≤ k.slots = subst (λ n. 1 ≤ n) (sym is.slots_are) (sound_slots bytes is.sound).some in
        setup_same bytes image (ap slots_of front_same) put.long
        (bytes_same image bytes (slot_place (slots_in bytes)) area_size put.long (λ place from below.
        beside_row place (λ p less start end.
        omega (arith, from, end, is.slots_are, mod_below (k.next + p) k.slots (omega (arith, some))))))
        (ap cell_of (bytes_same image bytes setup_cell 17 put.long (λ place from below.
        beside_row place (λ p less start end. omega (arith, start, below)))))

    pub others_same : (j : ℕ) → j < k.slots → (Row j → ⊥) → slot_in image j ≡ slot_in bytes j
    others_same j below none = slot_same image bytes j put.long (λ place from to.
        beside_row place (λ p less start end.
        none (p, less, sym (apart_slots ((k.next + p) % k.slots) j place place start end from to refl))))

    -- a slot of the row has its head where no piece may be there
    head_same : ((place : ℕ) → IsBehindGate k.slots k.next n place → slice_index image place ≡ slice_index bytes place) →
        (j : ℕ) → Row j → (slot_in image j).head ≡ (slot_in bytes j).head
    head_same untouched j row =
        ap head_of (bytes_same image bytes (slot_place j + 1) 14 put.long (λ place from below.
        untouched place (
          row.0,
          row.1,
          omega (arith, from, ap slot_place row.2),
          omega (arith, below, ap slot_place row.2),
        )))

    gate_same : (j : ℕ) → j < k.slots → Row j → is_open (slot_in bytes j) ≡ false →
        is_open (slot_in image j) ≡ is_open (slot_in bytes j)
    gate_same j below row closed =
        ap opens (put.kept (slot_place j)
        (λ behind. behind_none j behind)
        (λ gate. open_none j closed gate)) where
          behind_none : (j : ℕ) → IsBehindGate k.slots k.next n (slot_place j) → ⊥
          behind_none j behind =
              let same : (k.next + behind.0) % k.slots ≡ j =
              apart_slots ((k.next + behind.0) % k.slots) j (slot_place j) (slot_place j) (omega (arith, behind.2))
              behind.3 (omega arith) (omega arith) refl in
              omega (arith, behind.2, ap slot_place same)

          open_none : (j : ℕ) → is_open (slot_in bytes j) ≡ false →
              IsOpenGate k.slots k.next (opens_in bytes k.slots k.next n) (slot_place j) → ⊥
          open_none j closed gate =
              let there = open_there bytes k.slots k.next n gate.0 gate.2 in
              let here : opens (slice_index bytes (slot_place j)) ≡ true =
              ap (λ (place : ℕ). opens (slice_index bytes place)) gate.3 ∙ there in
              grind (arith, here, closed)

    absent_by : (j : ℕ) → j < k.slots → Row j →
        ((place : ℕ) → IsBehindGate k.slots k.next n place → slice_index image place ≡ slice_index bytes place) →
        (b : Bool) → is_open (slot_in bytes j) ≡ b → stands_on (floor_in bytes) (slot_in image j) ≡ false
    absent_by j below row untouched false closed =
        closed_absent (floor_in bytes) (slot_in image j) (gate_same j below row closed ∙ closed)
    absent_by j below row untouched true opened =
        false_and (is_open (slot_in image j)) (nat_le (floor_in bytes) (slot_in image j).head.number)
        (ap (λ (h : SlotHead). nat_le (floor_in bytes) h.number) (head_same untouched j row)
        ∙ and_false (is_open (slot_in bytes j)) (nat_le (floor_in bytes) (slot_in bytes j).head.number) opened
        (row_absent j below row))

    -- nor does one of them now
    pub row_absent_now : (j : ℕ) → j < k.slots → Row j → stands_on (floor_in bytes) (slot_in image j) ≡ false
    row_absent_now j below row = by_closed put.closed where
      by_closed : ((p : ℕ) → p < n → opens (slice_index image (number_place k.slots (k.next + p))) ≡ false)
          ⊎ ((place : ℕ) → IsBehindGate k.slots k.next n place → slice_index image place ≡ slice_index bytes place) →
          stands_on (floor_in bytes) (slot_in image j) ≡ false
      by_closed (inl closed) = closed_absent (floor_in bytes) (slot_in image j)
          (ap (λ (i : ℕ). opens (slice_index image (slot_place i))) row.2 ∙ closed row.0 row.1)
      by_closed (inr untouched) = absent_by j below row untouched (is_open (slot_in bytes j)) refl

    -- so the list stands, whichever of their gates are open
    pub putting_stands : StandsFor image (with_gates (gates_below (slot_in image) k.slots) (file_in bytes))
    putting_stands =
        row_stands bytes (frame s k is room) (frame_is s k is room) k.first k.next is.sound is.low is.chain room image n
        front_same put.long setup_still fits others_same row_absent row_absent_now
