-- The page, the closed slots, the area and the sync make an empty file.
use Rattle.std.proofs.Common.{◌≡◌, ℕ, ◌+◌, ◌≤◌, Bool, true, if◌then◌else◌, List, length, take, replicate, Option, Some, None, refl, sym, ap}
use Rattle.std.proofs.Common.{subst, ◌∙◌, arith}
use Rattle.std.proofs.lemmas.Bool.Decides.{nat_tests}
use Rattle.std.specs.Option.{option_map}
use Rattle.disk_base.specs.Story.{Story, bytes_at, with_sync, with_write}
use Rattle.disk_base.proofs.Marks.{length-part}
use Rattle.gate_cell.specs.Cell.{cell_in, cell_of}
use Rattle.spool_file.specs.Format.{ClearsTo, ClosesTo, EndsEmpty, first_page}
use Rattle.spool_file.specs.Front.{front_in}
use Rattle.spool_file.specs.Setup.{area_end, area_of, area_size, has_area, new_area, setup_cell}
use Rattle.spool_file.specs.Slot.{slot_place}
use Rattle.spool_file.proofs.Cleared.{bytes_before, closed_before}
use Rattle.spool_file.proofs.Fresh.{back, empty_stands, page_long, zero_setup}
use Rattle.spool_file.proofs.Written.{bytes_inside}

-- an area of zeros
pub zeros_are : (bytes : List ℕ) (slots : ℕ) → area_end slots ≤ length bytes →
    bytes_at bytes (slot_place slots) area_size ≡ replicate area_size 0 → area_of slots bytes ≡ Some new_area
unfolding new_area
zeros_are bytes slots room zeros =
    let has : has_area slots (length bytes) ≡ true = grind (arith, nat_tests, room) in
    ap (λ (b : Bool). if b then Some (bytes_at bytes (slot_place slots) area_size) else None) has
    ∙ ap (λ (area : List ℕ). Some area) zeros

pub stands_empty : (o p q u r : Option Story) (slots size : ℕ) →
    ((s : Story) → o ≡ Some s → length s.now.bytes ≡ size) → 1 ≤ slots → slots ≤ 65535 → area_end slots ≤ size →
    p ≡ option_map (with_write 0 (first_page slots)) o → ClosesTo p q slots → ClearsTo q u slots 32 →
    r ≡ option_map with_sync u →
    (t : Story) → r ≡ Some t → EndsEmpty t slots
stands_empty o p q u r slots size sized some most fits page closes clears synced t told =
    let x = back u r with_sync t synced told in
    let w = clears x.0 x.1 in
    let v = closes w.0 w.1 in
    let s = back o p (with_write 0 (first_page slots)) v.0 page v.1 in
    let long : length s.0.now.bytes ≡ size = sized s.0 s.1 in
    let inside : 0 + length (first_page slots) ≤ length s.0.now.bytes =
    omega (arith, long, fits, some, page_long slots) in
    let front : front_in v.0.now.bytes ≡ take 47 (first_page slots) =
    ap (λ (y : Story). front_in y.now.bytes) s.2
    ∙ bytes_inside s.0.now.bytes (first_page slots) 0 inside 0 47 (omega (arith, page_long slots)) in
    let cell =
    ap (λ (y : Story). cell_in y.now.bytes setup_cell) s.2
    ∙ ap cell_of (bytes_inside s.0.now.bytes (first_page slots) 0 inside setup_cell 17 (omega (arith, page_long slots)))
    ∙ zero_setup slots in
    let long_now : length x.0.now.bytes ≡ size = w.2.long ∙ v.2.long ∙ ap (λ (y : Story). length y.now.bytes) s.2
    ∙ length-part s.0.now.bytes (first_page slots) 0 inside ∙ long in
    let room : area_end slots ≤ length x.0.now.bytes = omega (arith, fits, long_now) in
    let begin : ℕ = slot_place slots in
    subst (λ (y : Story). EndsEmpty y slots) (sym x.2) (record {
      ends = record {
        settled = refl;
        stands = empty_stands x.0.now.bytes slots
            (bytes_before x.0.now.bytes w.0.now.bytes begin w.2.front 0 47 (omega (arith, some)) ∙ v.2.front ∙ front) some
            most room
            (λ k below. closed_before x.0.now.bytes w.0.now.bytes begin w.2.front k (omega (arith, below))
            (v.2.closed k below))
            (ap cell_of (bytes_before x.0.now.bytes w.0.now.bytes begin w.2.front setup_cell 17 (omega (arith, some)))
            ∙ v.2.cell ∙ cell);
      };
      area = zeros_are x.0.now.bytes slots room w.2.zeros;
    })
