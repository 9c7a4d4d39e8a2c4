-- Where the messages of a file's slots take more slots than there are.
use Rattle.std.proofs.Common.{◌≡◌, ℕ, ◌+◌, ◌%◌, ◌<◌, ◌≤◌, nat_lt, Bool, true, false, if◌then◌else◌, List, length, take, drop}
use Rattle.std.proofs.Common.{get_or, Option, Some, None, refl, sym, ap, subst, ◌∙◌, arith}
use Rattle.std.proofs.lemmas.Bool.Decides.{nat_tests}
use Rattle.std.proofs.lemmas.List.{get_or-drop, get_or-take}
use Rattle.std.proofs.lemmas.Option.{slice_get-get_or}
use Rattle.std.specs.Int.{w32, from_be_bytes}
use Rattle.std.specs.List.{slice_get}
use Rattle.disk_base.specs.Story.{bytes_at}
use Rattle.spool_file.specs.Area.{or_else}
use Rattle.spool_file.specs.Breaks.{area_break, chain_break, fields_break, greatest_below, sum_break, used_below}
use Rattle.spool_file.specs.Reading.{IsBreak, IsFrame, scan_of}
use Rattle.spool_file.specs.Slot.{Slot, in_slot, slot_in, slot_place}
use Rattle.spool_file.specs.declared.reading.NotSpool.{NotSpool}
use Rattle.spool_file.specs.declared.slot.Frame.{Frame}
use Rattle.spool_file.specs.declared.slots.Scan.{Scan}
use Rattle.spool_file.proofs.BodySizes.{within_body}
use Rattle.spool_file.proofs.Scans.{greatest_there, scan_is}
use Rattle.spool_file.proofs.Sound.{area_two, of_fields, stands_good}
use Rattle.spool_file.proofs.Written.{at-taken}

high_byte : (bytes : List ℕ) → from_be_bytes w32 bytes ≤ 1048576 → get_or bytes 0 0 ≡ 0
high_byte bytes less = omega (arith, less)

-- no good length has another first byte than 00
first_zero : (bytes : List ℕ) (k : ℕ) → (slot_in bytes k).head.len ≤ 1048576 →
    get_or bytes (slot_place k + 11) 0 ≡ 0
first_zero bytes k less =
    let fields = bytes_at bytes (slot_place k + 1) 14 in
    let place : slot_place k + 11 ≡ slot_place k + 1 + 10 = omega arith in
    ap (λ (p : ℕ). get_or bytes p 0) place
    ∙ sym (at-taken bytes (slot_place k + 1) 14 10 0 (omega arith))
    ∙ sym (get_or-drop 10 fields 0 0)
    ∙ sym (get_or-take 4 (drop 10 fields) 0 0 (omega arith))
    ∙ high_byte (take 4 (drop 10 fields)) less

if_more : (b : Bool) (place : Option ℕ) → b ≡ true → (if b then place else None) ≡ place
if_more true place is = refl
if_more false place is = absurd (grind (arith, is))

-- the length in the slot of the greatest number is the break
pub sum_broken : (bytes : List ℕ) (frame : Frame) (scan : Scan) (break : NotSpool) → IsFrame frame →
    slot_place frame.slots ≤ length bytes → fields_break frame (slot_in bytes) ≡ None →
    scan ≡ scan_of frame.floor (slot_in bytes) frame.slots → frame.slots < scan.used →
    break.at ≡ slot_place (scan.greatest % frame.slots) + 11 → break.got ≡ Some 0 →
    IsBreak bytes (sum_break frame (slot_in bytes)) break
sum_broken bytes frame scan break is fits fields counted over at got =
    let slot = slot_in bytes in
    let all = subst (λ (found : Scan). (found.used ≡ used_below frame.floor slot frame.slots)
    × (found.greatest ≡ greatest_below frame.floor slot frame.slots)) (sym counted)
    ((scan_is frame slot frame.slots).used, (scan_is frame slot frame.slots).greatest) in
    let more : 0 < used_below frame.floor slot frame.slots = omega (arith, over, all.0) in
    let there = greatest_there frame slot frame.slots more in
    let good = stands_good frame there.0 (slot there.0) (of_fields frame slot fields there.0 there.1) there.2 in
    let here : scan.greatest % frame.slots ≡ there.0 =
    ap (λ (n : ℕ). n % frame.slots) (all.1 ∙ sym there.3) ∙ good.place in
    let place : break.at ≡ slot_place there.0 + 11 = at ∙ ap (λ (k : ℕ). slot_place k + 11) here in
    let test : nat_lt frame.slots (used_below frame.floor slot frame.slots) ≡ true =
    of_less (used_below frame.floor slot frame.slots) (omega (arith, over, all.0)) in
    let byte = first_zero bytes there.0 (within_body frame.version frame.slots (slot there.0).head.len good.short) in (
      if_more (nat_lt frame.slots (used_below frame.floor slot frame.slots))
          (in_slot (greatest_below frame.floor slot frame.slots % frame.slots) (Some 11)) test
          ∙ ap (λ (n : ℕ). Some (slot_place (n % frame.slots) + 11)) (sym all.1) ∙ ap (λ (n : ℕ). Some n) (sym at),
      got ∙ ap (λ (n : ℕ). Some n) (sym byte)
          ∙ sym (slice_get-get_or bytes (slot_place there.0 + 11) 0 (omega (arith, fits, there.1)))
          ∙ ap (λ (n : ℕ). slice_get bytes n) (sym place),
    ) where
      of_less : (used : ℕ) → frame.slots < used → nat_lt frame.slots used ≡ true
      of_less used less = grind (arith, nat_tests, less)

-- the tests of version 2, the first one that finds something
module _ (frame : Frame) (slot : ℕ → Slot) (two : frame.version ≡ 2) where
  pub chain_fields : (at : ℕ) → fields_break frame slot ≡ Some at → area_break frame slot ≡ Some at
  chain_fields at is =
      area_two frame slot two
      ∙ ap (λ (o : Option ℕ). or_else o (or_else (chain_break frame slot) (sum_break frame slot))) is

  pub chain_lone : (at : ℕ) → fields_break frame slot ≡ None → chain_break frame slot ≡ Some at →
      area_break frame slot ≡ Some at
  chain_lone at none is =
      area_two frame slot two
      ∙ ap (λ (o : Option ℕ). or_else o (or_else (chain_break frame slot) (sum_break frame slot))) none
      ∙ ap (λ (o : Option ℕ). or_else o (sum_break frame slot)) is

  pub chain_sum : (place : Option ℕ) → fields_break frame slot ≡ None → chain_break frame slot ≡ None →
      sum_break frame slot ≡ place → area_break frame slot ≡ place
  chain_sum place none linked is =
      area_two frame slot two
      ∙ ap (λ (o : Option ℕ). or_else o (or_else (chain_break frame slot) (sum_break frame slot))) none
      ∙ ap (λ (o : Option ℕ). or_else o (sum_break frame slot)) linked ∙ is
