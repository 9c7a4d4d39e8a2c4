-- The start of a slot, as it was read.
use Rattle.std.proofs.Common.{◌≡◌, ℕ, zero, suc, ◌+◌, ◌<◌, ◌≤◌, ◌==◌, Bool, ◌&&◌, nat_le, not, if◌then◌else◌, min, List}
use Rattle.std.proofs.Common.{[], ◌∷◌, length, take, drop, get_or, slice_index, Option, Some, None, refl, sym, ap, subst}
use Rattle.std.proofs.Common.{◌∙◌, arith, length-drop}
use Rattle.std.proofs.lemmas.List.{drop-take, drop-drop, get_or-take, get_or-drop, length-take, take_min}
use Rattle.std.proofs.lemmas.Option.{slice_get-get_or}
use Rattle.std.specs.List.{slice_get}
use Rattle.disk_base.specs.Story.{Story, bytes_at}
use Rattle.spool_file.specs.Breaks.{ahead_break, head_end}
use Rattle.spool_file.specs.Chain.{is_led, lead_of, lone_by, no_number}
use Rattle.spool_file.specs.Front.{frame_of, front_break, front_in, mark_of}
use Rattle.spool_file.specs.Reading.{FrontIs, FrontSays, IsBreak, counted_if, counted_in, slot_from}
use Rattle.spool_file.specs.Slot.{head_break, head_of, in_slot, is_open, slot_break, slot_in, slot_place, stands_on}
use Rattle.spool_file.specs.declared.front.Front.{Front}
use Rattle.spool_file.specs.declared.reading.NotSpool.{NotSpool}
use Rattle.spool_file.specs.declared.reading.Reading.{Reading}
use Rattle.spool_file.specs.declared.reading.Reading.TheVariants as reading
use Rattle.spool_file.specs.declared.slot.Frame.{Frame}
use Rattle.spool_file.specs.declared.slot.SlotHead.{SlotHead}
use Rattle.spool_file.specs.declared.slots.Scan.{Scan}
use Rattle.spool_file.proofs.Fronts.{frame_is}

pub got_front : (bytes : List ℕ) (at n : ℕ) → at < n → slice_get (take n bytes) at ≡ slice_get bytes at
got_front [] at zero below = refl
got_front [] at (suc n) below = refl
got_front (byte ∷ bytes) at zero below = absurd (omega (arith, below))
got_front (byte ∷ bytes) zero (suc n) below = refl
got_front (byte ∷ bytes) (suc at) (suc n) below = got_front bytes at n (omega (arith, below))

module _ (bytes start : List ℕ) (at : ℕ) (long : length start ≡ 15) (is : start ≡ bytes_at bytes at 15) where
  pub within : at + 15 ≤ length bytes
  within = omega (arith, long, ap (length {A = ℕ}) is, length-take 15 (drop at bytes), length-drop at bytes)

  pub place_is : (p : ℕ) → p < 15 → get_or start p 0 ≡ get_or bytes (at + p) 0
  place_is p below = ap (λ (xs : List ℕ). get_or xs p 0) is ∙ get_or-take 15 (drop at bytes) p 0 below
      ∙ get_or-drop at bytes p 0

  pub rest_is : drop 1 start ≡ bytes_at bytes (at + 1) 14
  rest_is = ap (λ (xs : List ℕ). drop 1 xs) is ∙ drop-take 1 14 (drop at bytes)
      ∙ ap (λ (xs : List ℕ). take 14 xs) (drop-drop 1 at bytes)

  pub got_is : (p : ℕ) → p < 15 → Some (get_or start p 0) ≡ slice_get bytes (at + p)
  got_is p below = ap (λ (n : ℕ). Some n) (place_is p below)
      ∙ sym (slice_get-get_or bytes (at + p) 0 (omega (arith, within, below)))

whole : (size : ℕ) (front : List ℕ) → length front ≡ min 47 size → (bytes : List ℕ) → length bytes ≡ size →
    front ≡ bytes_at bytes 0 (length front) → front ≡ front_in bytes
whole size front long bytes sized read =
    read
    ∙ ap (λ (n : ℕ). take n bytes) (long ∙ ap (λ (n : ℕ). min 47 n) (sym sized))
    ∙ take_min 47 bytes

module _ (bytes start : List ℕ) (k : ℕ) (long : length start ≡ 15) (is : start ≡ bytes_at bytes (slot_place k) 15) where
  pub same_gate : slice_index start 0 ≡ (slot_in bytes k).gate
  same_gate = place_is bytes start (slot_place k) long is 0 (omega arith)
      ∙ ap (λ (n : ℕ). get_or bytes n 0) (omega arith)

  pub same_head : head_of (drop 1 start) ≡ (slot_in bytes k).head
  same_head = ap head_of (rest_is bytes start (slot_place k) long is)

  pub same_open : is_open (slot_from start) ≡ is_open (slot_in bytes k)
  same_open = ap (λ (gate : ℕ). gate == 90) same_gate

  pub same_stands : (floor : ℕ) → stands_on floor (slot_from start) ≡ stands_on floor (slot_in bytes k)
  same_stands floor =
      ap (λ (b : Bool). b && nat_le floor (head_of (drop 1 start)).number) same_open
      ∙ ap (λ (head : SlotHead). is_open (slot_in bytes k) && nat_le floor head.number) same_head

  pub same_break : (frame : Frame) → slot_break frame k (slot_from start) ≡ slot_break frame k (slot_in bytes k)
  same_break frame =
      ap (λ (b : Bool). if b then head_break frame k (head_of (drop 1 start)) else None) (same_stands frame.floor)
      ∙ ap (λ (head : SlotHead). if stands_on frame.floor (slot_in bytes k) then head_break frame k head else None)
      same_head

  pub same_count : (floor : ℕ) (scan : Scan) →
      counted_in floor scan (slot_from start) ≡ counted_in floor scan (slot_in bytes k)
  same_count floor scan =
      ap (λ (b : Bool). counted_if b scan (head_of (drop 1 start))) (same_stands floor)
      ∙ ap (counted_if (stands_on floor (slot_in bytes k)) scan) same_head

  pub same_ahead : (floor end : ℕ) →
      ahead_break floor end (slot_from start) ≡ ahead_break floor end (slot_in bytes k)
  same_ahead floor end =
      ap (λ (b : Bool). if b && nat_le end (head_of (drop 1 start)).number then Some 1 else None) (same_stands floor)
      ∙ ap (λ (head : SlotHead). if stands_on floor (slot_in bytes k) && nat_le end head.number then Some 1 else None)
      same_head

  pub same_lead : (floor : ℕ) → lead_of floor (slot_from start) ≡ lead_of floor (slot_in bytes k)
  same_lead floor =
      ap (λ (b : Bool). if b then min (head_end (head_of (drop 1 start))) no_number else no_number) (same_stands floor)
      ∙ ap (λ (head : SlotHead).
      if stands_on floor (slot_in bytes k) then min (head_end head) no_number else no_number) same_head

  pub same_lone : (floor least : ℕ) (leads : List ℕ) →
      lone_by floor least leads (slot_from start) ≡ lone_by floor least leads (slot_in bytes k)
  same_lone floor least leads =
      ap (λ (b : Bool). if b && not ((head_of (drop 1 start)).number == least)
      && not (is_led leads (head_of (drop 1 start)).number) then Some 1 else None) (same_stands floor)
      ∙ ap (λ (head : SlotHead). if stands_on floor (slot_in bytes k) && not (head.number == least)
      && not (is_led leads head.number) then Some 1 else None) same_head

-- what was read is the front of the bytes
pub front_is : (told : Option Story) (size : ℕ) (front : List ℕ) (result : Reading Front) → length front ≡ min 47 size →
    ((s : Story) → told ≡ Some s → length s.now.bytes ≡ size) →
    ((s : Story) → told ≡ Some s → front ≡ bytes_at s.now.bytes 0 (length front)) → FrontSays front size result →
    FrontIs told result
front_is told size front (reading.Whole found) long sized read says = λ s is.
    let same = whole size front long s.now.bytes (sized s is) (read s is) in
    let there = subst (λ f.
    (front_break f (length s.now.bytes) ≡ None) × (found.frame ≡ frame_of f) × (found.mark ≡ mark_of f)) same
    (subst (λ n. (front_break front n ≡ None) × (found.frame ≡ frame_of front) × (found.mark ≡ mark_of front))
    (sym (sized s is)) says) in
    (there.0, there.1 ∙ sym (frame_is s.now.bytes), there.2)
front_is told size front (reading.Broken break) long sized read says = λ s is.
    let same = whole size front long s.now.bytes (sized s is) (read s is) in
    subst (λ f. IsBreak s.now.bytes (front_break f (length s.now.bytes)) break) same
    (subst (λ n. IsBreak s.now.bytes (front_break front n) break) (sym (sized s is))
    (says s.now.bytes (sized s is) same))
front_is told size front reading.Failed long sized read says = absurd says

-- a break in the start of a slot is one in the slot
pub broken_on : (bytes start : List ℕ) (k p : ℕ) (here there : Option ℕ) (break : NotSpool) →
    start ≡ bytes_at bytes (slot_place k) 15 →
    here ≡ there → Some p ≡ here → break.at ≡ slot_place k + p →
    ((bytes : List ℕ) → start ≡ bytes_at bytes (slot_place k) 15 → break.got ≡ slice_get bytes (slot_place k + p)) →
    IsBreak bytes (in_slot k there) break
broken_on bytes start k p here there break is same found at got = (
  ap (in_slot k) (sym same ∙ sym found) ∙ ap (λ (n : ℕ). Some n) (sym at),
  got bytes is
      ∙ ap (λ (n : ℕ). slice_get bytes n) (sym at),
)
