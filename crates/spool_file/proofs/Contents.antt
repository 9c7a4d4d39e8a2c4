-- What each message of a sound file is like.
use Rattle.std.proofs.Common.{◌≡◌, ℕ, zero, suc, ◌+◌, ◌-◌, ◌/◌, ◌^◌, ◌%◌, ◌<◌, ◌≤◌, ◌==◌, Bool, true, false}
use Rattle.std.proofs.Common.{if◌then◌else◌, List, [], ◌∷◌, ◌++◌, length, take, drop, get_or, Some, None, refl, subst, arith}
use Rattle.std.proofs.Common.{inl, inr}
use Rattle.std.proofs.lemmas.Bool.{cases_lt}
use Rattle.std.proofs.lemmas.Bool.Decides.{nat_tests}
use Rattle.std.proofs.lemmas.List.{get_or_past, length-take}
use Rattle.std.proofs.lemmas.List.Elements.{All-append, All-drop, All-nil, All-take}
use Rattle.std.specs.List.{All, slice_get}
use Rattle.disk_base.specs.Story.{bytes_at}
use Rattle.spool_file.specs.Breaks.{slot_stands}
use Rattle.spool_file.specs.File.{file_in, floor_in, frame_in, slots_in, spool_break}
use Rattle.spool_file.specs.Sizes.{slots_for}
use Rattle.spool_file.specs.Slot.{Message, Slot, areas_from, slot_in, slot_message, slot_place, width}
use Rattle.spool_file.specs.declared.slot.Frame.{Frame}
use Rattle.spool_file.proofs.Areas.{Each, each_made}
use Rattle.spool_file.proofs.BodySizes.{within_body}
use Rattle.spool_file.proofs.Sound.{IsGood, stands_good}
use Rattle.spool_file.proofs.Wholes.{sound_kept}

-- a primary whose numbers are in range, and whose body a file has room for
pub record IsHeld (m : Message) : Type 0 where
  pub number : m.number + width m ≤ 2 ^ 63
  pub stream : m.stream < 128
  pub odd : m.function % 2 ≡ 1
  pub short : length m.body ≤ 1048576

-- which is of bytes
pub record IsOfBytes (m : Message) : Type 0 where
  pub function : m.function < 256
  pub body : All (λ byte. byte < 256) m.body

-- a body that is no longer than its head says takes no more slots
slots_less : (a b : ℕ) → a ≤ b → slots_for a ≤ slots_for b
unfolding slots_for
slots_less a b less = by_test (a == 0) (b == 0) refl where
  by_test : (c d : Bool) → (b == 0) ≡ d → (if c then 1 else (a + 4080) / 4081) ≤ (if d then 1 else (b + 4080) / 4081)
  by_test true true is = omega arith
  by_test true false is = let some : 1 ≤ b = grind (arith, nat_tests, is) in omega (arith, some)
  by_test false true is = let none : b ≡ 0 = grind (arith, nat_tests, is) in omega (arith, none, less)
  by_test false false is = omega (arith, less)

slot_held : (frame : Frame) (slot : ℕ → Slot) (k : ℕ) → (slot k).head.stream < 128 → IsGood frame k (slot k).head →
    IsHeld (slot_message frame.slots slot k)
slot_held frame slot k low good =
    let len = (slot k).head.len in
    let further = areas_from frame.slots slot ((slot k).head.number + 1) (slots_for len - 1) in
    let odd : (slot k).head.function % 2 ≡ 1 = grind (arith, nat_tests, good.function) in
    let long : length (take len ((slot k).area ++ further)) ≤ len =
    omega (arith, length-take len ((slot k).area ++ further)) in
    let size : width (slot_message frame.slots slot k) ≤ slots_for len =
    slots_less (length (take len ((slot k).area ++ further))) len long in
    record {
      number = omega (arith, good.number, size);
      stream = low;
      odd = odd;
      short = omega (arith, long, within_body frame.version frame.slots len good.short);
    }

byte_in : (bytes : List ℕ) → All (λ byte. byte < 256) bytes → (i : ℕ) → get_or bytes i 0 < 256
byte_in bytes are i =
    elim (cases_lt i (length bytes)) [
      | inl within ↦ are i 0 within
      | inr past ↦ rw (get_or_past bytes i 0 past) (omega arith)
    ]

module _ (bytes : List ℕ) (are : All (λ byte. byte < 256) bytes) where
  part : (at long : ℕ) → All (λ byte. byte < 256) (bytes_at bytes at long)
  part at long = All-take (λ byte. byte < 256) long (drop at bytes) (All-drop (λ byte. byte < 256) at bytes are)

  areas : (slots number more : ℕ) → All (λ byte. byte < 256) (areas_from slots (slot_in bytes) number more)
  areas slots number zero = All-nil (λ byte. byte < 256)
  areas slots number (suc more) =
      All-append (λ byte. byte < 256) (slot_in bytes (number % slots)).area
      (areas_from slots (slot_in bytes) (number + 1) more) (part (slot_place (number % slots) + 15) 4081)
      (areas slots (number + 1) more)

  slot_of_bytes : (slots k : ℕ) → IsOfBytes (slot_message slots (slot_in bytes) k)
  slot_of_bytes slots k =
      let head = (slot_in bytes k).head in
      let further = areas_from slots (slot_in bytes) (head.number + 1) (slots_for head.len - 1) in
      record {
        function = byte_in (bytes_at bytes (slot_place k + 1) 14) (part (slot_place k + 1) 14) 9;
        body = All-take (λ byte. byte < 256) head.len ((slot_in bytes k).area ++ further)
            (All-append (λ byte. byte < 256) (slot_in bytes k).area further (part (slot_place k + 15) 4081)
            (areas slots (head.number + 1) (slots_for head.len - 1)));
      }

  pub each_of_bytes : Each IsOfBytes (file_in bytes).list
  each_of_bytes =
      each_made IsOfBytes (slot_stands (floor_in bytes) (slot_in bytes)) (slot_message (slots_in bytes) (slot_in bytes))
      (slots_in bytes) (λ k below there. slot_of_bytes (slots_in bytes) k)

-- all messages of the list
pub each_held : (bytes : List ℕ) → spool_break bytes ≡ None → Each IsHeld (file_in bytes).list
each_held bytes sound =
    let frame = frame_in bytes in
    each_made IsHeld (slot_stands frame.floor (slot_in bytes)) (slot_message frame.slots (slot_in bytes)) frame.slots
    (λ k below there. slot_held frame (slot_in bytes) k (omega arith)
    (stands_good frame k (slot_in bytes k) ((sound_kept bytes sound).fields k below) there))

-- and so the first one
pub first_held : (bytes : List ℕ) (m : Message) → spool_break bytes ≡ None → slice_get (file_in bytes).list 0 ≡ Some m →
    IsHeld m
first_held bytes m sound is = first_of (file_in bytes).list (each_held bytes sound) is where
  first_of : (list : List Message) → Each IsHeld list → slice_get list 0 ≡ Some m → IsHeld m
  first_of [] each is = absurd (grind (arith, is))
  first_of (x ∷ list) each is = let same : x ≡ m = cc in subst IsHeld same each.0
