-- A message that is looked for.
use Rattle.std.proofs.Common.{◌≡◌, ◌⊎◌, ℕ, suc, ◌+◌, ◌-◌, ◌%◌, ◌<◌, ◌≤◌, ◌&&◌, nat_le, Bool, true, List, [], ◌∷◌}
use Rattle.std.proofs.Common.{length, slice_index, sum_by, take, drop, Some, refl, sym, ap, subst, ◌∙◌, arith, inl, inr}
use Rattle.std.proofs.Math.ListN.{set}
use Rattle.std.proofs.lemmas.Bool.{cases_eq}
use Rattle.std.proofs.lemmas.Bool.Decides.{nat_tests}
use Rattle.std.proofs.lemmas.List.{drop-drop, drop-take, get_or-drop, get_or-set_other, get_or-set_same, get_or-take}
use Rattle.std.proofs.lemmas.List.{take-take}
use Rattle.std.proofs.lemmas.List.Elements.{All-cons, All-nil}
use Rattle.std.proofs.lemmas.List.Sums.{sum_by-cons}
use Rattle.std.specs.List.{All, slice_get}
use Rattle.disk_base.specs.Calls.{read_call}
use Rattle.disk_base.specs.Disk.{Reads}
use Rattle.disk_base.specs.Story.{Story, bytes_at}
use Rattle.disk_base.specs.declared.disk.Disk as disk
use Rattle.disk_base.specs.declared.disk.DiskAnswer.{DiskAnswer}
use Rattle.disk_base.specs.declared.disk.DiskAnswer.TheVariants.{Done, Failed}
use Rattle.spool_file.specs.Breaks.{slot_stands}
use Rattle.spool_file.specs.File.{file_in, floor_in, frame_in, slots_in}
use Rattle.spool_file.specs.Slot.{Message, head_of, is_open, slot_in, slot_message, slot_place, stands_on, width}
use Rattle.spool_file.specs.declared.recovery.Known.{Known}
use Rattle.spool_file.specs.declared.slot.SlotHead.{SlotHead}
use Rattle.spool_file.proofs.Areas.{Each, each_made, each_so}
use Rattle.spool_file.proofs.BodySizes.{some_slots as some_slots_of}
use Rattle.spool_file.proofs.Chains.{OneOf, one_made}
use Rattle.spool_file.proofs.Gates.{stands_open}
use Rattle.spool_file.proofs.Runs.{IsBetween, chain_total, chain_within, total}
use Rattle.spool_file.proofs.Wholes.{sound_kept}
use Rattle.spool_slots.specs.Calls.{number_place}
use Rattle.spool_slots.specs.Carried.{CarriesOut}
use Rattle.spool_slots.specs.Changes.{HasHead, HasLooked, HasMade, HasSeen, HasSlot, IsListed, LooksOn}
use Rattle.spool_slots.specs.Spool.{IsSpool, Rests, in_hand}
use Rattle.spool_slots.proofs.Lasting.{first_there, place_below, some_slots}

pub looked_on : {D : Type 0} (members : disk.Ghosts D) (d d' : D) (k : Known) → IsSpool members (in_hand d k) →
    members.told d' ≡ members.told d →
    members.size_is d' ≡ members.size_is d → IsSpool members (in_hand d' k)
looked_on members d d' k is told size = record {
  version = is.version;
  some = is.some;
  most = is.most;
  fits = subst (λ n. slot_place k.slots ≤ n) (sym size) is.fits;
  from = is.from;
  none = is.none;
  even = is.even;
  room = is.room;
  numbers = is.numbers;
  mark_most = is.mark_most;
  rests = λ s told'. is.rests s (sym told ∙ told');
}

pub slot_head : (bytes into : List ℕ) (at : ℕ) → into ≡ bytes_at bytes at 4096 →
    bytes_at into 1 14 ≡ bytes_at bytes (at + 1) 14
slot_head bytes into at is =
    ap (λ (xs : List ℕ). take 14 (drop 1 xs)) is
    ∙ ap (λ (xs : List ℕ). take 14 xs) (drop-take 1 4095 (drop at bytes))
    ∙ take-take 14 4095 (drop 1 (drop at bytes)) (omega arith)
    ∙ ap (λ (xs : List ℕ). take 14 xs) (drop-drop 1 at bytes)

-- where a message of a list is
pub one_get : (x : Message) (list : List Message) → OneOf (λ m. m ≡ x) list →
    (place : ℕ) × (slice_get list place ≡ Some x)
one_get x [] none = absurd none
one_get x (y ∷ list) (inl here) = (0, ap (λ (m : Message). Some m) here)
one_get x (y ∷ list) (inr later) = let r = one_get x list later in (suc r.0, r.1)

pub each_all : (P : Message → Type 0) (list : List Message) → Each P list → All P list
each_all P [] each = All-nil P
each_all P (x ∷ list) each = All-cons P x list each.0 (each_all P list each.1)

-- a slot that stands has a message of the list
module _ (bytes : List ℕ) where
  abbrev stood : ℕ → Type 0
  stood j = stands_on (frame_in bytes).floor (slot_in bytes j) ≡ true

  pub listed_at : (j : ℕ) → j < slots_in bytes → stood j →
      (place : ℕ) × (slice_get (file_in bytes).list place ≡ Some (slot_message (slots_in bytes) (slot_in bytes) j))
  listed_at j below there =
      one_get (slot_message (slots_in bytes) (slot_in bytes) j) (file_in bytes).list
      (one_made (λ m. m ≡ slot_message (slots_in bytes) (slot_in bytes) j)
      (slot_stands (frame_in bytes).floor (slot_in bytes)) (slot_message (slots_in bytes) (slot_in bytes))
      (slots_in bytes) j below there refl)

-- ---- what was read

-- one byte
pub first_byte : (bytes into : List ℕ) (at place : ℕ) → at ≡ place → into ≡ bytes_at bytes at (length into) →
    0 < length into → slice_index into 0 ≡ slice_index bytes place
first_byte bytes into at place here is some =
    let same : at + 0 ≡ place = omega (arith, here) in
    ap (λ (xs : List ℕ). slice_index xs 0) is
    ∙ get_or-take (length into) (drop at bytes) 0 0 some
    ∙ get_or-drop at bytes 0 0
    ∙ ap (λ (p : ℕ). slice_index bytes p) same

-- one gate more is noted
pub noted : (gates : List ℕ) (place gate : ℕ) (f : ℕ → ℕ) → place < length gates → gate ≡ f place →
    ((p : ℕ) → p < place → slice_index gates p ≡ f p) → (p : ℕ) → p < place + 1 →
    slice_index (set gates place gate) p ≡ f p
noted gates place gate f within is before p below = by_place (cases_eq p place) where
  by_place : (p ≡ place) ⊎ (p ≡ place → ⊥) → slice_index (set gates place gate) p ≡ f p
  by_place (inl here) =
      ap (λ (q : ℕ). slice_index (set gates place gate) q) here
      ∙ get_or-set_same gates place gate 0 within ∙ is ∙ ap f (sym here)
  by_place (inr other) =
      get_or-set_other gates place p gate 0 other ∙ before p (grind (arith, below, other))

-- the bytes at a place
module _ {D : Type 0} (members : disk.Ghosts D) (d d' : D) (k : Known) where
  pub seen : (at place long n : ℕ) (answer : DiskAnswer) → at ≡ place → long ≡ n →
      members.told d' ≡ members.told d → CarriesOut members d d' (read_call at long Done ∷ []) answer →
      HasSeen members (in_hand d k) (in_hand d' k) place n answer
  seen at place long n answer here size told row = record {
    same = refl;
    told = told;
    made = subst (λ (p : ℕ). HasMade members d d' (read_call p n Done ∷ []) answer) here
        (subst (λ (m : ℕ). HasMade members d d' (read_call at m Done ∷ []) answer) size row.made);
  }

-- the slot of a number
module _ {D : Type 0} (members : disk.Ghosts D) (d d' : D) (k : Known) (number : ℕ) where
  pub looked : (at long : ℕ) (answer : DiskAnswer) → at ≡ number_place k.slots number → long ≡ 4096 →
      members.told d' ≡ members.told d → CarriesOut members d d' (read_call at long Done ∷ []) answer →
      HasLooked members (in_hand d k) (in_hand d' k) (number % k.slots) answer
  looked at long answer here size told row =
      seen members d d' k at (number_place k.slots number) long 4096 answer here size told row

  pub slot_read : (at : ℕ) (into : List ℕ) → at ≡ number_place k.slots number → length into ≡ 4096 →
      ((s : Story) → members.told d ≡ Some s → into ≡ bytes_at s.now.bytes at (length into)) →
      HasSlot members (in_hand d k) (number % k.slots) into
  slot_read at into here long is s told =
      is s told ∙ ap (λ (n : ℕ). bytes_at s.now.bytes at n) long
      ∙ ap (λ (p : ℕ). bytes_at s.now.bytes p 4096) here

  pub looks_on : (at long : ℕ) (into : List ℕ) (answer : DiskAnswer) → at ≡ number_place k.slots number →
      long ≡ 4096 → length into ≡ 4096 → members.told d' ≡ members.told d → Reads (members.told d) at into answer →
      CarriesOut members d d' (read_call at long Done ∷ []) answer →
      LooksOn members (in_hand d k) (in_hand d' k) number into answer
  looks_on at long into Done here size fits told read row =
      (looked at long Done here size told row, slot_read at into here fits read)
  looks_on at long into Failed here size fits told read row = looked at long Failed here size told row

-- ---- messages that are there, and that aren't

module _ (s : Story) (k : Known) (is : Rests s k) (room : k.next ≤ k.first + k.slots) (number : ℕ) (into : List ℕ)
    (read : into ≡ bytes_at s.now.bytes (slot_place (number % k.slots)) 4096) where
  abbrev bytes : List ℕ
  bytes = s.now.bytes

  abbrev j : ℕ
  j = number % k.slots

  into_gate : slice_index into 0 ≡ (slot_in bytes j).gate
  into_gate =
      let here : slot_place j + 0 ≡ slot_place j = omega arith in
      ap (λ (xs : List ℕ). slice_index xs 0) read
      ∙ get_or-take 4096 (drop (slot_place j) bytes) 0 0 (omega arith)
      ∙ get_or-drop (slot_place j) bytes 0 0
      ∙ ap (λ (p : ℕ). slice_index bytes p) here

  into_head : head_of (bytes_at into 1 14) ≡ (slot_in bytes j).head
  into_head = ap head_of (slot_head bytes into (slot_place j) read)

  some : 1 ≤ k.slots
  some = some_slots s k is room

  below : j < k.slots
  below = place_below s k is room number

  -- one that stands there is on the list
  there : stands_on (floor_in bytes) (slot_in bytes j) ≡ true → (slot_in bytes j).head.number ≡ number →
      (head : SlotHead) → head ≡ head_of (bytes_at into 1 14) → (head.number ≡ number) × IsListed s head
  there stands here head head_is =
      let one = listed_at bytes j (subst (λ (n : ℕ). j < n) is.slots_are below) stands in
      let same : head ≡ (slot_in bytes j).head = head_is ∙ into_head in
      let at : head.number ≡ number = ap (λ (h : SlotHead). h.number) same ∙ here in
      let place : j ≡ head.number % slots_in bytes =
      ap (λ (n : ℕ). number % n) is.slots_are ∙ ap (λ (n : ℕ). n % slots_in bytes) (sym at) in (
        at,
        record {
          place = one.0;
          listed = one.1 ∙ ap (λ (i : ℕ). Some (slot_message (slots_in bytes) (slot_in bytes) i)) place;
          head_is = same ∙ ap (λ (i : ℕ). (slot_in bytes i).head) place;
        },
      )

  -- the oldest message
  pub found_first : 0 < k.len → number ≡ k.first → (head : SlotHead) → head ≡ head_of (bytes_at into 1 14) →
      (head.number ≡ number) × IsListed s head
  found_first one here head head_is =
      let oldest = first_there s k is room one in
      let slot : k.first % k.slots ≡ j = ap (λ (n : ℕ). n % k.slots) (sym here) in
      there (subst (λ (i : ℕ). stands_on (floor_in bytes) (slot_in bytes i) ≡ true) slot oldest.1)
      (subst (λ (i : ℕ). (slot_in bytes i).head.number ≡ k.first) slot oldest.2 ∙ sym here) head head_is

  -- one of a number that its slot has
  pub found_at : k.first ≤ number → HasHead number into → (head : SlotHead) → head ≡ head_of (bytes_at into 1 14) →
      (head.number ≡ number) × IsListed s head
  found_at from has head head_is =
      let here : (slot_in bytes j).head.number ≡ number =
      ap (λ (h : SlotHead). h.number) (sym into_head) ∙ has.1 in
      let gate : (slot_in bytes j).gate ≡ 90 = sym into_gate ∙ has.0 in
      let opened : is_open (slot_in bytes j) ≡ true = grind (arith, nat_tests, gate) in
      let over : nat_le (floor_in bytes) (slot_in bytes j).head.number ≡ true =
      grind (arith, nat_tests, here, from, is.low) in
      there (ap (λ (b : Bool). b && nat_le (floor_in bytes) (slot_in bytes j).head.number) opened ∙ over) here head head_is

  -- and where its slot has none, no message has it
  pub missed_there : (HasHead number into → ⊥) → All (λ m. m.number ≡ number → ⊥) (file_in bytes).list
  missed_there none =
      each_all (λ m. m.number ≡ number → ⊥) (file_in bytes).list
      (each_made (λ m. m.number ≡ number → ⊥) (slot_stands (frame_in bytes).floor (slot_in bytes))
      (slot_message (slots_in bytes) (slot_in bytes)) (slots_in bytes) (λ i less stands same.
      let place : i ≡ j =
      sym ((sound_kept bytes is.sound).kept.places i less stands) ∙ ap (λ (n : ℕ). n % slots_in bytes) same
      ∙ ap (λ (n : ℕ). number % n) (sym is.slots_are) in
      let opened : is_open (slot_in bytes j) ≡ true =
      subst (λ (x : ℕ). is_open (slot_in bytes x) ≡ true) place
      (stands_open (frame_in bytes).floor (slot_in bytes i) stands) in
      let gate : (slot_in bytes j).gate ≡ 90 = grind (arith, nat_tests, opened) in
      none (
        into_gate ∙ gate,
        ap (λ (h : SlotHead). h.number) into_head
            ∙ ap (λ (x : ℕ). (slot_in bytes x).head.number) (sym place) ∙ same,
      )))

-- no message has a number that none of them takes
pub missed_out : (s : Story) (k : Known) (number : ℕ) → Rests s k → (number < k.first) ⊎ (k.next ≤ number) →
    All (λ m. m.number ≡ number → ⊥) (file_in s.now.bytes).list
missed_out s k number is out =
    let list = (file_in s.now.bytes).list in
    each_all (λ m. m.number ≡ number → ⊥) list
    (each_so (IsBetween k.first k.next) (λ m. m.number ≡ number → ⊥) list (λ m between same. by_side m between same out)
    (chain_within k.first k.next list is.chain)) where
      by_side : (m : Message) → IsBetween k.first k.next m → m.number ≡ number →
          (number < k.first) ⊎ (k.next ≤ number) → ⊥
      by_side m between same (inl before) = omega (arith, before, same, between.0)
      by_side m between same (inr behind) =
          let wide = some_slots_of (length m.body) in omega (arith, behind, same, between.1, wide)

-- how many slots the messages take
pub sum_is : (s : Story) (k : Known) → Rests s k → k.next - k.first ≡ sum_by width (file_in s.now.bytes).list
sum_is s k is =
    let list = (file_in s.now.bytes).list in
    let all = chain_total k.first k.next list is.chain in
    omega (arith, all) ∙ total_is list where
      total_is : (list : List Message) → total list ≡ sum_by width list
      total_is [] = refl
      total_is (x ∷ list) = ap (λ (n : ℕ). width x + n) (total_is list) ∙ sym (sum_by-cons width x list)
