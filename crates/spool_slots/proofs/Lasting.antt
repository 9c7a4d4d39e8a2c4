-- What a write and its sync do to a spool on the disk.
use Rattle.std.proofs.Common.{◌≡◌, ℕ, ◌+◌, ◌%◌, ◌<◌, ◌≤◌, ◌==◌, Bool, true, false, List, [], ◌∷◌, ◌++◌}
use Rattle.std.proofs.Common.{length, Option, Some, None, Ok, length-append, refl, sym, ap, subst, ◌∙◌}
use Rattle.std.proofs.Common.{arith, inl, inr}
use Rattle.std.proofs.lemmas.Nat.{mod_below}
use Rattle.std.specs.Option.{option_map}
use Rattle.disk_base.specs.Settle.{Settles}
use Rattle.disk_base.specs.Story.{Story, with_part, with_sync, with_write}
use Rattle.disk_base.specs.Through.{IsOver}
use Rattle.disk_base.specs.declared.disk.Disk as disk
use Rattle.disk_base.specs.declared.disk.DiskAnswer.{DiskAnswer}
use Rattle.disk_base.specs.declared.disk.DiskAnswer.TheVariants.{Done}
use Rattle.disk_base.proofs.Moments.{settle_through, through_more}
use Rattle.disk_base.proofs.Marks.{length-part}
use Rattle.spool_file.specs.Breaks.{list_below, slot_stands}
use Rattle.spool_file.specs.File.{Ends, SpoolFile, StandsFor, file_in, floor_in, frame_in, slots_in, version_in}
use Rattle.spool_file.specs.Run.{IsChainFrom}
use Rattle.spool_file.specs.Sizes.{slots_for}
use Rattle.spool_file.specs.Slot.{Message, head_break, is_open, slot_in, slot_message, slot_place, stands_on, width}
use Rattle.spool_file.specs.declared.recovery.Known.{Known}
use Rattle.spool_file.specs.declared.slot.Frame.{Frame}
use Rattle.spool_file.proofs.Fronts.{made_frame}
use Rattle.spool_file.proofs.Gates.{stands_open}
use Rattle.spool_file.proofs.Runs.{oldest}
use Rattle.spool_slots.specs.Changes.{HasSealed, HasSettled, HoldsThrough, IsSameOr, Seals}
use Rattle.spool_slots.specs.Files.{dropped_in, sealed_in}
use Rattle.spool_slots.specs.Spool.{HasParts, IsSpool, IsStagedSpool, Rests, in_hand, staged}
use Rattle.spool_slots.proofs.Moves.{close_chain, close_less, listed, open_chain, open_more, shut_same, some, still_same}
use Rattle.spool_slots.proofs.Moves.{whole}

-- a write with its sync over settled bytes, of which any such part leaves P
pub lasts : (before after : Option Story) (at : ℕ) (bytes : List ℕ) (answer : DiskAnswer)
    (P : List ℕ → List ℕ → Type 0) →
    ((s : Story) → before ≡ Some s → s.now.loose ≡ []) →
    ((s : Story) → before ≡ Some s → at + length bytes ≤ length s.now.bytes) →
    ((s : Story) → before ≡ Some s → (part : List ℕ) → length part ≡ length bytes →
    P s.now.bytes (with_part s.now.bytes at part)) →
    Settles before at bytes after answer → HoldsThrough before after P
lasts before after at bytes answer P settled inside leaves settles s is =
    let goes = settle_through s at bytes after answer (settled s is) (inside s is)
    (subst (λ b. Settles b at bytes after answer) is settles) in (
      goes.0,
      goes.1,
      through_more s goes.0 (IsOver s.now.bytes at (length bytes)) (P s.now.bytes)
          (λ image over. subst (P s.now.bytes) (sym over.2) (leaves s is over.0 over.1)) goes.2,
    )

module _ (s : Story) (k : Known) (is : Rests s k) (room : k.next ≤ k.first + k.slots) where
  abbrev bytes : List ℕ
  bytes = s.now.bytes

  abbrev pub frame : Frame
  frame = made_frame k.version k.slots (floor_in bytes)

  pub frame_is : frame ≡ frame_in bytes
  frame_is =
      ap (λ (v : ℕ). made_frame v k.slots (floor_in bytes)) is.version_is
      ∙ ap (λ (n : ℕ). made_frame (version_in bytes) n (floor_in bytes)) is.slots_are

  pub some_slots : 1 ≤ k.slots
  some_slots = some bytes frame frame_is k.first k.next is.sound is.low is.chain room

  pub place_below : (n : ℕ) → n % k.slots < k.slots
  place_below n = mod_below n k.slots (omega (arith, some_slots))

  pub list_is : (file_in bytes).list ≡ list_below frame (slot_in bytes) k.slots
  list_is = listed bytes frame frame_is k.first k.next is.sound is.low is.chain room

  -- a gate in the next message's slot leaves the file, or lengthens it
  module _ (size : ℕ) (parts : HasParts s k.slots k.next size) (least : 1 ≤ size)
      (fits : k.next + size ≤ k.first + k.slots) where
    abbrev next_place : ℕ
    next_place = k.next % k.slots

    pub closed : is_open (slot_in bytes next_place) ≡ false
    closed =
        let here : k.next + 0 ≡ k.next = omega arith in
        subst (λ (n : ℕ). is_open (slot_in bytes (n % k.slots)) ≡ false) here (parts.closed 0 (omega (arith, least)))

    fields : head_break frame next_place (slot_in bytes next_place).head ≡ None
    fields = subst (λ (f : Frame). head_break f next_place (slot_in bytes next_place).head ≡ None) (sym frame_is)
        parts.fields

    takes : k.next + slots_for (slot_in bytes next_place).head.len ≤ k.first + k.slots
    takes = omega (arith, fits, parts.size_is)

    pub more_stands : (gate : ℕ) → (gate == 90) ≡ true →
        StandsFor (with_part bytes (slot_place next_place) (gate ∷ [])) (sealed_in next_place bytes)
    more_stands gate test =
        open_more bytes frame frame_is k.first k.next is.sound is.low is.chain room next_place (place_below k.next) gate
        closed test fields parts.number takes

    pub more_chain : IsChainFrom k.first (k.next + size)
        ((file_in bytes).list ++ slot_message k.slots (slot_in bytes) next_place ∷ [])
    more_chain =
        subst (λ (n : ℕ). IsChainFrom k.first (k.next + n)
        ((file_in bytes).list ++ slot_message k.slots (slot_in bytes) next_place ∷ [])) parts.size_is
        (open_chain bytes frame frame_is k.first k.next is.sound is.low is.chain room next_place (place_below k.next) 90
        closed refl fields parts.number takes)

    pub seal_shut : (gate : ℕ) → (gate == 90) ≡ false →
        StandsFor (with_part bytes (slot_place next_place) (gate ∷ [])) (file_in bytes)
    seal_shut gate test =
        shut_same bytes frame frame_is k.first k.next is.sound is.low is.chain room next_place (place_below k.next) gate
        closed test

    pub seal_leaves : (gate : ℕ) → IsSameOr (sealed_in next_place) bytes
        (with_part bytes (slot_place next_place) (gate ∷ []))
    seal_leaves gate = by_gate (gate == 90) refl where
      by_gate : (b : Bool) → (gate == 90) ≡ b →
          IsSameOr (sealed_in next_place) bytes (with_part bytes (slot_place next_place) (gate ∷ []))
      by_gate true test = inr (more_stands gate test)
      by_gate false test = inl (seal_shut gate test)

  -- the oldest message stands in the slot of the first number
  module _ (one : 0 < k.len) where
    abbrev first_place : ℕ
    first_place = k.first % k.slots

    pub first_there : (first_place < k.slots) × (stands_on (floor_in bytes) (slot_in bytes first_place) ≡ true)
        × ((slot_in bytes first_place).head.number ≡ k.first)
    first_there =
        oldest (slot_stands (floor_in bytes) (slot_in bytes)) (slot_message k.slots (slot_in bytes)) k.slots k.first
        k.next (whole bytes frame frame_is k.first k.next is.sound is.low is.chain room).kept first_place refl
        (omega (arith, one, is.count, ap (length {A = Message}) list_is))

    pub less_stands : (gate : ℕ) → (gate == 90) ≡ false →
        StandsFor (with_part bytes (slot_place first_place) (gate ∷ [])) (dropped_in bytes)
    less_stands gate test =
        close_less bytes frame frame_is k.first k.next is.sound is.low is.chain room first_place first_there.0 gate
        first_there.1 first_there.2 test

    pub less_chain : IsChainFrom (k.first + width (slot_message k.slots (slot_in bytes) first_place)) k.next
        (dropped_in bytes).list
    less_chain =
        close_chain bytes frame frame_is k.first k.next is.sound is.low is.chain room first_place first_there.0 0
        first_there.1 first_there.2 refl

    pub opened : is_open (slot_in bytes first_place) ≡ true
    opened = stands_open (floor_in bytes) (slot_in bytes first_place) first_there.1

    pub drop_open : (gate : ℕ) → (gate == 90) ≡ true →
        StandsFor (with_part bytes (slot_place first_place) (gate ∷ [])) (file_in bytes)
    drop_open gate test =
        still_same bytes frame frame_is k.first k.next is.sound is.low is.chain room first_place first_there.0 gate
        opened test

    -- a gate there leaves it, or shortens it
    pub drop_leaves : (gate : ℕ) → IsSameOr dropped_in bytes (with_part bytes (slot_place first_place) (gate ∷ []))
    drop_leaves gate = by_gate (gate == 90) refl where
      by_gate : (b : Bool) → (gate == 90) ≡ b →
          IsSameOr dropped_in bytes (with_part bytes (slot_place first_place) (gate ∷ []))
      by_gate true test = inl (drop_open gate test)
      by_gate false test = inr (less_stands gate test)

-- a part of one byte
pub one_byte : (bytes : List ℕ) (at : ℕ) (P : List ℕ → Type 0) → ((gate : ℕ) → P (with_part bytes at (gate ∷ []))) →
    (part : List ℕ) → length part ≡ 1 → P (with_part bytes at part)
one_byte bytes at P each [] long = absurd (omega (arith, long))
one_byte bytes at P each (gate ∷ []) long = each gate
one_byte bytes at P each (gate ∷ (other ∷ part)) long = absurd (omega (arith, long))

abbrev story_or : Story → Option Story → Story
story_or other None = other
story_or other (Some s) = s

-- after a write and a sync that were done
pub after_settle : (before after : Option Story) (at : ℕ) (bytes : List ℕ) (P : Story → Type 0) →
    ((s : Story) → before ≡ Some s → P (with_sync (with_write at bytes s))) → Settles before at bytes after Done →
    (t : Story) → after ≡ Some t → P t
after_settle None after at bytes P holds settles t is = absurd (grind (arith, settles, is))
after_settle (Some s) after at bytes P holds settles t is =
    subst P (ap (λ o. story_or t o) (sym settles ∙ is)) (holds s refl)

pub done_at : (before after : Option Story) (at : ℕ) (bytes : List ℕ) (s t : Story) →
    Settles before at bytes after Done → before ≡ Some s →
    after ≡ Some t → with_sync (with_write at bytes s) ≡ t
done_at before after at bytes s t settles is_s is_t =
    ap (λ o. story_or t o) (sym (ap (option_map (λ s. with_sync (with_write at bytes s))) is_s) ∙ sym settles ∙ is_t)

-- settled bytes that stand for a file
pub rests_for : (t : Story) (file : SpoolFile) (k : Known) → t.now.loose ≡ [] →
    slot_place k.slots ≤ length t.now.bytes → StandsFor t.now.bytes file →
    k.version ≡ file.version → k.slots ≡ file.slots → k.mark ≡ file.mark.value → file.floor.value ≤ k.first →
    IsChainFrom k.first k.next file.list → k.len ≡ length file.list →
    Rests t k
rests_for t file k settled inside stands version_is slots_are mark_is low chain count = record {
  settled = settled;
  sound = stands.sound;
  inside = inside;
  version_is = version_is ∙ ap (λ (f : SpoolFile). f.version) stands.is;
  slots_are = slots_are ∙ ap (λ (f : SpoolFile). f.slots) stands.is;
  mark_is = mark_is ∙ ap (λ (f : SpoolFile). f.mark.value) stands.is;
  low = subst (λ (f : SpoolFile). f.floor.value ≤ k.first) stands.is low;
  chain = subst (λ (f : SpoolFile). IsChainFrom k.first k.next f.list) stands.is chain;
  count = count ∙ ap (λ (f : SpoolFile). length f.list) stands.is;
}

-- what was written and synced
pub rests_now : (s : Story) (at : ℕ) (bytes : List ℕ) (file : SpoolFile) (k : Known) →
    at + length bytes ≤ length s.now.bytes → slot_place k.slots ≤ length s.now.bytes →
    StandsFor (with_part s.now.bytes at bytes) file →
    k.version ≡ file.version → k.slots ≡ file.slots → k.mark ≡ file.mark.value → file.floor.value ≤ k.first →
    IsChainFrom k.first k.next file.list → k.len ≡ length file.list →
    Rests (with_sync (with_write at bytes s)) k
rests_now s at bytes file k within inside stands version_is slots_are mark_is low chain count =
    rests_for (with_sync (with_write at bytes s)) file k refl
    (omega (arith, inside, length-part s.now.bytes bytes at within)) stands
    version_is slots_are mark_is low chain count

-- the write of a gate lies within the file
pub gate_within : (s : Story) (k : Known) (j : ℕ) → Rests s k → j < k.slots → slot_place j + 1 ≤ length s.now.bytes
gate_within s k j is below = omega (arith, is.inside, below)

-- the gate of the next message's slot was opened
module _ {D : Type 0} (members : disk.Ghosts D) (d d' : D) (k : Known) (size : ℕ)
    (is : IsStagedSpool members (staged d k size)) where
  abbrev seal_slot : ℕ
  seal_slot = k.next % k.slots

  seal_below : seal_slot < k.slots
  seal_below = mod_below k.next k.slots (omega (arith, is.spool.some))

  pub seal_does : (answer : DiskAnswer) → HasSettled members d d' (slot_place seal_slot) (90 ∷ []) answer →
      HasSealed members (in_hand d k) d' answer
  seal_does answer done = record {
    images = lasts (members.told d) (members.told d') (slot_place seal_slot) (90 ∷ []) answer
        (IsSameOr (sealed_in seal_slot))
        (λ s told. (is.spool.rests s told).settled)
        (λ s told. gate_within s k seal_slot (is.spool.rests s told) seal_below)
        (λ s told. one_byte s.now.bytes (slot_place seal_slot) (IsSameOr (sealed_in seal_slot) s.now.bytes)
        (seal_leaves s k (is.spool.rests s told) is.spool.room size (is.parts s told) is.some is.free))
        done.told;
    disk = done;
  }

  abbrev pub more : Known
  more = record {
    version = k.version;
    slots = k.slots;
    first = k.first;
    next = k.next + size;
    len = k.len + 1;
    mark = k.mark;
  }

  module _ (s : Story) (told : members.told d ≡ Some s) where
    abbrev sealed : SpoolFile
    sealed = sealed_in seal_slot s.now.bytes

    rests : Rests s k
    rests = is.spool.rests s told

    stands : StandsFor (with_part s.now.bytes (slot_place seal_slot) (90 ∷ [])) sealed
    stands = more_stands s k rests is.spool.room size (is.parts s told) is.some is.free 90 refl

    chain : IsChainFrom k.first (k.next + size) sealed.list
    chain = subst (λ (n : ℕ). IsChainFrom k.first (k.next + size)
        ((file_in s.now.bytes).list ++ slot_message n (slot_in s.now.bytes) seal_slot ∷ [])) rests.slots_are
        (more_chain s k rests is.spool.room size (is.parts s told) is.some is.free)

    more_rests : Rests (with_sync (with_write (slot_place seal_slot) (90 ∷ []) s)) more
    more_rests =
        rests_now s (slot_place seal_slot) (90 ∷ []) sealed more
        (gate_within s k seal_slot rests seal_below) rests.inside stands rests.version_is rests.slots_are rests.mark_is
        rests.low chain
        (omega (
          arith,
          rests.count,
          length-append (file_in s.now.bytes).list
              (slot_message (slots_in s.now.bytes) (slot_in s.now.bytes) seal_slot ∷ []),
        ))

  pub seal_spool : HasSettled members d d' (slot_place seal_slot) (90 ∷ []) Done → IsSpool members (in_hand d' more)
  seal_spool done = record {
    version = is.spool.version;
    some = is.spool.some;
    most = is.spool.most;
    fits = subst (λ n. slot_place k.slots ≤ n) (sym done.size) is.spool.fits;
    from = omega (arith, is.spool.from, is.some);
    none = λ empty. absurd (omega (arith, empty));
    even = λ one. omega (arith, is.spool.even one, is.single one);
    room = omega (arith, is.free);
    numbers = omega (arith, is.number);
    mark_most = is.spool.mark_most;
    rests = after_settle (members.told d) (members.told d') (slot_place seal_slot) (90 ∷ []) (λ t. Rests t more)
        more_rests done.told;
  }

  pub seals : HasSettled members d d' (slot_place seal_slot) (90 ∷ []) Done →
      Seals members (staged d k size) (Ok (in_hand d' more))
  seals done = (
    seal_does Done done,
    refl,
    λ s t told told'. subst (λ t. Ends t (sealed_in seal_slot s.now.bytes))
        (done_at (members.told d) (members.told d') (slot_place seal_slot) (90 ∷ []) s t done.told told told')
        (record { settled = refl; stands = stands s told }),
  )
