-- A spool in hand: what is kept of it, and how that stands to the disk (this profile).
use Rattle.std.specs.Prelude.{◌≡◌, ◌⊎◌, ℕ, ◌+◌, ◌-◌, ◌^◌, ◌%◌, ◌<◌, ◌≤◌, ◌==◌, min, refl, false, if◌then◌else◌, []}
use Rattle.std.specs.Prelude.{length, Option, Some, None}
use Rattle.std.specs.Coded.{Coded, code_by, coded×, coded_ℕ}
use Rattle.disk_base.specs.Story.{Story}
use Rattle.disk_base.specs.declared.disk.Disk as disk
use Rattle.spool_file.specs.File.{file_in, frame_in, slots_in, spool_break, version_in}
use Rattle.spool_file.specs.Run.{IsChainFrom}
use Rattle.spool_file.specs.Sizes.{is_too_long, slots_for}
use Rattle.spool_file.specs.Slot.{head_break, is_open, slot_in, slot_place}
use Rattle.spool_file.specs.declared.recovery.Known.{Known}

-- the disk, the version of its file, how many slots there are, the numbers of the oldest message and of the next one,
-- how many messages there are, and the mark
pub record SpoolView (D : Type 0) : Type 0 where
  pub disk : D
  pub version : ℕ
  pub slots : ℕ
  pub first : ℕ
  pub next : ℕ
  pub len : ℕ
  pub mark : ℕ

-- such a view, and what it says beside the disk
abbrev pub in_hand : {D : Type 0} → D → Known → SpoolView D
in_hand disk known = record {
  disk = disk;
  version = known.version;
  slots = known.slots;
  first = known.first;
  next = known.next;
  len = known.len;
  mark = known.mark;
}

abbrev pub known_of : {D : Type 0} → SpoolView D → Known
known_of v = record {
  version = v.version;
  slots = v.slots;
  first = v.first;
  next = v.next;
  len = v.len;
  mark = v.mark;
}

abbrev pub spool_code : {D : Type 0} → Coded D → Coded (SpoolView D)
spool_code {D} code =
    code_by (D × (ℕ × (ℕ × (ℕ × (ℕ × (ℕ × ℕ))))))
    (coded× code
    (coded× coded_ℕ (coded× coded_ℕ (coded× coded_ℕ (coded× coded_ℕ (coded× coded_ℕ coded_ℕ))))))
    (λ v. (v.disk, (v.version, (v.slots, (v.first, (v.next, (v.len, v.mark)))))))
    (λ p. record {
      disk = p.0;
      version = p.1.0;
      slots = p.1.1.0;
      first = p.1.1.1.0;
      next = p.1.1.1.1.0;
      len = p.1.1.1.1.1.0;
      mark = p.1.1.1.1.1.1;
    })
    (λ _. refl)

-- a spool with a message that stands in its slots, the first of which is closed still, and how many these are
pub record StagedView (D : Type 0) : Type 0 where
  pub spool : SpoolView D
  pub size : ℕ

abbrev pub staged : {D : Type 0} → D → Known → ℕ → StagedView D
staged disk known size = record { spool = in_hand disk known; size = size }

abbrev pub staged_code : {D : Type 0} → Coded D → Coded (StagedView D)
staged_code {D} code =
    code_by (SpoolView D × ℕ) (coded× (spool_code code) coded_ℕ) (λ v. (v.spool, v.size))
    (λ p. record { spool = p.0; size = p.1 }) (λ _. refl)

-- the slots of the next message and of the oldest one
abbrev pub next_slot : {D : Type 0} → SpoolView D → ℕ
next_slot v = v.next % v.slots

abbrev pub first_slot : {D : Type 0} → SpoolView D → ℕ
first_slot v = v.first % v.slots

-- how many slots a message with so many bytes takes, where it isn't too long
abbrev pub message_size : (version slots long : ℕ) → Option ℕ
message_size version slots long = if is_too_long version slots long then None else Some (slots_for long)

-- how many slots the first message takes, whose length is this; the last one takes all that are used, and each other
-- one leaves a slot to those behind it
abbrev pub first_size : Known → (len : ℕ) → ℕ
first_size known len =
    if known.len == 1 then known.next - known.first
    else min (slots_for len) (known.next - known.first - (known.len - 1))

-- the bytes are settled, and stand for a file to which what is known belongs
pub record Rests (s : Story) (known : Known) : Type 0 where
  pub settled : s.now.loose ≡ []
  pub sound : spool_break s.now.bytes ≡ None
  pub inside : slot_place known.slots ≤ length s.now.bytes
  pub version_is : known.version ≡ version_in s.now.bytes
  pub slots_are : known.slots ≡ slots_in s.now.bytes
  pub mark_is : known.mark ≡ (file_in s.now.bytes).mark.value
  -- so the next message stands, too, once its slot is open
  pub low : (file_in s.now.bytes).floor.value ≤ known.first
  pub chain : IsChainFrom known.first known.next (file_in s.now.bytes).list
  pub count : known.len ≡ length (file_in s.now.bytes).list

pub record IsSpool {D : Type 0} (members : disk.Ghosts D) (v : SpoolView D) : Type 0 where
  pub version : (v.version ≡ 1) ⊎ (v.version ≡ 2)
  pub some : 1 ≤ v.slots
  pub most : v.slots ≤ 65535
  pub fits : slot_place v.slots ≤ members.size_is v.disk
  -- each message takes a slot at least, in version 1 one, and together they take no more than there are
  pub from : v.first + v.len ≤ v.next
  pub none : v.len ≡ 0 → v.first ≡ v.next
  pub even : v.version ≡ 1 → v.next ≡ v.first + v.len
  pub room : v.next ≤ v.first + v.slots
  pub numbers : v.next ≤ 2 ^ 63 + 65535
  pub mark_most : v.mark ≤ 2 ^ 32
  pub rests : (s : Story) → members.told v.disk ≡ Some s → Rests s (known_of v)

-- the next slots, as many as a message takes, are closed, and the first one has the head of one that takes so many
pub record HasParts (s : Story) (slots next size : ℕ) : Type 0 where
  pub closed : (p : ℕ) → p < size → is_open (slot_in s.now.bytes ((next + p) % slots)) ≡ false
  pub fields : head_break (frame_in s.now.bytes) (next % slots) (slot_in s.now.bytes (next % slots)).head ≡ None
  pub number : (slot_in s.now.bytes (next % slots)).head.number ≡ next
  pub size_is : slots_for (slot_in s.now.bytes (next % slots)).head.len ≡ size

pub record IsStagedSpool {D : Type 0} (members : disk.Ghosts D) (v : StagedView D) : Type 0 where
  pub spool : IsSpool members v.spool
  pub some : 1 ≤ v.size
  pub single : v.spool.version ≡ 1 → v.size ≡ 1
  pub free : v.spool.next + v.size ≤ v.spool.first + v.spool.slots
  pub number : v.spool.next + v.size ≤ 2 ^ 63
  pub parts : (s : Story) → members.told v.spool.disk ≡ Some s → HasParts s v.spool.slots v.spool.next v.size
