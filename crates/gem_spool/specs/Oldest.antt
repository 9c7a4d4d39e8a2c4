-- What is read of the oldest message (this profile).
use Rattle.std.specs.Prelude.{◌≡◌, ℕ, zero, suc, ◌+◌, ◌-◌, ◌*◌, ◌<◌, ◌≤◌, ◌==◌, if◌then◌else◌, List, [], ◌∷◌, ◌++◌, drop, take}
use Rattle.std.specs.Prelude.{Some, Result, Ok, Err}
use Rattle.std.specs.List.{slice_get}
use Rattle.disk_base.specs.Calls.{DiskCall, read_call}
use Rattle.disk_base.specs.Story.{Story}
use Rattle.disk_base.specs.declared.disk.Disk as disk
use Rattle.disk_base.specs.declared.disk.DiskAnswer.{DiskAnswer}
use Rattle.disk_base.specs.declared.disk.DiskAnswer.TheVariants.{Done, Failed}
use Rattle.gem_spool.specs.declared.kept.Kept.{Kept}
use Rattle.gem_spool.specs.declared.kept.Unread.{Unread}
use Rattle.gem_spool.specs.declared.kept.Unread.TheVariants as unread
use Rattle.spool_file.specs.File.{file_in}
use Rattle.spool_file.specs.Sizes.{slots_for}
use Rattle.spool_file.specs.Slot.{Message, areas_from, slot_in}
use Rattle.spool_file.specs.declared.slot.SlotHead.{SlotHead}
use Rattle.spool_slots.specs.Calls.{number_place}
use Rattle.spool_slots.specs.Changes.{HasMade}
use Rattle.spool_slots.specs.Spool.{SpoolView, in_hand, known_of}

-- the message of the list, which has this number
abbrev pub message_in : ℕ → Kept → Message
message_in number kept =
    record { number = number; stream = kept.stream; function = kept.function; body = kept.body }

-- a head by what is known of its message: its number, and how many slots it takes, where the head says another
abbrev pub known_head : SlotHead → (number slots : ℕ) → SlotHead
known_head head number slots = record {
  number = number;
  stream = head.stream;
  function = head.function;
  len = if slots_for head.len == slots then head.len else 4081 * slots;
}

-- the reads of so many slots in a row, from that of a number on
abbrev pub slot_looks : (slots number more : ℕ) → List DiskCall
slot_looks slots number zero = []
slot_looks slots number (suc more) =
    read_call (number_place slots number) 4096 Done ∷ slot_looks slots (number + 1) more

-- slots of the oldest message were read, as far as that went, and the rest is as it was
pub record HasReadSlots {D : Type 0} (members : disk.Ghosts D) (v w : SpoolView D) (looks : List DiskCall)
    (answer : DiskAnswer) : Type 0 where
  pub same : w ≡ in_hand w.disk (known_of v)
  pub told : members.told w.disk ≡ members.told v.disk
  pub made : HasMade members v.disk w.disk looks answer

-- all of them, and those behind the first one
abbrev pub oldest_looks : {D : Type 0} → SpoolView D → (n : ℕ) → List DiskCall
oldest_looks v n = slot_looks v.slots v.first n

abbrev pub further_looks : {D : Type 0} → SpoolView D → (n : ℕ) → List DiskCall
further_looks v n = slot_looks v.slots (v.first + 1) (n - 1)

-- where memory ran out, some first ones of so many were read
pub record HasReadSome {D : Type 0} (members : disk.Ghosts D) (v w : SpoolView D) (looks : ℕ → List DiskCall) (n : ℕ) :
    Type 0 where
  pub made : ℕ
  pub few : made ≤ n
  pub reads : HasReadSlots members v w (looks made) Done

-- what the further slots have of the body was put behind what there was
abbrev pub ReadsParts : {D : Type 0} → disk.Ghosts D → SpoolView D → SpoolView D → (slots : ℕ) → (before body : List ℕ) →
    Result (Unit {0}) Unread → Type 0
ReadsParts members v w slots before body (Ok done) =
    HasReadSlots members v w (further_looks v slots) Done
    × ((s : Story) → members.told v.disk ≡ Some s →
    body ≡ before ++ areas_from v.slots (slot_in s.now.bytes) (v.first + 1) (slots - 1))
ReadsParts members v w slots before body (Err unread.Empty) = ⊥
ReadsParts members v w slots before body (Err unread.Failed) = HasReadSlots members v w (further_looks v slots) Failed
ReadsParts members v w slots before body (Err unread.NoMemory) = HasReadSome members v w (further_looks v) slots

-- so of the message whose head is this, and whose first slot has these bytes
abbrev pub ReadsOn : {D : Type 0} → disk.Ghosts D → SpoolView D → SpoolView D → (slots : ℕ) → SlotHead → List ℕ →
    Result Kept Unread → Type 0
ReadsOn members v w slots head slot (Ok kept) =
    HasReadSlots members v w (further_looks v slots) Done
    × ((s : Story) → members.told v.disk ≡ Some s → kept ≡ record {
      stream = head.stream;
      function = head.function;
      body = take head.len (drop 15 slot ++ areas_from v.slots (slot_in s.now.bytes) (v.first + 1) (slots - 1));
    })
ReadsOn members v w slots head slot (Err unread.Empty) = ⊥
ReadsOn members v w slots head slot (Err unread.Failed) = HasReadSlots members v w (further_looks v slots) Failed
ReadsOn members v w slots head slot (Err unread.NoMemory) = HasReadSome members v w (further_looks v) slots

-- the slots of the oldest message were read, where there is one; where the disk tells its bytes, the message is the
-- first of its list
abbrev pub ReadsOldest : {D : Type 0} → disk.Ghosts D → SpoolView D → SpoolView D → (slots : ℕ) → Result Kept Unread →
    Type 0
ReadsOldest members v w slots (Ok kept) =
    HasReadSlots members v w (oldest_looks v slots) Done × (0 < v.len)
    × ((s : Story) → members.told v.disk ≡ Some s →
    slice_get (file_in s.now.bytes).list 0 ≡ Some (message_in v.first kept))
ReadsOldest members v w slots (Err unread.Empty) = (w ≡ v) × (v.len ≡ 0)
ReadsOldest members v w slots (Err unread.Failed) = HasReadSlots members v w (oldest_looks v slots) Failed × (0 < v.len)
ReadsOldest members v w slots (Err unread.NoMemory) = HasReadSome members v w (oldest_looks v) slots × (0 < v.len)
