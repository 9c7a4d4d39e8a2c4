-- What each call does to the spool on the disk (this profile).
use Rattle.std.specs.Prelude.{◌≡◌, ◌⊎◌, Bool, true, false, not, ℕ, zero, suc, ◌+◌, ◌*◌, ◌^◌, ◌%◌, ◌-◌, ◌<◌, ◌≤◌}
use Rattle.std.specs.Prelude.{List, [], ◌∷◌, length, replicate, slice_index, Option, Some, None, Result, Ok}
use Rattle.std.specs.Prelude.{Err}
use Rattle.std.specs.List.{All, slice_get}
use Rattle.std.specs.Option.{option_map}
use Rattle.disk_base.specs.Calls.{DiskCall, Logs, read_call, sync_call, with_call}
use Rattle.disk_base.specs.Cut.{image_of}
use Rattle.disk_base.specs.Faults.{DiskHealth, GoesAsListed, HasCause, IsLeftOut, IsPlanned}
use Rattle.disk_base.specs.Listed.{AsListed}
use Rattle.disk_base.specs.SameDisk.{IsSameDisk}
use Rattle.disk_base.specs.Settle.{LogsBoth, Settles}
use Rattle.disk_base.specs.Story.{Story, bytes_at, with_sync}
use Rattle.disk_base.specs.Through.{Through}
use Rattle.disk_base.specs.declared.cut.CutChoice.{CutChoice}
use Rattle.disk_base.specs.declared.disk.Disk as disk
use Rattle.disk_base.specs.declared.disk.DiskAnswer.{DiskAnswer}
use Rattle.disk_base.specs.declared.disk.DiskAnswer.TheVariants.{Done, Failed}
use Rattle.gate_cell.specs.Calls.{LogsPreparing}
use Rattle.gate_cell.specs.Cell.{cell_in, gate_byte, names_second, with_value}
use Rattle.gate_cell.specs.Holds.{Holds}
use Rattle.spool_file.specs.Area.{first_of}
use Rattle.spool_file.specs.File.{Ends, SpoolFile, StandsFor, file_in, is_open_at, slots_in, spool_break}
use Rattle.spool_file.specs.Front.{floor_cell, mark_cell}
use Rattle.spool_file.specs.Logs.{MakesAll, written_by}
use Rattle.spool_file.specs.Reading.{IsBreak}
use Rattle.spool_file.specs.Reads.{HasRead, MakesWhole, most_reads, recover_calls}
use Rattle.spool_file.specs.Sizes.{is_too_long, slots_for}
use Rattle.spool_file.specs.Slot.{Message, head_of, slot_in, slot_message, slot_place, width}
use Rattle.spool_file.specs.declared.slot.SlotHead.{SlotHead}
use Rattle.spool_slots.specs.Calls.{drop_calls, shut_calls, stage_calls, upgrade_calls}
use Rattle.spool_slots.specs.Files.{cleared_in, dropped_in, reserved_in, sealed_in, shut_in, upgraded_in, with_gates}
use Rattle.spool_slots.specs.Losses.{IsSure, Leaves, LeavesByGate, LeavesGates, closes, file_left, gate_counts}
use Rattle.spool_slots.specs.Losses.{names_spare, opens, shut_marks}
use Rattle.spool_slots.specs.Spool.{Rests, SpoolView, StagedView, first_slot, in_hand, known_of, next_slot}
use Rattle.spool_slots.specs.declared.states.Dropping.{Dropping}
use Rattle.spool_slots.specs.declared.states.Dropping.TheVariants as dropping
use Rattle.spool_slots.specs.declared.states.OldestAnswer.{OldestAnswer}
use Rattle.spool_slots.specs.declared.states.OldestAnswer.TheVariants as oldest
use Rattle.spool_slots.specs.declared.states.Recovering.{Recovering}
use Rattle.spool_slots.specs.declared.states.Recovering.TheVariants as recovering
use Rattle.spool_slots.specs.declared.states.Reserving.{Reserving}
use Rattle.spool_slots.specs.declared.states.Reserving.TheVariants as reserving
use Rattle.spool_slots.specs.declared.states.Spent.{Spent}
use Rattle.spool_slots.specs.declared.states.Staging.{Staging}
use Rattle.spool_slots.specs.declared.states.Staging.TheVariants as staging

-- where the disk told its bytes before, it does so now, and at every moment between a crash leaves bytes with P of what
-- was there before
abbrev pub HoldsThrough : Option Story → Option Story → (List ℕ → List ℕ → Type 0) → Type 0
HoldsThrough before after P =
    (s : Story) → before ≡ Some s → (t : Story) × (after ≡ Some t) × Through s t (P s.now.bytes)

-- such bytes stand for the same file
abbrev pub IsSame : List ℕ → List ℕ → Type 0
IsSame bytes image = StandsFor image (file_in bytes)

-- or for one that was changed
abbrev pub IsSameOr : (List ℕ → SpoolFile) → List ℕ → List ℕ → Type 0
IsSameOr changed bytes image = StandsFor image (file_in bytes) ⊎ StandsFor image (changed bytes)

-- or for the same file with other gates open
abbrev pub IsSameBar : List ℕ → List ℕ → Type 0
IsSameBar bytes image = (gates : List Bool) × StandsFor image (with_gates gates (file_in bytes))

-- a write and its sync were made, as far as they went, and the rest of the disk is as it was
pub record HasSettled {D : Type 0} (members : disk.Ghosts D) (old new : D) (at : ℕ) (bytes : List ℕ)
    (answer : DiskAnswer) : Type 0 where
  pub told : Settles (members.told old) at bytes (members.told new) answer
  pub size : members.size_is new ≡ members.size_is old
  pub calls : LogsBoth at bytes (IsLeftOut (members.health old) (members.health new)) (members.calls old)
      (members.calls new) answer
  pub listed : GoesAsListed (members.health old) →
      AsListed (members.told old) (members.calls old) (members.told new) (members.calls new)
  pub cause : HasCause (members.health old) (members.health new) 2 (length bytes)
      ((members.health old).room < length bytes) answer
  pub same_disk : IsSameDisk members old new

-- a sync was made, and then at most so many reads, of which the last one failed, or none
pub record HasRecovered {D : Type 0} (members : disk.Ghosts D) (old new : D) (most : ℕ) (answer : DiskAnswer) :
    Type 0 where
  pub told : members.told new ≡ option_map with_sync (members.told old)
  pub size : members.size_is new ≡ members.size_is old
  pub same_disk : IsSameDisk members old new
  pub synced : DiskHealth
  pub cause : HasCause (members.health old) synced 1 0 ⊥ Done
  pub reads : HasRead synced (members.health new) (with_call (sync_call Done) (members.calls old)) (members.calls new)
      most answer

-- the sync failed, and nothing was read
pub record HasNoSync {D : Type 0} (members : disk.Ghosts D) (old new : D) : Type 0 where
  pub told : members.told new ≡ members.told old
  pub size : members.size_is new ≡ members.size_is old
  pub same_disk : IsSameDisk members old new
  pub cause : HasCause (members.health old) (members.health new) 1 0 ⊥ Failed
  pub calls : Logs sync_call (IsLeftOut (members.health old) (members.health new) 0 0) (members.calls old)
      (members.calls new) Failed

-- the calls of a recovery are exactly these where the disk tells a file that stands, by its version
abbrev pub RecoversBy : {D : Type 0} → disk.Ghosts D → (old new : D) → DiskAnswer → Type 0
RecoversBy members old new answer =
    MakesWhole recover_calls (members.told old) (members.health old) (members.health new) (members.calls old)
    (members.calls new) answer

-- the list that stands is in hand; or the first break; or the disk failed
abbrev pub Recovers : {D : Type 0} → disk.Ghosts D → D → Result (SpoolView D) (Recovering D) → Type 0
Recovers members old (Ok v) =
    HasRecovered members old v.disk (3 * v.slots + 1) Done
    × ((s : Story) → members.told old ≡ Some s → Rests (with_sync s) (known_of v)
    × (v.first ≡ first_of (file_in s.now.bytes).floor.value (file_in s.now.bytes).list))
    × RecoversBy members old v.disk Done
Recovers members old (Err (recovering.NotSpool raw break)) =
    HasRecovered members old raw.disk (most_reads (members.told old) (members.size_is old)) Done
    × ((s : Story) → members.told old ≡ Some s → IsBreak s.now.bytes (spool_break s.now.bytes) break)
Recovers members old (Err (recovering.Failed spent)) =
    (HasNoSync members old spent.disk
    ⊎ HasRecovered members old spent.disk (most_reads (members.told old) (members.size_is old)) Failed)
    × RecoversBy members old spent.disk Failed

-- some calls were made, as far as they went, and the size of the disk is as it was
pub record HasMade {D : Type 0} (members : disk.Ghosts D) (old new : D) (row : List DiskCall) (answer : DiskAnswer) :
    Type 0 where
  pub size : members.size_is new ≡ members.size_is old
  pub calls : MakesAll (members.health old) (members.health new) (members.calls old) (members.calls new) row answer
  pub listed : GoesAsListed (members.health old) →
      AsListed (members.told old) (members.calls old) (members.told new) (members.calls new)
  pub same_disk : IsSameDisk members old new

-- a message has room in the spool, and numbers below 2^63
pub record HasRoomFor {D : Type 0} (v : SpoolView D) (long : ℕ) : Type 0 where
  pub from : v.first ≤ v.next
  pub short : is_too_long v.version v.slots long ≡ false
  pub free : v.next + slots_for long ≤ v.first + v.slots
  pub number : v.next + slots_for long ≤ 2 ^ 63

-- of the slots of n numbers in a row, from a number on, which are open
abbrev pub open_gates : (number n : ℕ) → SpoolFile → List Bool
open_gates number zero file = []
open_gates number (suc n) file = is_open_at number file ∷ open_gates (number + 1) n file

-- the pieces of the next message were written, and at every moment the old list stands; gates of its slots that are
-- open still are closed on the way
pub record HasStaged {D : Type 0} (members : disk.Ghosts D) (v : SpoolView D) (stream function : ℕ) (body : List ℕ)
    (after : D) (answer : DiskAnswer) : Type 0 where
  pub room : HasRoomFor v (length body)
  -- which of the gates were open, also where the disk tells nothing
  pub stale : List Bool
  pub long : length stale ≡ slots_for (length body)
  pub stale_is : (s : Story) → members.told v.disk ≡ Some s →
      stale ≡ open_gates v.next (slots_for (length body)) (file_in s.now.bytes)
  pub images : HoldsThrough (members.told v.disk) (members.told after) IsSameBar
  pub made : HasMade members v.disk after (stage_calls v.slots v.next stale stream function body) answer

-- what a loss leaves of a put's calls up to its last gate, by the one that was to fail: the looks at the gates change
-- nothing, each 00 and the sync behind them leave the gates so far as their bytes say, and behind these all are closed
pub record HasLostStage {D : Type 0} (members : disk.Ghosts D) (v : SpoolView D) (after : D) (stale : List Bool)
    (calls : List DiskCall) : Type 0 where
  pub early : IsPlanned (members.health v.disk) (length stale) →
      HoldsThrough (members.told v.disk) (members.told after) IsSame
  pub shutting : (m : ℕ) → length stale + m ≤ length (shut_calls v.slots v.next stale) →
      IsSure (members.health v.disk) (members.health after) (length calls) (written_by calls) →
      IsPlanned (members.health v.disk) (length stale + m) →
      (IsPlanned (members.health v.disk) (length stale + (m - 1)) → ⊥) →
      LeavesGates (members.told v.disk) (members.told after)
      (shut_marks v.slots v.next stale m (replicate v.slots false))
  pub late : IsSure (members.health v.disk) (members.health after) (length calls) (written_by calls) →
      (IsPlanned (members.health v.disk) (length (shut_calls v.slots v.next stale)) → ⊥) →
      Leaves (members.told v.disk) (members.told after) (shut_in v.next (length stale))

abbrev pub LosesStage : {D : Type 0} → disk.Ghosts D → SpoolView D → ℕ → ℕ → List ℕ → D → Type 0
LosesStage members v stream function body after =
    (s : Story) → members.told v.disk ≡ Some s →
    let stale = open_gates v.next (slots_for (length body)) (file_in s.now.bytes) in
    HasLostStage members v after stale (stage_calls v.slots v.next stale stream function body)

-- the message that was staged
abbrev pub IsNext : {D : Type 0} → disk.Ghosts D → SpoolView D → Message → Type 0
IsNext members w message =
    (t : Story) → members.told w.disk ≡ Some t →
    slot_message (slots_in t.now.bytes) (slot_in t.now.bytes) (next_slot w) ≡ message

abbrev pub Stages : {D : Type 0} → disk.Ghosts D → SpoolView D → ℕ → ℕ → List ℕ → Result (StagedView D) (Staging D) →
    Type 0
Stages members v stream function body (Ok w) =
    HasStaged members v stream function body w.spool.disk Done
    × (w ≡ record { spool = in_hand w.spool.disk (known_of v); size = slots_for (length body) })
    × ((s t : Story) → members.told v.disk ≡ Some s → members.told w.spool.disk ≡ Some t →
    Ends t (shut_in v.next (slots_for (length body)) s.now.bytes))
    × IsNext members w.spool (record { number = v.next; stream = stream; function = function; body = body })
Stages members v stream function body (Err (staging.TooLong w)) =
    (w ≡ v) × (is_too_long v.version v.slots (length body) ≡ true)
Stages members v stream function body (Err (staging.Full w)) =
    (w ≡ v) × (is_too_long v.version v.slots (length body) ≡ false)
    × (v.first + v.slots < v.next + slots_for (length body))
Stages members v stream function body (Err (staging.NumbersSpent w)) =
    (w ≡ v) × (is_too_long v.version v.slots (length body) ≡ false)
    × (v.next + slots_for (length body) ≤ v.first + v.slots) × (2 ^ 63 < v.next + slots_for (length body))
Stages members v stream function body (Err (staging.Failed spent)) =
    HasStaged members v stream function body spent.disk Failed
    × LosesStage members v stream function body spent.disk

-- the gate of the next slot was opened
pub record HasSealed {D : Type 0} (members : disk.Ghosts D) (v : SpoolView D) (after : D) (answer : DiskAnswer) :
    Type 0 where
  pub images : HoldsThrough (members.told v.disk) (members.told after) (IsSameOr (sealed_in (next_slot v)))
  pub disk : HasSettled members v.disk after (slot_place (next_slot v)) (90 ∷ []) answer

abbrev pub Seals : {D : Type 0} → disk.Ghosts D → StagedView D → Result (SpoolView D) (Spent D) → Type 0
Seals members v (Ok w) =
    HasSealed members v.spool w.disk Done
    × (w ≡ in_hand w.disk (record (known_of v.spool) { next = v.spool.next + v.size; len = v.spool.len + 1 }))
    × ((s t : Story) → members.told v.spool.disk ≡ Some s → members.told w.disk ≡ Some t →
    Ends t (sealed_in (next_slot v.spool) s.now.bytes))
Seals members v (Err spent) =
    HasSealed members v.spool spent.disk Failed
    × (IsSure (members.health v.spool.disk) (members.health spent.disk) 2 1 →
    LeavesByGate (members.told v.spool.disk) (members.told spent.disk) opens (sealed_in (next_slot v.spool)))

-- the length of the oldest message was read, and the gate of its first slot was closed
pub record HasDropped {D : Type 0} (members : disk.Ghosts D) (v : SpoolView D) (after : D) (answer : DiskAnswer) :
    Type 0 where
  pub some : 0 < v.len
  pub images : HoldsThrough (members.told v.disk) (members.told after) (IsSameOr dropped_in)
  pub made : HasMade members v.disk after (drop_calls (slot_place (first_slot v))) answer

-- where the read was to fail, a crash leaves the file as it was; elsewhere the gate decides
pub record HasLostDrop {D : Type 0} (members : disk.Ghosts D) (v : SpoolView D) (after : D) : Type 0 where
  pub early : IsPlanned (members.health v.disk) 1 → HoldsThrough (members.told v.disk) (members.told after) IsSame
  pub late : IsSure (members.health v.disk) (members.health after) 3 1 → (IsPlanned (members.health v.disk) 1 → ⊥) →
      LeavesByGate (members.told v.disk) (members.told after) closes dropped_in

-- the oldest message takes so many slots; a disk that tells nothing can't leave less than one of each other message
pub record IsFirstSize {D : Type 0} (members : disk.Ghosts D) (v : SpoolView D) (size : ℕ) : Type 0 where
  pub some : 1 ≤ size
  pub is : (s : Story) → members.told v.disk ≡ Some s → (m : Message) →
      slice_get (file_in s.now.bytes).list 0 ≡ Some m → size ≡ width m
  pub within : v.first + size + (v.len - 1) ≤ v.next
  pub last : v.len ≡ 1 → v.first + size ≡ v.next

abbrev pub Drops : {D : Type 0} → disk.Ghosts D → SpoolView D → Result (SpoolView D) (Dropping D) → Type 0
Drops members v (Ok w) =
    HasDropped members v w.disk Done
    × ((size : ℕ) × IsFirstSize members v size
    × (w ≡ in_hand w.disk (record (known_of v) { first = v.first + size; len = v.len - 1 })))
    × ((s t : Story) → members.told v.disk ≡ Some s → members.told w.disk ≡ Some t → Ends t (dropped_in s.now.bytes))
Drops members v (Err (dropping.Empty w)) = (w ≡ v) × (v.len ≡ 0)
Drops members v (Err (dropping.Failed spent)) =
    HasDropped members v spent.disk Failed × HasLostDrop members v spent.disk

-- and by a size that is told
abbrev pub DropsSized : {D : Type 0} → disk.Ghosts D → SpoolView D → (size : ℕ) → Result (SpoolView D) (Dropping D) →
    Type 0
DropsSized members v size (Ok w) =
    HasDropped members v w.disk Done
    × (w ≡ in_hand w.disk (record (known_of v) { first = v.first + size; len = v.len - 1 }))
    × ((s t : Story) → members.told v.disk ≡ Some s → members.told w.disk ≡ Some t → Ends t (dropped_in s.now.bytes))
DropsSized members v size (Err (dropping.Empty w)) = (w ≡ v) × (v.len ≡ 0)
DropsSized members v size (Err (dropping.Failed spent)) =
    HasDropped members v spent.disk Failed × HasLostDrop members v spent.disk

-- so many bytes from a place on were read, and the rest is as it was
pub record HasSeen {D : Type 0} (members : disk.Ghosts D) (v w : SpoolView D) (at n : ℕ) (answer : DiskAnswer) :
    Type 0 where
  pub same : w ≡ in_hand w.disk (known_of v)
  pub told : members.told w.disk ≡ members.told v.disk
  pub made : HasMade members v.disk w.disk (read_call at n Done ∷ []) answer

-- one slot was
abbrev pub HasLooked : {D : Type 0} → disk.Ghosts D → (v w : SpoolView D) → (k : ℕ) → DiskAnswer → Type 0
HasLooked members v w k answer = HasSeen members v w (slot_place k) 4096 answer

-- the buffer has a slot's bytes
abbrev pub HasSlot : {D : Type 0} → disk.Ghosts D → SpoolView D → (k : ℕ) → List ℕ → Type 0
HasSlot members v k into =
    (s : Story) → members.told v.disk ≡ Some s → into ≡ bytes_at s.now.bytes (slot_place k) 4096

-- a head is that of a message of the list
pub record IsListed (s : Story) (head : SlotHead) : Type 0 where
  pub place : ℕ
  pub listed : slice_get (file_in s.now.bytes).list place
      ≡ Some (slot_message (slots_in s.now.bytes) (slot_in s.now.bytes) (head.number % slots_in s.now.bytes))
  pub head_is : head ≡ (slot_in s.now.bytes (head.number % slots_in s.now.bytes)).head

-- the first slot of a message was read, and this is its head
pub record IsFound {D : Type 0} (members : disk.Ghosts D) (v : SpoolView D) (number : ℕ) (into : List ℕ)
    (head : SlotHead) : Type 0 where
  pub slot : HasSlot members v (number % v.slots) into
  pub head_in : head ≡ head_of (bytes_at into 1 14)
  pub listed : (s : Story) → members.told v.disk ≡ Some s → (head.number ≡ number) × IsListed s head

-- no message of the list has this number
abbrev pub IsMissed : {D : Type 0} → disk.Ghosts D → SpoolView D → (number : ℕ) → Type 0
IsMissed members v number =
    (s : Story) → members.told v.disk ≡ Some s →
    All (λ m. m.number ≡ number → ⊥) (file_in s.now.bytes).list

-- the oldest message was looked for
abbrev pub LooksFirst : {D : Type 0} → disk.Ghosts D → SpoolView D → SpoolView D → List ℕ → List ℕ → OldestAnswer →
    Type 0
LooksFirst members v w before into (oldest.Found head) =
    HasLooked members v w (first_slot v) Done × (0 < v.len) × IsFound members v v.first into head
LooksFirst members v w before into oldest.Empty = (w ≡ v) × (into ≡ before) × (v.len ≡ 0)
LooksFirst members v w before into oldest.Failed = HasLooked members v w (first_slot v) Failed × (0 < v.len)

-- a number lies among those that the messages take
abbrev pub IsInReach : {D : Type 0} → SpoolView D → (number : ℕ) → Type 0
IsInReach v number = (v.first ≤ number) × (number < v.next)

-- the bytes of a slot are those of an open one with this number
abbrev pub HasHead : (number : ℕ) → List ℕ → Type 0
HasHead number into = (slice_index into 0 ≡ 90) × ((head_of (bytes_at into 1 14)).number ≡ number)

-- so there is a head, or there isn't
abbrev pub FoundIn : (number : ℕ) → List ℕ → Option SlotHead → Type 0
FoundIn number into (Some head) = (head ≡ head_of (bytes_at into 1 14)) × HasHead number into
FoundIn number into None = HasHead number into → ⊥

-- the message of a number was looked for: it is there exactly where its slot says so; a number in reach that no
-- message has is within one
abbrev pub Looks : {D : Type 0} → disk.Ghosts D → SpoolView D → SpoolView D → (number : ℕ) → List ℕ → List ℕ →
    OldestAnswer → Type 0
Looks members v w number before into (oldest.Found head) =
    HasLooked members v w (number % v.slots) Done × IsInReach v number × IsFound members v number into head
    × HasHead number into
Looks members v w number before into oldest.Empty =
    IsMissed members v number
    × (((w ≡ v) × (into ≡ before) × ((number < v.first) ⊎ (v.next ≤ number)))
    ⊎ (HasLooked members v w (number % v.slots) Done × IsInReach v number × HasSlot members v (number % v.slots) into
    × (HasHead number into → ⊥)))
Looks members v w number before into oldest.Failed =
    HasLooked members v w (number % v.slots) Failed × IsInReach v number

-- a further slot of a message was read
abbrev pub LooksOn : {D : Type 0} → disk.Ghosts D → SpoolView D → SpoolView D → (number : ℕ) → List ℕ → DiskAnswer →
    Type 0
LooksOn members v w number into Done =
    HasLooked members v w (number % v.slots) Done × HasSlot members v (number % v.slots) into
LooksOn members v w number into Failed = HasLooked members v w (number % v.slots) Failed

-- the gate of the version was made odd, and then the name was written
pub record HasUpgraded {D : Type 0} (members : disk.Ghosts D) (v : SpoolView D) (after : D) (answer : DiskAnswer) :
    Type 0 where
  pub images : HoldsThrough (members.told v.disk) (members.told after) (IsSameOr upgraded_in)
  pub made : HasMade members v.disk after upgrade_calls answer

-- where the gate's write or its sync was to fail, the gate decides; behind these the file has version 2
pub record HasLostUpgrade {D : Type 0} (members : disk.Ghosts D) (v : SpoolView D) (after : D) : Type 0 where
  pub early : IsSure (members.health v.disk) (members.health after) 4 2 → IsPlanned (members.health v.disk) 2 →
      LeavesByGate (members.told v.disk) (members.told after) names_second upgraded_in
  pub late : IsSure (members.health v.disk) (members.health after) 4 2 →
      (IsPlanned (members.health v.disk) 2 → ⊥) → Leaves (members.told v.disk) (members.told after) upgraded_in

abbrev pub Upgrades : {D : Type 0} → disk.Ghosts D → SpoolView D → Result (SpoolView D) (Spent D) → Type 0
Upgrades members v (Ok w) =
    HasUpgraded members v w.disk Done × (w ≡ in_hand w.disk (record (known_of v) { version = 2 }))
    × ((s t : Story) → members.told v.disk ≡ Some s → members.told w.disk ≡ Some t → Ends t (upgraded_in s.now.bytes))
Upgrades members v (Err spent) = HasUpgraded members v spent.disk Failed × HasLostUpgrade members v spent.disk

-- a value was prepared for the cell at a place, and then the cell's gate was written that names its copy, as far as
-- that went
pub record HasCommitted (s : Story) (at value : ℕ) (LeftOut : ℕ → ℕ → Type 0) (before after : Option (List DiskCall))
    (answer : DiskAnswer) : Type 0 where
  pub prepared : Option (List DiskCall)
  pub first : LogsPreparing s at value LeftOut before prepared Done
  pub last : LogsBoth (at + 16) (gate_byte (not (cell_in s.now.bytes at).second) ∷ [])
      (λ made n. LeftOut (3 + made) (8 + n)) prepared after answer

-- the calls that write another value of a cell
abbrev pub LogsValue : Story → ℕ → ℕ → (ℕ → ℕ → Type 0) → Option (List DiskCall) → Option (List DiskCall) →
    DiskAnswer → Type 0
LogsValue s at value LeftOut before after Done = HasCommitted s at value LeftOut before after Done
LogsValue s at value LeftOut before after Failed =
    LogsPreparing s at value LeftOut before after Failed ⊎ HasCommitted s at value LeftOut before after Failed

-- the bytes are settled, and the cell has this value, in the copy that didn't count before
abbrev pub HasValue : Story → ℕ → ℕ → Option Story → Type 0
HasValue s at value after =
    (t : Story) → after ≡ Some t →
    (t.now.loose ≡ []) × Holds s.now at (with_value value (cell_in s.now.bytes at)) t.now.bytes

-- another value was written in the cell at a place, which makes another file of the bytes, as far as that went
pub record HasMoved {D : Type 0} (members : disk.Ghosts D) (old new : D) (at value : ℕ) (moved : List ℕ → SpoolFile)
    (answer : DiskAnswer) : Type 0 where
  pub images : HoldsThrough (members.told old) (members.told new) (IsSameOr moved)
  pub size : members.size_is new ≡ members.size_is old
  pub calls : (s : Story) → members.told old ≡ Some s → LogsValue s at value
      (IsLeftOut (members.health old) (members.health new)) (members.calls old) (members.calls new) answer
  pub listed : GoesAsListed (members.health old) →
      AsListed (members.told old) (members.calls old) (members.told new) (members.calls new)
  pub cause : HasCause (members.health old) (members.health new) 5 9 ((members.health old).room < 9) answer
  pub same_disk : IsSameDisk members old new

-- where one of the three calls that prepare the value was to fail, a crash leaves the file as it was; elsewhere the
-- gate of the cell decides
pub record HasLostMove {D : Type 0} (members : disk.Ghosts D) (old new : D) (at : ℕ) (moved : List ℕ → SpoolFile) :
    Type 0 where
  pub early : IsPlanned (members.health old) 3 → HoldsThrough (members.told old) (members.told new) IsSame
  pub late : IsSure (members.health old) (members.health new) 5 9 → (IsPlanned (members.health old) 3 → ⊥) →
      (s t : Story) → members.told old ≡ Some s → members.told new ≡ Some t → (choice : CutChoice) →
      StandsFor (image_of choice t)
      (file_left (gate_counts choice (names_spare (cell_in s.now.bytes at))) (moved s.now.bytes) (file_in s.now.bytes))

-- it was all done, and this is the file; or it failed, and what a crash leaves goes by the call
abbrev pub Moves : {D : Type 0} → disk.Ghosts D → D → D → (at value : ℕ) → (List ℕ → SpoolFile) → DiskAnswer → Type 0
Moves members old new at value moved Done =
    HasMoved members old new at value moved Done
    × ((s t : Story) → members.told old ≡ Some s → members.told new ≡ Some t → Ends t (moved s.now.bytes))
Moves members old new at value moved Failed =
    HasMoved members old new at value moved Failed
    × HasLostMove members old new at moved

-- the mark was moved on
abbrev pub MovesMark : {D : Type 0} → disk.Ghosts D → SpoolView D → D → DiskAnswer → Type 0
MovesMark members v after answer =
    (v.mark + 4096 ≤ 2 ^ 32) × Moves members v.disk after mark_cell (v.mark + 4096) reserved_in answer

abbrev pub Reserves : {D : Type 0} → disk.Ghosts D → SpoolView D → Result (SpoolView D × ℕ) (Reserving D) → Type 0
Reserves members v (Ok r) =
    MovesMark members v r.0.disk Done × (r.1 ≡ v.mark)
    × (r.0 ≡ in_hand r.0.disk (record (known_of v) { mark = v.mark + 4096 }))
Reserves members v (Err (reserving.NumbersSpent w)) = (w ≡ v) × (2 ^ 32 < v.mark + 4096)
Reserves members v (Err (reserving.Failed spent)) = MovesMark members v spent.disk Failed

-- the floor was moved up to the next number
abbrev pub MovesFloor : {D : Type 0} → disk.Ghosts D → SpoolView D → D → DiskAnswer → Type 0
MovesFloor members v after answer =
    (0 < v.len) × Moves members v.disk after floor_cell v.next (cleared_in v.next) answer

-- a spool that was empty is as it was; of any other one all messages are gone at once, or that failed
abbrev pub Clears : {D : Type 0} → disk.Ghosts D → SpoolView D → Result (SpoolView D) (Spent D) → Type 0
Clears members v (Ok w) =
    ((v.len ≡ 0) × (v.first ≡ v.next) × (w ≡ v)
    × ((s : Story) → members.told v.disk ≡ Some s → (file_in s.now.bytes).list ≡ []))
    ⊎ (MovesFloor members v w.disk Done × (w ≡ in_hand w.disk (record (known_of v) { first = v.next; len = 0 })))
Clears members v (Err spent) = MovesFloor members v spent.disk Failed
