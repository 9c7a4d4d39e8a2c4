-- What showing a spool file comes to (this profile).
use Rattle.std.specs.Prelude.{◌≡◌, ◌≢◌, ◌⊎◌, ℕ, ◌%◌, ◌≤◌, List, [], ◌++◌, take, Option, Some, None, Result, Ok, Err}
use Rattle.std.specs.List.{slice_get}
use Rattle.std.specs.Option.{option_map}
use Rattle.hex.specs.Hex.{encode_upper}
use Rattle.disk_base.specs.Faults.{Rose}
use Rattle.disk_base.specs.SameDisk.{IsSameDisk}
use Rattle.disk_base.specs.Story.{Story, bytes_at, with_sync}
use Rattle.disk_base.specs.declared.disk.Disk as trait
use Rattle.gl_base.specs.Sending.{IsUnderWay, WroteShort, WroteText}
use Rattle.gl_base.specs.Told.{SinkTold}
use Rattle.spool_show.specs.Text.{file_text, message_line, message_lines}
use Rattle.spool_show.specs.Told.{DiskTold}
use Rattle.spool_show.specs.declared.spool_end.SpoolEnd.{SpoolEnd}
use Rattle.spool_show.specs.declared.spool_end.SpoolEnd.TheVariants.{Done, NotSpool, DiskFailed, WriteFailed}
use Rattle.spool_file.specs.File.{file_in, slots_in, spool_break}
use Rattle.spool_file.specs.Reading.{IsBreak}
use Rattle.spool_file.specs.Slot.{Message, areas_from, slot_in, slot_message, slot_place, width}
use Rattle.spool_file.specs.declared.reading.NotSpool.{NotSpool as Place}
use Rattle.spool_file.specs.declared.recovery.Known.{Known}
use Rattle.spool_file.specs.declared.slot.SlotHead.{SlotHead}
use Rattle.spool_slots.specs.Changes.{IsListed}
use Rattle.spool_slots.specs.Spool.{Rests, SpoolView, in_hand, known_of}
use Rattle.spool_slots.specs.declared.states.Recovering.{Recovering}
use Rattle.spool_slots.specs.declared.states.Recovering.TheVariants as recovering

-- a fault of the disk was counted where it failed, and none otherwise
abbrev pub IsCounted : ℕ → ℕ → SpoolEnd → Type 0
IsCounted before now DiskFailed = Rose before now
IsCounted before now _ = now ≡ before

-- how it ends where a device wasn't recovered
abbrev pub end_of_refusal : {D : Type 0} → Recovering D → SpoolEnd
end_of_refusal (recovering.NotSpool raw place) = NotSpool place
end_of_refusal (recovering.Failed spent) = DiskFailed

-- the device that a refusal holds
abbrev pub refused_disk : {D : Type 0} → Recovering D → D
refused_disk (recovering.NotSpool raw place) = raw.disk
refused_disk (recovering.Failed spent) = spent.disk

-- ---- the whole text

-- a text is what was to be written of the bytes that a disk tells, or its front
abbrev pub IsWhole : Option Story → (List ℕ → List ℕ) → List ℕ → Type 0
IsWhole told wanted text = (s : Story) → told ≡ Some s → text ≡ wanted s.now.bytes

abbrev pub IsFront : Option Story → (List ℕ → List ℕ) → List ℕ → Type 0
IsFront told wanted text = (s : Story) → told ≡ Some s → (rest : List ℕ) × (wanted s.now.bytes ≡ text ++ rest)

-- all that is to be written of a file
abbrev pub file_lines : List ℕ → List ℕ
file_lines bytes = file_text (file_in bytes)

-- what was written of a list in hand
abbrev pub ShowsList : Option Story → SinkTold → SpoolEnd → Type 0
ShowsList told out Done = (text : List ℕ) × WroteText out text × IsWhole told file_lines text
ShowsList told out DiskFailed = (text : List ℕ) × WroteText out text × IsFront told file_lines text
ShowsList told out WriteFailed = (text : List ℕ) × WroteShort out text × IsFront told file_lines text
ShowsList told out (NotSpool place) = ⊥

-- bytes that are told stand for a file
abbrev pub IsSound : Option Story → Type 0
IsSound told = (s : Story) → told ≡ Some s → spool_break s.now.bytes ≡ None

-- the first place at which they break is named
abbrev pub BreaksAt : Option Story → Place → Type 0
BreaksAt told place = (s : Story) → told ≡ Some s → IsBreak s.now.bytes (spool_break s.now.bytes) place

-- what was written of a spool file
abbrev pub TellsSpool : Option Story → SinkTold → SpoolEnd → Type 0
TellsSpool told out Done = IsSound told × ShowsList told out Done
TellsSpool told out WriteFailed = IsSound told × ShowsList told out WriteFailed
TellsSpool told out DiskFailed = ShowsList told out DiskFailed
TellsSpool told out (NotSpool place) = WroteText out [] × BreaksAt told place

-- a disk has its bytes as they were, or all of them settled
abbrev pub Keeps : Option Story → Option Story → Type 0
Keeps before after = (after ≡ before) ⊎ (after ≡ option_map with_sync before)

-- what was shown of the file that a disk has
pub record ShowsFile (disk : DiskTold) (out : SinkTold) (end : SpoolEnd) : Type 0 where
  pub written : TellsSpool disk.before out end
  pub kept : Keeps disk.before disk.after
  pub count : IsCounted disk.health.faults disk.health_after.faults end

-- a disk has the file of this name; where it failed, maybe the one still that it had before
abbrev pub HasFile : List ℕ → Option (List ℕ) → Option (List ℕ) → SpoolEnd → Type 0
HasFile name before after DiskFailed = (after ≡ before) ⊎ (after ≡ Some name)
HasFile name before after _ = after ≡ Some name

-- what was shown of the file of this name
pub record ShowsSpool (name : List ℕ) (disk : DiskTold) (out : SinkTold) (end : SpoolEnd) : Type 0 where
  pub file : HasFile name disk.file disk.file_after end
  pub shown : ShowsFile disk out end

-- ---- the lines of the messages

-- slots were read, and the spool is as it was
pub record HasShown {D : Type 0} (members : trait.Ghosts D) (v w : SpoolView D) (end : SpoolEnd) : Type 0 where
  pub same : w ≡ in_hand w.disk (known_of v)
  pub told : members.told w.disk ≡ members.told v.disk
  pub same_disk : IsSameDisk members v.disk w.disk
  pub count : IsCounted (members.health v.disk).faults (members.health w.disk).faults end

-- what is to be put of the bytes that are told was put behind what a page held; where that stopped, its front
abbrev pub Puts : Option Story → (List ℕ → List ℕ) → SinkTold → List ℕ → List ℕ → SpoolEnd → Type 0
Puts told wanted out old new Done =
    (text : List ℕ) × IsUnderWay out (old ++ text) new × IsWhole told wanted text
Puts told wanted out old new DiskFailed =
    (text : List ℕ) × IsUnderWay out (old ++ text) new × IsFront told wanted text
Puts told wanted out old new WriteFailed =
    (text : List ℕ) × WroteShort out (old ++ text) × IsFront told wanted text
Puts told wanted out old new (NotSpool place) = ⊥

-- a text was put behind what a page held
abbrev pub PutsText : List ℕ → SinkTold → List ℕ → List ℕ → SpoolEnd → Type 0
PutsText text out old new Done = IsUnderWay out (old ++ text) new
PutsText text out old new WriteFailed = WroteShort out old
PutsText text out old new _ = ⊥

-- the lines of all messages
abbrev pub list_lines : List ℕ → List ℕ
list_lines bytes = message_lines (file_in bytes).list

-- the message whose head is in the slot of a number, and its line
abbrev pub message_of : (number : ℕ) → List ℕ → Message
message_of number bytes = slot_message (slots_in bytes) (slot_in bytes) (number % slots_in bytes)

abbrev pub line_of : (number : ℕ) → List ℕ → List ℕ
line_of number bytes = message_line (message_of number bytes)

-- of a body that has so many bytes behind its first slot, those in the first ones of the further slots, from that of a
-- number on; and those in one of them
abbrev pub pieces_of : (left number more : ℕ) → List ℕ → List ℕ
pieces_of left number more bytes = encode_upper (take left (areas_from (slots_in bytes) (slot_in bytes) number more))

abbrev pub piece_of : (left number : ℕ) → List ℕ → List ℕ
piece_of left number bytes = encode_upper (take left (slot_in bytes (number % slots_in bytes)).area)

-- what is known of a spool in hand, where its disk tells its bytes
abbrev pub AreInHand : Option Story → Known → Type 0
AreInHand told known = (s : Story) → told ≡ Some s → Rests s known

-- a message of the list has this number
abbrev pub IsOfList : (number : ℕ) → List ℕ → Type 0
IsOfList number bytes =
    (m : Message) × (place : ℕ) × (slice_get (file_in bytes).list place ≡ Some m) × (m.number ≡ number)

-- the head and the first slot of a message of the list were read
abbrev pub AreRead : SlotHead → List ℕ → Story → Type 0
AreRead head slot s =
    IsListed s head × (slot ≡ bytes_at s.now.bytes (slot_place (head.number % slots_in s.now.bytes)) 4096)

-- how putting a message's line ended, which says how many numbers it takes
abbrev pub end_by : Result ℕ SpoolEnd → SpoolEnd
end_by (Ok size) = Done
end_by (Err end) = end

abbrev pub HasStopped : SpoolEnd → Type 0
HasStopped end = end ≢ Done

-- as many as it has slots, and at least one
abbrev pub IsSize : Option Story → (number size : ℕ) → Type 0
IsSize told number size =
    (1 ≤ size) × ((s : Story) → told ≡ Some s → size ≡ width (message_of number s.now.bytes))
