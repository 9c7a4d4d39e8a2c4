-- What reading parts of a spool file comes to (this profile).
use Rattle.std.specs.Prelude.{◌≡◌, ◌⊎◌, ℕ, zero, suc, ◌+◌, ◌*◌, ◌^◌, ◌≤◌, ◌==◌, max, nat_lt, Bool, true, false}
use Rattle.std.specs.Prelude.{if◌then◌else◌, List, [], length, drop, slice_index, Option, Some, None}
use Rattle.std.specs.List.{slice_get}
use Rattle.disk_base.specs.Story.{Story, bytes_at}
use Rattle.disk_base.specs.declared.disk.DiskAnswer.{DiskAnswer}
use Rattle.disk_base.specs.declared.disk.DiskAnswer.TheVariants.{Done, Failed}
use Rattle.spool_file.specs.Area.{first_of, next_of}
use Rattle.spool_file.specs.Breaks.{area_break, fields_break}
use Rattle.spool_file.specs.File.{file_in, floor_in, frame_in, spool_break}
use Rattle.spool_file.specs.Front.{frame_of, front_break, front_in, mark_of}
use Rattle.spool_file.specs.Sizes.{slots_for}
use Rattle.spool_file.specs.Slot.{Slot, head_of, in_slot, slot_break, slot_in, slot_place, stands_on}
use Rattle.spool_file.specs.declared.front.Front.{Front}
use Rattle.spool_file.specs.declared.reading.NotSpool.{NotSpool}
use Rattle.spool_file.specs.declared.reading.Reading.{Reading}
use Rattle.spool_file.specs.declared.reading.Reading.TheVariants as reading
use Rattle.spool_file.specs.declared.recovery.Known.{Known}
use Rattle.spool_file.specs.declared.slot.Frame.{Frame}
use Rattle.spool_file.specs.declared.slot.SlotHead.{SlotHead}
use Rattle.spool_file.specs.declared.slots.Scan.{Scan}

-- whether the disk failed
abbrev pub reading_answer : {T : Type 0} → Reading T → DiskAnswer
reading_answer (reading.Whole value) = Done
reading_answer (reading.Broken break) = Done
reading_answer reading.Failed = Failed

-- a break is the first one, with the byte there
abbrev pub IsBreak : List ℕ → Option ℕ → NotSpool → Type 0
IsBreak bytes place break = (place ≡ Some break.at) × (break.got ≡ slice_get bytes break.at)

-- what the front's bytes say
abbrev pub FrontSays : List ℕ → ℕ → Reading Front → Type 0
FrontSays front size (reading.Whole found) =
    (front_break front size ≡ None) × (found.frame ≡ frame_of front) × (found.mark ≡ mark_of front)
FrontSays front size (reading.Broken break) =
    (bytes : List ℕ) → length bytes ≡ size → front ≡ front_in bytes → IsBreak bytes (front_break front size) break
FrontSays front size reading.Failed = ⊥

-- a frame's numbers are in their ranges
pub record IsFrame (frame : Frame) : Type 0 where
  pub version : (frame.version ≡ 1) ⊎ (frame.version ≡ 2)
  pub some : 1 ≤ frame.slots
  pub most : frame.slots ≤ 65535
  pub floor : frame.floor ≤ 2 ^ 63

-- those of a front that was read are, also over a disk that tells nothing
abbrev pub FrontFits : ℕ → Reading Front → Type 0
FrontFits size (reading.Whole found) =
    IsFrame found.frame × (slot_place found.frame.slots ≤ size) × (found.mark ≤ 2 ^ 32)
FrontFits size (reading.Broken break) = Unit {0}
FrontFits size reading.Failed = Unit {0}

-- the front of the bytes was read
abbrev pub FrontIs : Option Story → Reading Front → Type 0
FrontIs told (reading.Whole found) = (s : Story) → told ≡ Some s →
    (front_break (front_in s.now.bytes) (length s.now.bytes) ≡ None)
    × (found.frame ≡ frame_in s.now.bytes) × (found.mark ≡ mark_of (front_in s.now.bytes))
FrontIs told (reading.Broken break) = (s : Story) → told ≡ Some s →
    IsBreak s.now.bytes (front_break (front_in s.now.bytes) (length s.now.bytes)) break
FrontIs told reading.Failed = Unit {0}

-- the first fifteen bytes of a slot were read
abbrev pub StartIs : Option Story → ℕ → List ℕ → DiskAnswer → Type 0
StartIs told k start Done = (s : Story) → told ≡ Some s → start ≡ bytes_at s.now.bytes (slot_place k) 15
StartIs told k start Failed = Unit {0}

-- the slot that starts so, but for its area
abbrev pub slot_from : List ℕ → Slot
slot_from start = record { gate = slice_index start 0; head = head_of (drop 1 start); area = [] }

-- the least number with one more
abbrev pub least_with : ℕ → ℕ → ℕ → ℕ
least_with count least number = if count == 0 then number else (if nat_lt number least then number else least)

-- a slot counted if it stands
abbrev pub counted_if : Bool → Scan → SlotHead → Scan
counted_if true scan head = record {
  count = scan.count + 1;
  least = least_with scan.count scan.least head.number;
  greatest = max scan.greatest head.number;
  used = scan.used + slots_for head.len;
}
counted_if false scan head = scan

abbrev pub counted_in : ℕ → Scan → Slot → Scan
counted_in floor scan slot = counted_if (stands_on floor slot) scan slot.head

-- the first n slots counted
abbrev pub scan_of : ℕ → (ℕ → Slot) → ℕ → Scan
scan_of floor slot zero = record { count = 0; least = floor; greatest = 0; used = 0 }
scan_of floor slot (suc k) = counted_in floor (scan_of floor slot k) (slot k)

-- a slot's fields aren't broken, and it is counted if it stands
abbrev pub ScansOn : Frame → (k : ℕ) → Scan → Option Story → Reading Scan → Type 0
ScansOn frame k scan told (reading.Whole found) = (s : Story) → told ≡ Some s →
    (slot_break frame k (slot_in s.now.bytes k) ≡ None)
    × (found ≡ counted_in frame.floor scan (slot_in s.now.bytes k))
ScansOn frame k scan told (reading.Broken break) = (s : Story) → told ≡ Some s →
    IsBreak s.now.bytes (in_slot k (slot_break frame k (slot_in s.now.bytes k))) break
ScansOn frame k scan told reading.Failed = Unit {0}

-- no slot that stands has broken fields, and those that stand are counted
abbrev pub ScanIs : Frame → Option Story → Reading Scan → Type 0
ScanIs frame told (reading.Whole found) = (s : Story) → told ≡ Some s →
    (fields_break frame (slot_in s.now.bytes) ≡ None)
    × (found ≡ scan_of frame.floor (slot_in s.now.bytes) frame.slots)
ScanIs frame told (reading.Broken break) = (s : Story) → told ≡ Some s →
    IsBreak s.now.bytes (fields_break frame (slot_in s.now.bytes)) break
ScanIs frame told reading.Failed = Unit {0}

-- the most slots of a body in a file of a version
abbrev pub most_slots : ℕ → ℕ
most_slots version = if version == 1 then 1 else 257

-- what so many slots count to is in range, also over a disk that tells nothing
pub record HasRoom (version most : ℕ) (scan : Scan) : Type 0 where
  pub count : scan.count ≤ most
  pub least : scan.least ≤ 2 ^ 63
  pub greatest : scan.greatest ≤ 2 ^ 63
  pub some : scan.count ≤ scan.used
  pub used : scan.used ≤ most_slots version * scan.count

abbrev pub ScanFits : (version most : ℕ) → Reading Scan → Type 0
ScanFits version most (reading.Whole found) = HasRoom version most found
ScanFits version most (reading.Broken break) = Unit {0}
ScanFits version most reading.Failed = Unit {0}

-- a test of some slots, by the first n of the places where it is made
abbrev pub TestIs : ((ℕ → Slot) → Option ℕ) → Option Story → Reading (Unit {0}) → Type 0
TestIs test told (reading.Whole found) = (s : Story) → told ≡ Some s → test (slot_in s.now.bytes) ≡ None
TestIs test told (reading.Broken break) = (s : Story) → told ≡ Some s →
    IsBreak s.now.bytes (test (slot_in s.now.bytes)) break
TestIs test told reading.Failed = Unit {0}

-- the slots aren't broken, and those that stand are counted
abbrev pub AreaIs : Frame → Option Story → Reading Scan → Type 0
AreaIs frame told (reading.Whole found) = (s : Story) → told ≡ Some s →
    (area_break frame (slot_in s.now.bytes) ≡ None)
    × (found ≡ scan_of frame.floor (slot_in s.now.bytes) frame.slots)
AreaIs frame told (reading.Broken break) = (s : Story) → told ≡ Some s →
    IsBreak s.now.bytes (area_break frame (slot_in s.now.bytes)) break
AreaIs frame told reading.Failed = Unit {0}

-- each takes a slot at least, in version 1 one, and together they take no more than there are, also over a disk that
-- tells nothing
pub record AreAll (version slots : ℕ) (scan : Scan) : Type 0 where
  pub least : scan.least ≤ 2 ^ 63
  pub some : scan.count ≤ scan.used
  pub none : scan.count ≡ 0 → scan.used ≡ 0
  pub even : version ≡ 1 → scan.used ≡ scan.count
  pub used : scan.used ≤ slots

abbrev pub AreaFits : Frame → Reading Scan → Type 0
AreaFits frame (reading.Whole found) = AreAll frame.version frame.slots found
AreaFits frame (reading.Broken break) = Unit {0}
AreaFits frame reading.Failed = Unit {0}

-- the bytes aren't broken, and this is what they hold
abbrev pub KnownIs : List ℕ → Known → Type 0
KnownIs bytes found =
    (spool_break bytes ≡ None) × (found.version ≡ (file_in bytes).version) × (found.slots ≡ (file_in bytes).slots)
    × (found.mark ≡ (file_in bytes).mark.value)
    × (found.first ≡ first_of (floor_in bytes) (file_in bytes).list)
    × (found.next ≡ next_of (floor_in bytes) (file_in bytes).list)
    × (found.len ≡ length (file_in bytes).list)

-- a file was read whole
abbrev pub FileIs : Option Story → Reading Known → Type 0
FileIs told (reading.Whole found) = (s : Story) → told ≡ Some s → KnownIs s.now.bytes found
FileIs told (reading.Broken break) = (s : Story) → told ≡ Some s → IsBreak s.now.bytes (spool_break s.now.bytes) break
FileIs told reading.Failed = Unit {0}

-- what it holds is in range, also over a disk that tells nothing
pub record KnownFits (size : ℕ) (found : Known) : Type 0 where
  pub version : (found.version ≡ 1) ⊎ (found.version ≡ 2)
  pub some : 1 ≤ found.slots
  pub most : found.slots ≤ 65535
  pub fits : slot_place found.slots ≤ size
  pub mark : found.mark ≤ 2 ^ 32
  pub first : found.first ≤ 2 ^ 63
  pub from : found.first + found.len ≤ found.next
  pub none : found.len ≡ 0 → found.first ≡ found.next
  pub even : found.version ≡ 1 → found.next ≡ found.first + found.len
  pub room : found.next ≤ found.first + found.slots

abbrev pub FileFits : ℕ → Reading Known → Type 0
FileFits size (reading.Whole found) = KnownFits size found
FileFits size (reading.Broken break) = Unit {0}
FileFits size reading.Failed = Unit {0}
