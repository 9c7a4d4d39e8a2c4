-- How many slots each message of a spool takes, as a start reads it off the device (this profile).
use Rattle.std.specs.Prelude.{◌≡◌, ℕ, ◌+◌, ◌-◌, ◌%◌, ◌==◌, ◌<◌, ◌≤◌, All, if◌then◌else◌, List, [], ◌∷◌, ◌++◌, length}
use Rattle.std.specs.Prelude.{map}
use Rattle.std.specs.Prelude.{max, min, sum, Option, None, Some, Result, Ok, Err}
use Rattle.std.specs.List.{slice_get}
use Rattle.disk_base.specs.Calls.{DiskCall, read_call}
use Rattle.disk_base.specs.Story.{Story}
use Rattle.disk_base.specs.declared.disk.Disk as disk
use Rattle.disk_base.specs.declared.disk.DiskAnswer.TheVariants.{Done, Failed}
use Rattle.spool_file.specs.File.{SpoolFile, file_in}
use Rattle.spool_file.specs.Slot.{Message, width}
use Rattle.spool_ledger.specs.Ledger.{IsSome}
use Rattle.spool_slots.specs.Calls.{number_place}
use Rattle.spool_slots.specs.Changes.{HasLooked}
use Rattle.spool_slots.specs.Spool.{SpoolView, in_hand, known_of}
use Rattle.spool_works.specs.DiskCalls.{HasFailedIn, HasMade}
use Rattle.spool_works.specs.Found.{first_in}
use Rattle.spool_works.specs.HandedBack.{HasFailed, IsKept}
use Rattle.equipment_node.specs.Amid.{HasSizes}
use Rattle.equipment_node.specs.declared.sizes.Unsized.{Unsized}
use Rattle.equipment_node.specs.declared.sizes.Unsized.TheVariants as unsized

-- ---- the looks

-- one at the first slot of each message, where these are their sizes, the first of which begins at a number
abbrev pub size_looks : (slots number : ℕ) → List ℕ → List DiskCall
size_looks slots number [] = []
size_looks slots number (size ∷ sizes) =
    read_call (number_place slots number) 4096 Done ∷ size_looks slots (number + size) sizes

-- those over a file
abbrev pub looks_in : SpoolFile → List DiskCall
looks_in file = size_looks file.slots (first_in file) (map width file.list)

-- ---- a size

-- what a message takes that says this, where so many slots are used from it on, and so many messages stand behind it:
-- each takes one at least, and the last one all that are left
abbrev pub size_said : Option ℕ → ℕ
size_said None = 1
size_said (Some size) = max size 1

abbrev pub held_size : Option ℕ → (left behind : ℕ) → ℕ
held_size said left behind = if behind == 0 then left else min (size_said said) (left - behind)

-- the message of a number was looked at, and takes so many slots, as the list says where the disk tells it
pub record HasReadSize {D : Type 0} (members : disk.Ghosts D) (v w : SpoolView D) (number left behind size : ℕ) : Type 0
  where
    pub looked : HasLooked members v w (number % v.slots) Done
    pub some : 1 ≤ size
    pub short : size ≤ 65535
    pub room : size + behind ≤ left
    pub last : behind ≡ 0 → size ≡ left
    pub said : (s : Story) → members.told v.disk ≡ Some s → (place : ℕ) (m : Message) →
        slice_get (file_in s.now.bytes).list place ≡ Some m → m.number ≡ number → width m + behind ≤ left →
        (behind ≡ 0 → width m ≡ left) → size ≡ width m

abbrev pub ReadsSize :
    {D : Type 0} → disk.Ghosts D → SpoolView D → SpoolView D → (number left behind : ℕ) → Option ℕ → Type 0
ReadsSize members v w number left behind (Some size) = HasReadSize members v w number left behind size
ReadsSize members v w number left behind None = HasLooked members v w (number % v.slots) Failed

-- ---- all of them

-- each message takes a slot at least, and together they take those that are used
pub record AreSizes {D : Type 0} (members : disk.Ghosts D) (v : SpoolView D) (sizes : List ℕ) : Type 0 where
  pub each : All IsSome sizes
  pub many : length sizes ≡ v.len
  pub used : v.first + sum sizes ≡ v.next
  pub are : HasSizes members v sizes

-- these are the first ones of them
abbrev pub AreFirst : {D : Type 0} → disk.Ghosts D → SpoolView D → List ℕ → Type 0
AreFirst members v sizes =
    (s : Story) → members.told v.disk ≡ Some s →
    (rest : List ℕ) × (map width (file_in s.now.bytes).list ≡ sizes ++ rest)

-- the messages of these sizes were looked at, and all is as it was
pub record HasRead {D : Type 0} (members : disk.Ghosts D) (v w : SpoolView D) (sizes : List ℕ) : Type 0 where
  pub same : w ≡ in_hand w.disk (known_of v)
  pub told : members.told w.disk ≡ members.told v.disk
  pub made : HasMade members v.disk w.disk (size_looks v.slots v.first sizes)
  pub kept : IsKept members v.disk w.disk

-- so some first ones were, and the look behind them failed
pub record HasMissed {D : Type 0} (members : disk.Ghosts D) (v w : SpoolView D) (sizes : List ℕ) : Type 0 where
  pub few : length sizes < v.len
  pub first : AreFirst members v sizes
  pub told : members.told w.disk ≡ members.told v.disk
  pub failed : HasFailedIn members v.disk w.disk (size_looks v.slots v.first (sizes ++ 1 ∷ []))
  pub faulted : HasFailed members v.disk w.disk

abbrev pub ReadsSizes :
    {D : Type 0} → disk.Ghosts D → SpoolView D → SpoolView D → Result (List ℕ) Unsized → Type 0
ReadsSizes members v w (Ok sizes) = HasRead members v w sizes × AreSizes members v sizes
ReadsSizes members v w (Err unsized.Failed) = (sizes : List ℕ) × HasMissed members v w sizes
ReadsSizes members v w (Err unsized.NoMemory) =
    (sizes : List ℕ) × AreFirst members v sizes × HasRead members v w sizes
