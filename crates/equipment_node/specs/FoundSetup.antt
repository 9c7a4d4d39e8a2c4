-- What a start finds of the setup, and why it finds none (this profile).
use Rattle.std.specs.Prelude.{◌≡◌, List, Option, Some, None, Result, Ok, Err}
use Rattle.disk_base.specs.Story.{Story}
use Rattle.disk_base.specs.Through.{EachImage}
use Rattle.disk_base.specs.declared.disk.Disk as disk
use Rattle.setup_store.specs.Entries.{Entry}
use Rattle.setup_store.specs.OnDisk.{HoldsKept}
use Rattle.spool_file.specs.File.{SpoolFile, StandsFor, file_in}
use Rattle.spool_slots.specs.Spool.{SpoolView, in_hand, known_of}
use Rattle.spool_works.specs.DiskCalls.{HasFailedIn, HasMade}
use Rattle.spool_works.specs.HandedBack.{IsKept}
use Rattle.tool_step.specs.Setup.{setup_in}
use Rattle.equipment_node.specs.HandedBack.{UnstartedBack}
use Rattle.equipment_node.specs.MadeReady.{HasBegun}
use Rattle.equipment_node.specs.StartOver.{KeepsSure}
use Rattle.equipment_node.specs.StartSetup.{setup_break, setup_looks}
use Rattle.equipment_node.specs.declared.equipment.Starting.{Starting}
use Rattle.equipment_node.specs.declared.equipment.Starting.TheVariants as starting

-- so it is of each file that the disk may tell
abbrev pub OfFile : {D : Type 0} → disk.Ghosts D → D → (SpoolFile → Type 0) → Type 0
OfFile members old P = (s : Story) → members.told old ≡ Some s → P (file_in s.now.bytes)

-- this setup was found, by the calls of its file, and all else is as it was; None where the file has no area
pub record HasFound {D : Type 0} (members : disk.Ghosts D) (v w : SpoolView D) (setup : Option (List Entry)) : Type 0
  where
    pub same : w ≡ in_hand w.disk (known_of v)
    pub told : members.told w.disk ≡ members.told v.disk
    pub is : OfFile members v.disk (λ file. setup ≡ setup_in file)
    pub sound : OfFile members v.disk (λ file. setup_break file ≡ None)
    pub made : OfFile members v.disk (λ file. HasMade members v.disk w.disk (setup_looks file))
    pub kept : IsKept members v.disk w.disk
    pub sure : KeepsSure members v.disk w.disk
    pub holds : HoldsKept members w

-- it breaks, behind all of its calls; or memory was wanting, or a call failed
abbrev pub LooksOnly : {D K : Type 0} → disk.Ghosts D → D → SpoolFile → Starting D K → Type 0
LooksOnly members old file (starting.NoMemory spent keeper) = HasBegun members old spent.disk (setup_looks file)
LooksOnly members old file (starting.NotSpool raw break keeper) =
    (setup_break file ≡ Some break) × HasMade members old raw.disk (setup_looks file)
LooksOnly members old file (starting.DiskFailed spent keeper) = HasFailedIn members old spent.disk (setup_looks file)
LooksOnly members old file (starting.NumbersSpent spent keeper) = ⊥

-- the device that comes back
abbrev pub device_of : {D K : Type 0} → Starting D K → D
device_of (starting.NoMemory spent keeper) = spent.disk
device_of (starting.NotSpool raw break keeper) = raw.disk
device_of (starting.DiskFailed spent keeper) = spent.disk
device_of (starting.NumbersSpent spent keeper) = spent.disk

pub record HasNotFound {D K : Type 0} (members : disk.Ghosts D) (v : SpoolView D) (why : Starting D K) : Type 0 where
  pub back : UnstartedBack members v.disk why
  pub told : members.told (device_of why) ≡ members.told v.disk
  pub looks : OfFile members v.disk (λ file. LooksOnly members v.disk file why)
  pub stands : (s : Story) → members.told v.disk ≡ Some s →
      EachImage (λ image. StandsFor image (file_in s.now.bytes)) s.now

abbrev pub FindsSetup :
    {D K : Type 0} → disk.Ghosts D → SpoolView D → Result (SpoolView D × Option (List Entry)) (Starting D K) → Type 0
FindsSetup members v (Ok found) = HasFound members v found.0 found.1
FindsSetup members v (Err why) = HasNotFound members v why
