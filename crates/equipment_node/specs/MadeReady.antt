-- A spool that a start makes ready: of version 2, with the sizes of its messages (this profile).
use Rattle.std.specs.Prelude.{◌≡◌, ◌⊎◌, ℕ, ◌==◌, if◌then◌else◌, List, [], ◌++◌, Some, Result, Ok, Err}
use Rattle.disk_base.specs.Calls.{DiskCall}
use Rattle.disk_base.specs.Story.{Story}
use Rattle.disk_base.specs.Through.{EachImage}
use Rattle.disk_base.specs.declared.disk.Disk as disk
use Rattle.gem_spool.specs.declared.spool.GemSpool.{GemSpool}
use Rattle.gem_spool.specs.Standing.{standing_of}
use Rattle.setup_store.specs.OnDisk.{HoldsKept}
use Rattle.spool_file.specs.File.{SpoolFile, StandsFor}
use Rattle.spool_slots.specs.Calls.{upgrade_calls}
use Rattle.spool_slots.specs.Changes.{Upgrades}
use Rattle.spool_slots.specs.Files.{upgraded}
use Rattle.spool_slots.specs.Spool.{SpoolView, known_of}
use Rattle.spool_slots.specs.declared.states.Spent.{Spent}
use Rattle.spool_works.specs.DiskCalls.{HasFailedIn, HasMade}
use Rattle.spool_works.specs.HandedBack.{IsKept}
use Rattle.equipment_node.specs.declared.equipment.Starting.{Starting}
use Rattle.equipment_node.specs.declared.equipment.Starting.TheVariants as starting
use Rattle.equipment_node.specs.HandedBack.{UnstartedBack}
use Rattle.equipment_node.specs.StartOver.{IsFresh, KeepsSure}
use Rattle.equipment_node.specs.StartSizes.{AreSizes, looks_in}

-- ---- the calls

-- a file of version 1 becomes one of version 2
abbrev pub upgrades : SpoolFile → List DiskCall
upgrades file = if file.version == 1 then upgrade_calls else []

-- its messages are looked at before
abbrev pub ready_calls : SpoolFile → List DiskCall
ready_calls file = looks_in file ++ upgrades file

-- of these calls some first ones were made and done, and no others
pub record HasBegun {D : Type 0} (members : disk.Ghosts D) (old new : D) (calls : List DiskCall) : Type 0 where
  pub first : List DiskCall
  pub rest : List DiskCall
  pub are : calls ≡ first ++ rest
  pub made : HasMade members old new first

-- it is one of version 2 already, or becomes one
abbrev pub UpgradesOnce : {D : Type 0} → disk.Ghosts D → SpoolView D → Result (SpoolView D) (Spent D) → Type 0
UpgradesOnce members v (Ok w) = ((v.version ≡ 2) × (w ≡ v)) ⊎ ((v.version ≡ 1) × Upgrades members v (Ok w))
UpgradesOnce members v (Err spent) = (v.version ≡ 1) × Upgrades members v (Err spent)

-- ---- what there is then

-- the file as it was, or of version 2
abbrev pub IsEither : SpoolFile → List ℕ → Type 0
IsEither file image = StandsFor image file ⊎ StandsFor image (upgraded file)

-- the spool stands so in version 2, and these are its sizes
pub record IsMadeReady {D : Type 0} (members : disk.Ghosts D) (v : SpoolView D) (g : GemSpool D) (sizes : List ℕ) :
    Type 0 where
  pub known : known_of g.spool ≡ record (known_of v) { version = 2 }
  pub sized : AreSizes members g.spool sizes
  pub holds : HoldsKept members v → HoldsKept members g.spool
  pub fresh : IsFresh members v → IsFresh members g.spool
  pub file : IsFresh members v → (standing_of members g.spool).file ≡ upgraded (standing_of members v).file
  pub made : IsFresh members v → HasMade members v.disk g.spool.disk (ready_calls (standing_of members v).file)
  pub kept : IsKept members v.disk g.spool.disk
  pub sure : KeepsSure members v.disk g.spool.disk

-- memory was wanting, or a call failed, of those of a file
abbrev pub IsUnready : {D K : Type 0} → disk.Ghosts D → D → SpoolFile → Starting D K → Type 0
IsUnready members old file (starting.NoMemory spent keeper) =
    HasBegun members old spent.disk (ready_calls file)
    × ((t : Story) → members.told spent.disk ≡ Some t → EachImage (IsEither file) t.now)
IsUnready members old file (starting.DiskFailed spent keeper) =
    HasFailedIn members old spent.disk (ready_calls file)
    × ((t : Story) → members.told spent.disk ≡ Some t → EachImage (IsEither file) t.now)
IsUnready members old file (starting.NumbersSpent spent keeper) = ⊥
IsUnready members old file (starting.NotSpool raw break keeper) = ⊥

abbrev pub MakesReady :
    {D K : Type 0} → disk.Ghosts D → SpoolView D → Result (GemSpool D × List ℕ) (Starting D K) → Type 0
MakesReady members v (Ok r) = IsMadeReady members v r.0 r.1
MakesReady members v (Err why) =
    UnstartedBack members v.disk why
    × (IsFresh members v → IsUnready members v.disk (standing_of members v).file why)
