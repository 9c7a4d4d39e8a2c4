-- What it leaves of a step where a planned call stops the disk, or where that has no room for a call (this profile).
use Rattle.std.specs.Prelude.{◌≡◌, ◌⊎◌, ◌+◌, ℕ, true, List, [], ◌∷◌, ◌++◌, Some, Result, Ok, Err, length, map}
use Rattle.disk_base.specs.Calls.{DiskCall}
use Rattle.disk_base.specs.Cut.{image_of}
use Rattle.disk_base.specs.Faults.{IsLeftOut}
use Rattle.disk_base.specs.Story.{Story}
use Rattle.disk_base.specs.declared.cut.CutChoice.{CutChoice}
use Rattle.disk_base.specs.declared.disk.Disk as disk
use Rattle.spool_file.specs.File.{StandsFor}
use Rattle.spool_file.specs.Logs.{written_by}
use Rattle.message_end.specs.Ends.{Loss, call_of, printed}
use Rattle.message_flow.specs.declared.step.Note.{Note}
use Rattle.spool_works.specs.declared.ended.Ended.{Ended}
use Rattle.spool_works.specs.declared.ended.Ended.TheVariants as ended
use Rattle.tool_step.specs.Equipment.{EquipmentView}
use Rattle.spool_works.specs.Breaking.{IsGoingDisk, LeavesImages}
use Rattle.spool_works.specs.DiskCalls.{HasMade, failing, with_calls}

-- the call of this place was made, at which the disk stops, and a crash leaves what this loss says, with what is noted
-- by then
pub record HasBrokenAt (losses : List (Loss EquipmentView)) (call : ℕ) (after : Story) (notes : List Note) : Type 0
  where
    pub loss : Loss EquipmentView
    pub is : call_of call losses ≡ Some loss
    pub left : (choice : CutChoice) → StandsFor (image_of choice after) (loss.left choice).file
    pub noted : notes ≡ printed loss.front

-- the disk fails where it was stopped, or for want of room. Where it was stopped, that was at the planned call
abbrev pub BreaksAt : {D : Type 0} → disk.Ghosts D → D → List (Loss EquipmentView) → D → List Note → Type 0
BreaksAt members old losses new notes =
    (t : Story) → members.told new ≡ Some t → LeavesImages t → (members.health new).stopped ≡ true
    → HasBrokenAt losses (members.health old).stop_in t notes

-- what each of these losses says that its call writes, and what each of these calls writes
abbrev pub sizes_of : List (Loss EquipmentView) → List ℕ
sizes_of losses = map (λ loss. loss.bytes) losses

abbrev pub bytes_of : List DiskCall → List ℕ
bytes_of calls = map (λ call. length call.bytes) calls

-- all calls of these losses were made
pub record Passes {D : Type 0} (members : disk.Ghosts D) (old : D) (losses : List (Loss EquipmentView)) (new : D)
    : Type 0 where
  pub made : List DiskCall
  pub sized : bytes_of made ≡ sizes_of losses
  pub are : HasMade members old new made

-- a call failed: those before it were made, with what is noted by then; and it was left out behind them, or is listed
-- as one that has failed
pub record HasMissedAt {D : Type 0}
    (members : disk.Ghosts D) (old new : D) (losses : List (Loss EquipmentView)) (notes : List Note) : Type 0 where
  pub first : List (Loss EquipmentView)
  pub loss : Loss EquipmentView
  pub rest : List (Loss EquipmentView)
  pub are : losses ≡ first ++ loss ∷ rest
  pub noted : notes ≡ printed loss.front
  pub made : List DiskCall
  pub sized : bytes_of made ≡ sizes_of first
  pub listed :
      (IsLeftOut (members.health old) (members.health new) (length made) (written_by made + loss.bytes)
      × (members.calls new ≡ with_calls made (members.calls old)))
      ⊎ ((last : DiskCall) × (members.calls new ≡ with_calls (made ++ failing last ∷ []) (members.calls old)))

-- or they were made up to the planned one; these are the notes then
abbrev pub BreaksBy :
    {D R : Type 0} → disk.Ghosts D → (R → D) → D → List (Loss EquipmentView) → List Note → Result R (Ended D) → Type 0
BreaksBy members disk_of old losses notes (Ok r) = Passes members old losses (disk_of r)
BreaksBy members disk_of old losses notes (Err (ended.NumbersSpent spent)) = Passes members old losses spent.disk
BreaksBy members disk_of old losses notes (Err (ended.DiskFailed spent)) =
    (IsGoingDisk (members.health old) → BreaksAt members old losses spent.disk notes)
    × HasMissedAt members old spent.disk losses notes
BreaksBy members disk_of old losses notes (Err (ended.NoMemory spent)) = Unit {0}
