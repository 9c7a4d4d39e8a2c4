-- The equipment in a world, with its spool on a disk in memory.
use Rattle.std.specs.Prelude.{◌≡◌, ◌≢◌, ℕ, Bool, true, false, List, [], ◌∷◌, ◌++◌, length, Option, Some, None}
use Rattle.std.specs.Prelude.{OnOk, Result}
use Rattle.disk_base.specs.Cut.{image_of}
use Rattle.disk_base.specs.Calls.{DiskCall, written_of}
use Rattle.disk_base.specs.MemDisk.{DiskState, HasFitted, disk_health}
use Rattle.disk_base.specs.declared.disk.DiskAnswer.TheVariants.{Failed}
use Rattle.disk_base.specs.declared.cut.CutChoice.{CutChoice}
use Rattle.disk_base.specs.declared.disk.Disk as disk
use Rattle.message_flow.specs.declared.step.StepOut.{StepOut}
use Rattle.spool_file.specs.File.{SpoolFile, file_in}
use Rattle.spool_file.specs.Format.{empty_file}
use Rattle.spool_slots.specs.Spool.{SpoolView}
use Rattle.trace_log.specs.Log.{Happening}
use Rattle.message_end.specs.declared.end.Stop.{Stop}
use Rattle.message_end.specs.declared.end.Stop.TheVariants as stop
use Rattle.message_end.specs.Core.{Went}
use Rattle.message_end.specs.Ends.{Asked, IsNotStopped, Leaves, Reach, most_asked, none_asked, reach_behind}
use Rattle.message_end.specs.Ends.{room_behind}
use Rattle.equipment_tables.specs.declared.plan.EquipmentPlan.{EquipmentPlan}
use Rattle.spool_works.specs.declared.ended.Ended.{Ended}
use Rattle.spool_works.specs.declared.ended.Ended.TheVariants as ended
use Rattle.gem_recipes.specs.declared.no_recipes.NoRecipes.{NoRecipes}
use Rattle.gem_recipes.specs.contracts.no_recipes.NoRecipesRecipeKeeper.TheImpl.{ghosts as no_keepers}
use Rattle.equipment_node.specs.declared.equipment.Starting.{Starting}
use Rattle.equipment_node.specs.declared.equipment.Starting.TheVariants as starting
use Rattle.tool_step.specs.End.{machine, making}
use Rattle.tool_step.specs.Equipment.{EquipmentView, restarts, started_on, starts}
use Rattle.spool_works.specs.Found.{first_in}
use Rattle.tool_core.specs.Node.{node_of}
use Rattle.tool_law.specs.Sound.{AllCanBeSent}
use Rattle.equipment_node.specs.Held.{Held, IsIn, view_in}
use Rattle.equipment_node.specs.StartOver.{IsSureDisk}

-- no call of its disk is to fail
abbrev pub IsSure : SpoolView DiskState → Type 0
IsSure v = IsSureDisk (disk_health v.disk)

-- the list of its disk has the room of an end's
abbrev pub IsBounded : DiskState → Type 0
IsBounded disk = (disk.most ≡ most_asked.calls) × (disk.room ≡ most_asked.bytes)

-- so much was asked of a disk since its file was made, or power was lost
abbrev pub asked_of : DiskState → Asked
asked_of disk = record { calls = length disk.calls; bytes = written_of disk.calls }

-- an equipment starts over messages that can be sent, by a spool of version 2 that was just made and taken up
pub record Holds (v : SpoolView DiskState) : Type 0 where
  pub version : (file_in v.disk.story.now.bytes).version ≡ 2
  pub can : AllCanBeSent (file_in v.disk.story.now.bytes).list
  pub first : v.first ≡ first_in (file_in v.disk.story.now.bytes)
  pub sure : IsSure v
  pub bounded : IsBounded v.disk
  pub asked : asked_of v.disk ≡ making (file_in v.disk.story.now.bytes).slots

-- its state; without power, that of a start by its plan
abbrev pub state_in : disk.Ghosts DiskState → EquipmentPlan → Option (Held DiskState NoRecipes) → EquipmentView
state_in members plan None = (started_on plan (empty_file 0)).next
state_in members plan (Some h) = view_in members no_keepers h

-- ---- where its power may be lost

-- how far its disk goes; one without power makes no call, whatever is planned
abbrev pub disk_reach : DiskState → Reach
disk_reach disk = record {
  cut = disk.plan.stop_in;
  room = room_behind (record { calls = disk.most; bytes = disk.room }) (asked_of disk);
}

abbrev pub reach_in : Option (Held DiskState NoRecipes) → ℕ → Reach
reach_in None unmet = record { cut = unmet; room = none_asked }
reach_in (Some h) unmet = disk_reach h.spool.spool.disk

-- the same equipment, and its disk stops at this call
abbrev pub with_stop : ℕ → Held DiskState NoRecipes → Held DiskState NoRecipes
with_stop call h = record h {
  spool = record h.spool {
    spool = record h.spool.spool {
      disk = record h.spool.spool.disk { plan = record h.spool.spool.disk.plan { stop_in = call } };
    };
  };
}

-- what the bytes stand for that a disk is left with
abbrev pub file_cut : DiskState → CutChoice → SpoolFile
file_cut disk choice = file_in (image_of choice disk.story)

-- a start anew by a plan with what a lost disk is left with; where none is lost it finds what stands
abbrev pub anew_over :
    disk.Ghosts DiskState → EquipmentPlan → Option (Held DiskState NoRecipes) → Option DiskState → CutChoice → ℕ
    → Went EquipmentView Happening
anew_over members plan going None choice now = restarts (state_in members plan going) now
anew_over members plan going (Some lost) choice now = starts plan (file_cut lost choice)

-- whatever becomes of a lost disk, it is of version 2, and its messages can be sent
pub record IsLost (lost : DiskState) : Type 0 where
  pub version : (choice : CutChoice) → (file_cut lost choice).version ≡ 2
  pub can : (choice : CutChoice) → AllCanBeSent (file_cut lost choice).list
  pub bounded : IsBounded lost

-- it goes on by this plan: no call of its disk is to fail alone
pub record HasPower (members : disk.Ghosts DiskState) (plan : EquipmentPlan) (h : Held DiskState NoRecipes) : Type 0
  where
    pub in_state : IsIn members no_keepers h
    pub fails_not : h.spool.spool.disk.plan.fail_in ≡ 0
    pub going : h.spool.spool.disk.plan.stopped ≡ false
    pub bounded : IsBounded h.spool.spool.disk
    pub fitted : HasFitted h.spool.spool.disk
    pub plan_is : (node_of h.tool).own.plan ≡ plan

-- it has power, or a disk that was stopped, or neither, where it has ended otherwise
abbrev pub IsWhole :
    disk.Ghosts DiskState → EquipmentPlan → Option (Held DiskState NoRecipes) → Option DiskState → Type 0
IsWhole members plan (Some h) None = HasPower members plan h
IsWhole members plan (Some h) (Some lost) = ⊥
IsWhole members plan None None = Unit {0}
IsWhole members plan None (Some lost) = IsLost lost

-- the disk that a step has left, where a planned call has stopped it
abbrev pub lost_if : Bool → DiskState → Option DiskState
lost_if true disk = Some disk
lost_if false disk = None

abbrev pub lost_by : Ended DiskState → Option DiskState
lost_by (ended.DiskFailed spent) = lost_if spent.disk.plan.stopped spent.disk
lost_by (ended.NoMemory spent) = None
lost_by (ended.NumbersSpent spent) = None

-- why it stops where no planned call has stopped its disk: want of memory, or of room for a call; the latter only where
-- the call isn't the planned one, and none has failed that is listed
pub record IsCrowded (disk : DiskState) : Type 0 where
  pub waits_not : disk.plan.stop_in ≢ 1
  pub last : (front : List DiskCall) (call : DiskCall) → disk.calls ≡ front ++ call ∷ [] → call.answer ≢ Failed

abbrev pub StopsBy : DiskState → Stop → Type 0
StopsBy disk stop.NoMemory = Unit {0}
StopsBy disk stop.DiskFailed = IsCrowded disk
StopsBy disk stop.NumbersSpent = ⊥
StopsBy disk stop.Full = ⊥

abbrev pub StopsAs : Bool → DiskState → Stop → Type 0
StopsAs true disk why = why ≡ stop.DiskFailed
StopsAs false disk why = StopsBy disk why

abbrev pub IsStopOf : Ended DiskState → Stop → Type 0
IsStopOf (ended.NoMemory spent) why = why ≡ stop.NoMemory
IsStopOf (ended.NumbersSpent spent) why = why ≡ stop.NumbersSpent
IsStopOf (ended.DiskFailed spent) why = StopsAs spent.disk.plan.stopped spent.disk why

-- what its disk lists then has found room
abbrev pub FitsLeft : Ended DiskState → Type 0
FitsLeft (ended.DiskFailed spent) = HasFitted spent.disk
FitsLeft (ended.NumbersSpent spent) = HasFitted spent.disk
FitsLeft (ended.NoMemory spent) = Unit {0}

-- ---- a start anew

-- the disk that there is
abbrev pub disk_of : Option DiskState → Option (Held DiskState NoRecipes) → Option DiskState
disk_of (Some lost) going = Some lost
disk_of None (Some h) = Some h.spool.spool.disk
disk_of None None = None

-- a disk that was left so, and that nothing was asked of since
pub record IsStartable (disk : DiskState) : Type 0 where
  pub version : (file_in disk.story.now.bytes).version ≡ 2
  pub unasked : disk.calls ≡ []
  pub bounded : IsBounded disk
  pub can : AllCanBeSent (file_in disk.story.now.bytes).list
  pub sure : IsSureDisk (disk_health disk)

abbrev pub starts_over : EquipmentPlan → DiskState → Went EquipmentView Happening
starts_over plan disk = starts plan (file_in disk.story.now.bytes)

-- why it doesn't start: where the disk fails, or gives no spool, the list of its calls has no memory for them
abbrev pub stop_at_start : {D K : Type 0} → Starting D K → Stop
stop_at_start (starting.NoMemory spent keeper) = stop.NoMemory
stop_at_start (starting.NotSpool raw break keeper) = stop.NoMemory
stop_at_start (starting.DiskFailed spent keeper) = stop.NoMemory
stop_at_start (starting.NumbersSpent spent keeper) = stop.NumbersSpent

-- it comes to this, and goes on with a disk of which so much was asked as is counted for a start anew; or it has
-- stopped
pub record StartsAnew
    (members : disk.Ghosts DiskState) (plan : EquipmentPlan) (went : Went EquipmentView Happening)
    (going : Option (Held DiskState NoRecipes)) (unmet : ℕ) (out : StepOut) (result : Result (Unit {0}) Stop)
    : Type 0 where
  pub start : Leaves ([] ∷ []) false went (state_in members plan going) out result
  pub whole : IsNotStopped result
  pub reach : OnOk result (reach_in going unmet ≡ reach_behind (machine.anew_use (state_in members plan going)))
  pub sound : IsWhole members plan going None
