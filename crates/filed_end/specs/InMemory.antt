-- Such an end in a world: it has power, or has stopped, and starts anew with what is left of its disk.
use Rattle.std.specs.Prelude.{◌≡◌, ◌≢◌, ℕ, Bool, true, false, List, [], ◌∷◌, ◌++◌, Option, Some, None, OnOk, Result}
use Rattle.disk_base.specs.Calls.{DiskCall}
use Rattle.disk_base.specs.Cut.{image_of}
use Rattle.disk_base.specs.Faults.{DiskHealth}
use Rattle.disk_base.specs.MemDisk.{DiskState, HasFitted, disk_health}
use Rattle.disk_base.specs.declared.cut.CutChoice.{CutChoice}
use Rattle.disk_base.specs.declared.disk.DiskAnswer.TheVariants.{Failed}
use Rattle.message_end.specs.declared.end.Stop.{Stop}
use Rattle.message_end.specs.declared.end.Stop.TheVariants as stop
use Rattle.message_end.specs.Core.{Went}
use Rattle.message_end.specs.Ends.{IsNotStopped, Leaves, Reach, none_asked, reach_behind}
use Rattle.message_flow.specs.declared.step.StepOut.{StepOut}
use Rattle.spool_file.specs.File.{SpoolFile, file_in}
use Rattle.spool_slots.specs.Spool.{SpoolView}
use Rattle.spool_works.specs.Found.{first_in}
use Rattle.trace_log.specs.Log.{Happening}
use Rattle.filed_end.specs.declared.ended.Ended.{Ended}
use Rattle.filed_end.specs.declared.ended.Ended.TheVariants as ended
use Rattle.filed_end.specs.Form.{Form, HasPower, IsBounded, asked_of, disk_reach, making}

-- no call of a disk is to fail
pub record IsSure (health : DiskHealth) : Type 0 where
  pub fails_not : health.fail_in ≡ 0
  pub stops_not : health.stop_in ≡ 0
  pub going : health.stopped ≡ false

-- what a disk tells stands for this
abbrev pub file_on : DiskState → SpoolFile
file_on disk = file_in disk.story.now.bytes

-- and this, where it is cut
abbrev pub file_cut : DiskState → CutChoice → SpoolFile
file_cut disk choice = file_in (image_of choice disk.story)

-- it first starts over a file that it may hold and that was just made and taken up
pub record Holds (MayHold : SpoolFile → Type 0) (v : SpoolView DiskState) : Type 0 where
  pub may : MayHold (file_on v.disk)
  pub first : v.first ≡ first_in (file_on v.disk)
  pub sure : IsSure (disk_health v.disk)
  pub bounded : IsBounded v.disk
  pub asked : asked_of v.disk ≡ making (file_on v.disk).slots

-- a disk that was left so, and that nothing was asked of since
pub record IsStartable (MayHold : SpoolFile → Type 0) (disk : DiskState) : Type 0 where
  pub may : MayHold (file_on disk)
  pub unasked : disk.calls ≡ []
  pub bounded : IsBounded disk
  pub sure : IsSure (disk_health disk)

-- whatever becomes of a lost disk, it is of a file that the end may start over
pub record IsLost (MayHold : SpoolFile → Type 0) (lost : DiskState) : Type 0 where
  pub may : (choice : CutChoice) → MayHold (file_cut lost choice)
  pub bounded : IsBounded lost

-- ---- the disk that a step has left

-- where a planned call has stopped it
abbrev pub lost_if : Bool → DiskState → Option DiskState
lost_if true disk = Some disk
lost_if false disk = None

abbrev pub lost_by : Ended DiskState → Option DiskState
lost_by ended.NoMemory = None
lost_by (ended.DiskFailed disk) = lost_if disk.plan.stopped disk
lost_by (ended.NumbersSpent disk) = None
lost_by (ended.Full disk) = None

-- why it stops where no planned call has stopped its disk: want of memory, or of room for a call; the latter only where
-- the call isn't the planned one, and none has failed that is listed
pub record IsCrowded (disk : DiskState) : Type 0 where
  pub waits_not : disk.plan.stop_in ≢ 1
  pub last : (front : List DiskCall) (call : DiskCall) → disk.calls ≡ front ++ call ∷ [] → call.answer ≢ Failed

abbrev pub StopsBy : DiskState → Stop → Type 0
StopsBy disk stop.NoMemory = Unit {0}
StopsBy disk stop.DiskFailed = IsCrowded disk
StopsBy disk stop.NumbersSpent = ⊥
StopsBy disk stop.Full = ⊥

abbrev pub StopsAs : Bool → DiskState → Stop → Type 0
StopsAs true disk why = why ≡ stop.DiskFailed
StopsAs false disk why = StopsBy disk why

abbrev pub IsStopOf : Ended DiskState → Stop → Type 0
IsStopOf ended.NoMemory why = why ≡ stop.NoMemory
IsStopOf (ended.DiskFailed disk) why = StopsAs disk.plan.stopped disk why
IsStopOf (ended.NumbersSpent disk) why = why ≡ stop.NumbersSpent
IsStopOf (ended.Full disk) why = why ≡ stop.Full

-- what its disk lists then has found room
abbrev pub FitsLeft : Ended DiskState → Type 0
FitsLeft ended.NoMemory = Unit {0}
FitsLeft (ended.DiskFailed disk) = HasFitted disk
FitsLeft (ended.NumbersSpent disk) = HasFitted disk
FitsLeft (ended.Full disk) = HasFitted disk

-- ---- with power or without

module _ {N P S C : Type 0} (form : Form N P S C) where
  -- its state; without power that of one at rest
  abbrev pub state_in : P → Option N → S
  state_in plan None = form.idle plan
  state_in plan (Some h) = form.view h

  -- how far its disk goes; one without power makes no call, whatever is planned
  abbrev pub reach_in : Option N → ℕ → Reach
  reach_in None unmet = record { cut = unmet; room = none_asked }
  reach_in (Some h) unmet = disk_reach (form.disk h)

  -- a start anew by its plan with what a lost disk is left with; where none is lost it finds what stands
  abbrev pub anew_over : P → Option N → Option DiskState → CutChoice → ℕ → Went S Happening
  anew_over plan going None choice now = form.machine.restart (state_in plan going) now
  anew_over plan going (Some lost) choice now = form.starts plan (file_cut lost choice)

  -- it has power, or a disk that was stopped, or neither, where it has ended otherwise
  abbrev pub IsWhole : (N → Type 0) → (SpoolFile → Type 0) → P → Option N → Option DiskState → Type 0
  IsWhole CanStep MayHold plan (Some h) None = HasPower form CanStep plan h
  IsWhole CanStep MayHold plan (Some h) (Some lost) = ⊥
  IsWhole CanStep MayHold plan None None = Unit {0}
  IsWhole CanStep MayHold plan None (Some lost) = IsLost MayHold lost

  -- the disk that there is
  abbrev pub disk_of : Option DiskState → Option N → Option DiskState
  disk_of (Some lost) going = Some lost
  disk_of None (Some h) = Some (form.disk h)
  disk_of None None = None

  abbrev pub starts_over : P → DiskState → Went S Happening
  starts_over plan disk = form.starts plan (file_on disk)

  -- a start comes to this, and goes on with a disk of which so much was asked as is counted for a start anew; or it has
  -- stopped
  pub record StartsAnew
      (CanStep : N → Type 0) (MayHold : SpoolFile → Type 0) (plan : P) (went : Went S Happening) (going : Option N)
      (unmet : ℕ) (out : StepOut) (result : Result (Unit {0}) Stop) : Type 0 where
    pub start : Leaves form.machine.start_stops false went (state_in plan going) out result
    pub whole : IsNotStopped result
    pub reach : OnOk result (reach_in going unmet ≡ reach_behind (form.machine.anew_use (state_in plan going)))
    pub sound : IsWhole CanStep MayHold plan going None
