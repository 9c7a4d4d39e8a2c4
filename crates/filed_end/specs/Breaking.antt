-- How a step of such an end comes out: what it has done, or where its disk has failed (this profile).
use Rattle.std.specs.Prelude.{◌≡◌, ◌⊎◌, ◌+◌, ℕ, true, List, [], ◌∷◌, ◌++◌, length, map, Some, Result, Ok, Err}
use Rattle.disk_base.specs.Calls.{DiskCall}
use Rattle.disk_base.specs.Cut.{image_of}
use Rattle.disk_base.specs.Faults.{IsLeftOut}
use Rattle.disk_base.specs.MemDisk.{DiskState, HasFitted}
use Rattle.disk_base.specs.Story.{Story}
use Rattle.disk_base.specs.declared.cut.CutChoice.{CutChoice}
use Rattle.disk_base.specs.declared.disk.Disk as disk
use Rattle.message_end.specs.declared.end.Stop.{Stop}
use Rattle.message_end.specs.declared.end.Stop.TheVariants as stop
use Rattle.message_end.specs.Ends.{HasGone, Input, Leaves, Loss, call_of, printed}
use Rattle.message_flow.specs.declared.step.Note.{Note}
use Rattle.message_flow.specs.declared.step.StepOut.{StepOut}
use Rattle.spool_file.specs.File.{SpoolFile, StandsFor}
use Rattle.spool_file.specs.Logs.{written_by}
use Rattle.spool_works.specs.Breaking.{IsGoingDisk, LeavesImages}
use Rattle.spool_works.specs.DiskCalls.{HasFailedIn, HasMade, failing, with_calls}
use Rattle.filed_end.specs.declared.ended.Ended.{Ended}
use Rattle.filed_end.specs.declared.ended.Ended.TheVariants as ended
use Rattle.filed_end.specs.Form.{Form}

-- what each of these losses says that its call writes, and what each of these calls writes
abbrev pub sizes_of : {S : Type 0} → List (Loss S) → List ℕ
sizes_of losses = map (λ loss. loss.bytes) losses

abbrev pub bytes_of : List DiskCall → List ℕ
bytes_of calls = map (λ call. length call.bytes) calls

-- all calls of these losses were made
pub record Passes {D S : Type 0} (members : disk.Ghosts D) (old : D) (losses : List (Loss S)) (new : D) : Type 0 where
  pub made : List DiskCall
  pub sized : bytes_of made ≡ sizes_of losses
  pub are : HasMade members old new made

-- a call failed: those before it were made, with what is noted by then; and it was left out behind them, or is listed
-- as one that has failed
pub record HasMissedAt {D S : Type 0}
    (members : disk.Ghosts D) (old new : D) (losses : List (Loss S)) (notes : List Note) : Type 0 where
  pub first : List (Loss S)
  pub loss : Loss S
  pub rest : List (Loss S)
  pub are : losses ≡ first ++ loss ∷ rest
  pub noted : notes ≡ printed loss.front
  pub made : List DiskCall
  pub sized : bytes_of made ≡ sizes_of first
  pub listed :
      (IsLeftOut (members.health old) (members.health new) (length made) (written_by made + loss.bytes)
      × (members.calls new ≡ with_calls made (members.calls old)))
      ⊎ ((last : DiskCall) × (members.calls new ≡ with_calls (made ++ failing last ∷ []) (members.calls old)))

-- why it has stopped
abbrev pub stop_by : {D : Type 0} → Ended D → Stop
stop_by ended.NoMemory = stop.NoMemory
stop_by (ended.DiskFailed disk) = stop.DiskFailed
stop_by (ended.NumbersSpent disk) = stop.NumbersSpent
stop_by (ended.Full disk) = stop.Full

module _ {N P S C : Type 0} (form : Form N P S C) where
  -- what is left has a file that it may start over, and the plan of before
  pub record IsLeftOver (MayHold : SpoolFile → Type 0) (was left : S) : Type 0 where
    pub may : MayHold (form.file left)
    pub plan_is : form.plan left ≡ form.plan was

  -- the call of this place was made, at which the disk stops, and a crash leaves what this loss says, with what is
  -- noted by then
  pub record HasBrokenAt (MayHold : SpoolFile → Type 0)
      (s : S) (losses : List (Loss S)) (call : ℕ) (after : Story) (notes : List Note) : Type 0 where
    pub loss : Loss S
    pub is : call_of call losses ≡ Some loss
    pub left : (choice : CutChoice) → StandsFor (image_of choice after) (form.file (loss.left choice))
    pub over : (choice : CutChoice) → IsLeftOver MayHold s (loss.left choice)
    pub noted : notes ≡ printed loss.front

  -- it goes on as is defined, by the same plan
  pub record HasMoved
      (CanStep : N → Type 0) (h : N) (input : Input C) (now : ℕ) (out : StepOut) (k : N) : Type 0 where
    pub gone : HasGone (form.machine.act (form.view h) input now) (form.view k) out
    pub can_step : CanStep k
    pub plan_is : form.plan (form.view k) ≡ form.plan (form.view h)
    pub fitted : HasFitted (form.disk k)

  -- or it ends early, with what was noted by then
  abbrev pub Moves :
      (N → Type 0) → N → Input C → ℕ → StepOut → Result N (Ended DiskState) → Type 0
  Moves CanStep h input now out (Ok k) = HasMoved CanStep h input now out k
  Moves CanStep h input now out (Err end) =
      Leaves (form.machine.stops (form.view h) input now) (form.machine.lacks_room (form.view h) input now)
      (form.machine.act (form.view h) input now) (form.view h) out (Err (stop_by end))

  -- a call of its disk has failed: a planned one, at which it stops, or one without room
  pub record HasFailed (members : disk.Ghosts DiskState) (MayHold : SpoolFile → Type 0)
      (h : N) (losses : List (Loss S)) (notes : List Note) (new : DiskState) : Type 0 where
    pub breaks :
        IsGoingDisk (members.health (form.disk h)) → LeavesImages new.story → new.plan.stopped ≡ true
        → HasBrokenAt MayHold (form.view h) losses (form.disk h).plan.stop_in new.story notes
    pub missed : HasMissedAt members (form.disk h) new losses notes
    pub calls : List DiskCall
    pub failed : HasFailedIn members (form.disk h) new calls

  -- its disk has made all calls of a step that goes on, or ends early for want of numbers or of room
  abbrev pub Breaks :
      disk.Ghosts DiskState → (SpoolFile → Type 0) → N → List (Loss S) → List Note → Result N (Ended DiskState) → Type 0
  Breaks members MayHold h losses notes (Ok k) = Passes members (form.disk h) losses (form.disk k)
  Breaks members MayHold h losses notes (Err ended.NoMemory) = Unit {0}
  Breaks members MayHold h losses notes (Err (ended.NumbersSpent disk)) = Passes members (form.disk h) losses disk
  Breaks members MayHold h losses notes (Err (ended.Full disk)) = Passes members (form.disk h) losses disk
  Breaks members MayHold h losses notes (Err (ended.DiskFailed disk)) = HasFailed members MayHold h losses notes disk
