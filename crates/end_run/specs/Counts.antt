-- The counts of faults of link, output and the end's disk, by how a run ended. Nothing else is said of a run whose end
-- isn't known.
use Rattle.std.specs.Prelude.{◌≡◌, ◌⊎◌, ℕ, Option, Some, None, Result, Ok, Err}
use Rattle.gl_base.specs.Faults.{Rose}
use Rattle.gl_base.specs.declared.link.Link as link
use Rattle.gl_base.specs.declared.sink.Sink as sink
use Rattle.message_end.specs.declared.end.Stop.{Stop}
use Rattle.message_end.specs.declared.end.Stop.TheVariants as stop
use Rattle.end_run.specs.declared.ending.Ending.{Ending}
use Rattle.end_run.specs.declared.ending.Ending.TheVariants.{Closed, DiskFailed, Full, LinkFailed, NoMemory, NumbersSpent, Stopped, Turns, WriteFailed}

-- ---- the end's disk

-- what an end tells of its disk, also where that doesn't tell its bytes: how many faults it has counted, and what no
-- call of a run changes
pub record Device (F : Type 0) : Type 0 where
  pub faults : ℕ
  pub fixed : F

-- of an end that has none
abbrev pub no_device : Device (Unit {0})
no_device = record { faults = 0; fixed = tt }

-- a call of it failed
pub record DeviceFails {F : Type 0} (before now : Device F) : Type 0 where
  pub rose : Rose before.faults now.faults
  pub fixed : now.fixed ≡ before.fixed

-- a step counts a fault where the disk has stopped it, and none otherwise
abbrev pub StepCounts : {F : Type 0} → Device F → Device F → Result (Unit {0}) Stop → Type 0
StepCounts before now (Ok done) = now ≡ before
StepCounts before now (Err stop.DiskFailed) = DeviceFails before now
StepCounts before now (Err stop.NumbersSpent) = now ≡ before
StepCounts before now (Err stop.Full) = now ≡ before
StepCounts before now (Err stop.NoMemory) = now ≡ before

-- ---- all three

-- how many faults they have counted
pub record Counted (F : Type 0) : Type 0 where
  pub link : ℕ
  pub out : ℕ
  pub disk : Device F

abbrev pub counted_by : {F : Type 0} → ℕ → ℕ → Device F → Counted F
counted_by link out disk = record { link = link; out = out; disk = disk }

abbrev pub counted : {L W F : Type 0} → link.Ghosts L → sink.Ghosts W → L → W → Device F → Counted F
counted links sinks link out disk = counted_by (links.health link).faults (sinks.health out).faults disk

-- no fault
abbrev pub CountsNone : {F : Type 0} → Counted F → Counted F → Type 0
CountsNone a b = (b.link ≡ a.link) × (b.out ≡ a.out) × (b.disk ≡ a.disk)

-- each ending has the fault that is its cause, and no other is counted; but that the output may fail too where the disk
-- has failed
abbrev pub Counts : {F : Type 0} → Counted F → Counted F → Option Ending → Type 0
Counts a b None = CountsNone a b
Counts a b (Some Stopped) = CountsNone a b
Counts a b (Some Closed) = CountsNone a b
Counts a b (Some Turns) = CountsNone a b
Counts a b (Some NumbersSpent) = CountsNone a b
Counts a b (Some Full) = CountsNone a b
Counts a b (Some DiskFailed) =
    (b.link ≡ a.link) × ((b.out ≡ a.out) ⊎ Rose a.out b.out) × DeviceFails a.disk b.disk
Counts a b (Some LinkFailed) = Rose a.link b.link × (b.out ≡ a.out) × (b.disk ≡ a.disk)
Counts a b (Some WriteFailed) = (b.link ≡ a.link) × Rose a.out b.out × (b.disk ≡ a.disk)
Counts a b (Some NoMemory) = CountsNone a b
