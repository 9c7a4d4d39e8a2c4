-- An end with one file on a disk in memory, as a value of the program, and what it goes on with.
use Rattle.std.specs.Prelude.{◌≡◌, ◌+◌, ◌*◌, ℕ, false, Option, None, length}
use Rattle.disk_base.specs.Calls.{written_of}
use Rattle.disk_base.specs.MemDisk.{DiskState, HasFitted}
use Rattle.line_end.specs.declared.event.Phase.TheVariants.{Idle}
use Rattle.message_end.specs.Core.{Went}
use Rattle.message_end.specs.Ends.{Asked, Machine, Reach, most_asked, room_behind}
use Rattle.spool_file.specs.File.{Ends, SpoolFile}
use Rattle.spool_file.specs.Reads.{look_back}
use Rattle.trace_log.specs.Log.{Happening}

-- the state and the disk of a value; the plan of a state, and what its file stands for; what it makes of a step; what a
-- start by a plan makes of a file; and what stands for one without power, of which nothing is said
pub record Form (N P S C : Type 0) : Type 0 where
  pub view : N → S
  pub disk : N → DiskState
  pub plan : S → P
  pub file : S → SpoolFile
  pub machine : Machine S C
  pub starts : P → SpoolFile → Went S Happening
  pub idle : P → S

-- ---- what is asked of its disk

-- what makes a new file of so many slots: one call writes its head, one each a gate, 32 the area, and the last syncs
abbrev pub making : ℕ → Asked
making slots = record { calls = slots + 34; bytes = slots + 528384 }

-- what takes up such a file: a sync, a read of its front, two of each slot, and one more of each of the last ones
abbrev pub taking_up : ℕ → Asked
taking_up slots = record { calls = 2 * slots + look_back slots + 2; bytes = 0 }

-- so much was asked of a disk since its file was made, or power was lost
abbrev pub asked_of : DiskState → Asked
asked_of disk = record { calls = length disk.calls; bytes = written_of disk.calls }

-- the list of its calls has the room of an end's
abbrev pub IsBounded : DiskState → Type 0
IsBounded disk = (disk.most ≡ most_asked.calls) × (disk.room ≡ most_asked.bytes)

-- how far it goes
abbrev pub disk_reach : DiskState → Reach
disk_reach disk = record {
  cut = disk.plan.stop_in;
  room = room_behind (record { calls = disk.most; bytes = disk.room }) (asked_of disk);
}

-- the same disk, which stops at this call
abbrev pub with_stop : ℕ → DiskState → DiskState
with_stop call disk = record disk { plan = record disk.plan { stop_in = call } }

-- ---- what it goes on with

module _ {N P S C : Type 0} (form : Form N P S C) where
  -- by this plan; no call of its disk is to fail alone, and what is listed of them has found room
  pub record HasPower (CanStep : N → Type 0) (plan : P) (h : N) : Type 0 where
    pub can_step : CanStep h
    pub fails_not : (form.disk h).plan.fail_in ≡ 0
    pub going : (form.disk h).plan.stopped ≡ false
    pub bounded : IsBounded (form.disk h)
    pub fitted : HasFitted (form.disk h)
    pub plan_is : form.plan (form.view h) ≡ plan

  -- whatever a crash leaves of its disk, it is the file of its state, and one that it may start over
  pub record Stands (MayHold : SpoolFile → Type 0) (h : N) : Type 0 where
    pub ends : Ends (form.disk h).story (form.file (form.view h))
    pub may : MayHold (form.file (form.view h))

  -- nothing is due of this state, and its line is at rest
  pub record IsAtRest (due : S → Option ℕ) (s : S) : Type 0 where
    pub phase : (form.machine.line s).phase ≡ Idle
    pub deadline : (form.machine.line s).deadline ≡ None
    pub due_is : due s ≡ None
