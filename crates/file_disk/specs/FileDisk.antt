-- What a real file counts as a disk (this profile).
use Rattle.std.specs.Prelude.{◌≡◌, ℕ, false, Result, Ok, Err}
use Rattle.disk_base.specs.Faults.{DiskHealth, Rose}
use Rattle.disk_base.specs.declared.disk.DiskAnswer.{DiskAnswer}
use Rattle.disk_base.specs.declared.disk.DiskAnswer.TheVariants.{Done, Failed}

-- no call is sure, and nothing is known of a write that failed
abbrev pub file_health : ℕ → DiskHealth
file_health faults = record {
  faults = faults;
  made = 0;
  bounds = (0, 0);
  calls = 0;
  room = 0;
  fail_in = 0;
  stop_in = 0;
  stopped = false;
  exact = false;
}

-- one fault was counted where a call failed, and none otherwise
abbrev pub Counts : ℕ → ℕ → DiskAnswer → Type 0
Counts before now Done = now ≡ before
Counts before now Failed = Rose before now

-- the disk fails where the system does
abbrev pub answer_of : {T E : Type 0} → Result T E → DiskAnswer
answer_of (Ok done) = Done
answer_of (Err error) = Failed
