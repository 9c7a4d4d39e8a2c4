-- What a disk told before a call and after it (this profile).
use Rattle.std.specs.Prelude.{ℕ, List, Option}
use Rattle.disk_base.specs.Calls.{DiskCall}
use Rattle.disk_base.specs.Faults.{DiskHealth}
use Rattle.disk_base.specs.Story.{Story}
use Rattle.disk_base.specs.declared.disk.Disk as disk

-- the bytes that a disk held, its list of calls, how many bytes it had, its faults and the calls that are to fail, and
-- the name of its file
pub record DiskTold : Type 0 where
  pub before : Option Story
  pub after : Option Story
  pub calls : Option (List DiskCall)
  pub calls_after : Option (List DiskCall)
  pub size : ℕ
  pub health : DiskHealth
  pub health_after : DiskHealth
  pub file : Option (List ℕ)
  pub file_after : Option (List ℕ)

abbrev pub disk_told : {D : Type 0} → disk.Ghosts D → D → D → DiskTold
disk_told members old new = record {
  before = members.told old;
  after = members.told new;
  calls = members.calls old;
  calls_after = members.calls new;
  size = members.size_is old;
  health = members.health old;
  health_after = members.health new;
  file = members.file_is old;
  file_after = members.file_is new;
}
