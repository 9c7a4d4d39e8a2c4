-- The disk of a world's spool, as it is made (this profile).
use Rattle.std.specs.Prelude.{◌≡◌, ℕ, false}
use Rattle.disk_base.specs.MemDisk.{DiskState, disk_health}
use Rattle.equipment_node.specs.InMemory.{IsBounded, asked_of}
use Rattle.spool_file.specs.File.{file_in}
use Rattle.spool_file.specs.Format.{empty_file}
use Rattle.spool_slots.specs.Spool.{SpoolView}
use Rattle.tool_step.specs.End.{making}

-- it holds a new file of version 2, no call of it is to fail, and it has the room of an end's, of which its making has
-- used some
pub record IsEmptySpool (slots : ℕ) (spool : SpoolView DiskState) : Type 0 where
  pub first : spool.first ≡ 0
  pub file : file_in spool.disk.story.now.bytes ≡ empty_file slots
  pub fails_not : (disk_health spool.disk).fail_in ≡ 0
  pub stops_not : (disk_health spool.disk).stop_in ≡ 0
  pub going : (disk_health spool.disk).stopped ≡ false
  pub bounded : IsBounded spool.disk
  pub asked : asked_of spool.disk ≡ making slots
