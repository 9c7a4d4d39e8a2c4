-- What a call says of the device of a spool, also where that doesn't tell its bytes: it is handed back, and has
-- counted a fault where a call of it failed.
use Rattle.std.specs.Prelude.{◌≡◌, Result, Ok, Err}
use Rattle.disk_base.specs.Faults.{Rose}
use Rattle.disk_base.specs.SameDisk.{IsSameDisk}
use Rattle.disk_base.specs.declared.disk.Disk as disk
use Rattle.gem_spool.specs.declared.spool.GemSpool.{GemSpool}
use Rattle.spool_works.specs.declared.ended.Ended.{Ended}
use Rattle.spool_works.specs.declared.ended.Ended.TheVariants as ended

-- it is the same one, no call of which has failed
pub record IsKept {D : Type 0} (members : disk.Ghosts D) (old new : D) : Type 0 where
  pub same_disk : IsSameDisk members old new
  pub count : (members.health new).faults ≡ (members.health old).faults

-- or one call
pub record HasFailed {D : Type 0} (members : disk.Ghosts D) (old new : D) : Type 0 where
  pub same_disk : IsSameDisk members old new
  pub rose : Rose (members.health old).faults (members.health new).faults

-- where the equipment stops
abbrev pub IsEnded : {D : Type 0} → disk.Ghosts D → D → Ended D → Type 0
IsEnded members old (ended.NoMemory spent) = IsKept members old spent.disk
IsEnded members old (ended.DiskFailed spent) = HasFailed members old spent.disk
IsEnded members old (ended.NumbersSpent spent) = IsKept members old spent.disk

-- it goes on with it in its spool, or stops
abbrev pub HandsBack : {D : Type 0} → disk.Ghosts D → D → Result (GemSpool D) (Ended D) → Type 0
HandsBack members old (Ok g) = IsKept members old g.spool.disk
HandsBack members old (Err end) = IsEnded members old end
