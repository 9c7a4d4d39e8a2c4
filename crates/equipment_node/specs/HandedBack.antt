-- What a call of the code says of the device of its spool, also where that doesn't tell its bytes: it is handed back,
-- and has counted a fault where a call of it failed.
use Rattle.std.specs.Prelude.{Result, Ok, Err}
use Rattle.disk_base.specs.declared.disk.Disk as disk
use Rattle.spool_works.specs.declared.ended.Ended.{Ended}
use Rattle.equipment_node.specs.declared.equipment.Starting.{Starting}
use Rattle.equipment_node.specs.declared.equipment.Starting.TheVariants as starting
use Rattle.equipment_node.specs.Amid.{Worked, disk_worked}
use Rattle.equipment_node.specs.Held.{Held}
use Rattle.spool_works.specs.HandedBack.{IsKept, HasFailed, IsEnded}

-- of a step up to its last parts
abbrev pub WorksHandBack : {D : Type 0} → disk.Ghosts D → D → Result (Worked D) (Ended D) → Type 0
WorksHandBack members old (Ok worked) = IsKept members old (disk_worked worked)
WorksHandBack members old (Err end) = IsEnded members old end

-- of a start that came to nothing
abbrev pub UnstartedBack : {D K : Type 0} → disk.Ghosts D → D → Starting D K → Type 0
UnstartedBack members old (starting.NoMemory spent keeper) = IsKept members old spent.disk
UnstartedBack members old (starting.NotSpool raw break keeper) = IsKept members old raw.disk
UnstartedBack members old (starting.DiskFailed spent keeper) = HasFailed members old spent.disk
UnstartedBack members old (starting.NumbersSpent spent keeper) = IsKept members old spent.disk

-- and of a start
abbrev pub StartHandsBack : {D K : Type 0} → disk.Ghosts D → D → Result (Held D K) (Starting D K) → Type 0
StartHandsBack members old (Ok h) = IsKept members old h.spool.spool.disk
StartHandsBack members old (Err why) = UnstartedBack members old why
