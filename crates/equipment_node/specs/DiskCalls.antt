-- Which calls of the disk the works of a step are, one by one, and which of them were made (this profile).
use Rattle.std.specs.Prelude.{ℕ, Result}
use Rattle.disk_base.specs.declared.disk.Disk as disk
use Rattle.trace_log.specs.declared.commands.ToolCommand.{ToolCommand}
use Rattle.message_end.specs.Ends.{Input}
use Rattle.spool_works.specs.declared.ended.Ended.{Ended}
use Rattle.tool_step.specs.Disk.{standing_in, works_of}
use Rattle.tool_step.specs.Equipment.{EquipmentView}
use Rattle.equipment_node.specs.Held.{Held}
use Rattle.equipment_node.specs.Stepping.{IsTold}
use Rattle.spool_works.specs.DiskCalls.{HasCalled}

abbrev pub disk_held : {D K : Type 0} → Held D K → D
disk_held h = h.spool.spool.disk

-- the disk's calls in a step are those of its works
abbrev pub CallsInStep :
    {D R : Type 0} → disk.Ghosts D → (R → D) → D → EquipmentView → Input ToolCommand → ℕ → Result R (Ended D) → Type 0
CallsInStep members disk_of old s input now result =
    IsTold (members.told old) → HasCalled members disk_of old (standing_in s) (works_of s input now) result
