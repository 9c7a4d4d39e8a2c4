-- That the calls of the disk in a step are as many as the step asks for.
use Rattle.std.specs.Prelude.{◌≡◌, ℕ, length}
use Rattle.trace_log.specs.declared.commands.ToolCommand.{ToolCommand}
use Rattle.message_end.specs.Ends.{Input}
use Rattle.tool_step.specs.Disk.{asks, standing_in, works_of}
use Rattle.tool_step.specs.Equipment.{EquipmentView}
use Rattle.spool_file.specs.Logs.{written_by}
use Rattle.spool_works.specs.DiskCalls.{all_disk_calls}

-- they are as many, and write as many bytes, as a step asks of its disk
abbrev pub CallsAreCounted : Type 0
CallsAreCounted =
    (s : EquipmentView) (input : Input ToolCommand) (now : ℕ)
    → (length (all_disk_calls (standing_in s) (works_of s input now)) ≡ (asks s input now).calls)
    × (written_by (all_disk_calls (standing_in s) (works_of s input now)) ≡ (asks s input now).bytes)
