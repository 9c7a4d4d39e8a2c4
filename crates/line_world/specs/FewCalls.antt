-- That the disk of the tool's spool finds no room for a call, or for its bytes, only behind many since a start (this
-- profile).
use Rattle.std.specs.Prelude.{◌≡◌, ◌⊎◌, ◌<◌, ◌≤◌, length}
use Rattle.end_pair.specs.TurnCauses.{FindsNoRoom}
use Rattle.end_pair.specs.World.{World}
use Rattle.message_end.specs.Ends.{Asked, Input, asked_both, most_asked, room_behind}
use Rattle.tool_step.specs.Disk.{asks}
use Rattle.tool_step.specs.End.{machine}
use Rattle.tool_step.specs.Equipment.{EquipmentView}
use Rattle.trace_log.specs.declared.commands.ToolCommand.{ToolCommand}

-- how much was asked of the disk behind a start of the tool which has used so much, in a world where so much room is
-- left
abbrev pub asked_since : {H : Type 0} → Asked → World EquipmentView H → Asked
asked_since used world = room_behind (room_behind most_asked used) world.reach.room

-- where this, with the calls of the step that is asked for, is fewer than 32,768 calls that write less than 32 MiB,
-- there is room; each message that a start finds has a slot of its own
abbrev pub FewCallsFindRoom : Type 0 → Type 0
FewCallsFindRoom H =
    (start : EquipmentView) (used : Asked) (world : World EquipmentView H) (input : Input ToolCommand)
    → (used ≡ machine.first_use start) ⊎ (used ≡ machine.anew_use start)
    → start.file.slots ≤ 1024 → length start.file.list ≤ start.file.slots
    → let asked = asked_both (asked_since used world) (asks world.equipment input world.moment) in
    asked.calls < 32768 → asked.bytes < 33554432 → FindsNoRoom machine world input → ⊥
