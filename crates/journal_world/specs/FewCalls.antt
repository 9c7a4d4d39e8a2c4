-- That the disk of the host's journal finds no room for a call, or for its bytes, only behind many since a start (this
-- profile).
use Rattle.std.specs.Prelude.{◌≡◌, ◌⊎◌, ◌<◌, ◌≤◌}
use Rattle.end_pair.specs.TurnCauses.{HostFindsNoRoom}
use Rattle.end_pair.specs.World.{World}
use Rattle.journal_node.specs.End.{machine}
use Rattle.journal_node.specs.Journal.{JournalView}
use Rattle.journal_node.specs.Works.{asks}
use Rattle.message_end.specs.Ends.{Asked, Input, asked_both, most_asked, room_behind}
use Rattle.trace_log.specs.declared.commands.HostCommand.{HostCommand}

-- how much was asked of the disk behind a start of the host which has used so much, in a world where so much room is
-- left
abbrev pub asked_since : {E : Type 0} → Asked → World E JournalView → Asked
asked_since used world = room_behind (room_behind most_asked used) world.host_reach.room

-- where this, with the calls of the step that is asked for, is fewer than 32,768 calls that write less than 32 MiB,
-- there is room
abbrev pub FewCallsFindRoom : Type 0 → Type 0
FewCallsFindRoom E =
    (start : JournalView) (used : Asked) (world : World E JournalView) (input : Input HostCommand)
    → (used ≡ machine.first_use start) ⊎ (used ≡ machine.anew_use start)
    → start.file.slots ≤ 1024
    → let asked = asked_both (asked_since used world) (asks world.host input world.moment) in
    asked.calls < 32768 → asked.bytes < 33554432 → HostFindsNoRoom machine world input → ⊥
