-- The equipment as an end of the line.
use Rattle.std.specs.Prelude.{ℕ, false, ◌+◌, ◌*◌, [], ◌∷◌, length}
use Rattle.spool_file.specs.File.{SpoolFile}
use Rattle.spool_file.specs.Reads.{look_back}
use Rattle.trace_log.specs.declared.commands.ToolCommand.{ToolCommand}
use Rattle.message_end.specs.Ends.{Asked, Machine, asked_both}
use Rattle.tool_step.specs.Disk.{asks, stops}
use Rattle.spool_works.specs.DiskWorks.{reserve_asks}
use Rattle.tool_step.specs.Equipment.{EquipmentView, act, restarts}
use Rattle.tool_step.specs.Losses.{losses}
use Rattle.tool_step.specs.Setup.{loading}

-- what makes a new file of so many slots: one call writes its head, one each a gate, 32 the area, and the last syncs
abbrev pub making : ℕ → Asked
making slots = record { calls = slots + 34; bytes = slots + 528384 }

-- what takes up such a file: a sync, a read of its front, two of each slot, and one more of each of the last ones
abbrev pub taking_up : ℕ → Asked
taking_up slots = record { calls = 2 * slots + look_back slots + 2; bytes = 0 }

-- a start reads its setup then, asks the size of each message, and reserves system bytes
abbrev pub starting : SpoolFile → Asked
starting file =
    asked_both (loading file) (asked_both (record { calls = length file.list; bytes = 0 }) reserve_asks)

-- it puts into a full spool nothing that it must, so that no step of it ends early for want of room; and at a start the
-- disk is asked before anything is noted. (The file of a world is of version 2 from its making on.)
abbrev pub machine : Machine EquipmentView ToolCommand
machine = record {
  act = act;
  restart = restarts;
  line = λ s. s.node.core.line;
  lacks_room = λ s input now. false;
  stops = stops;
  start_stops = [] ∷ [];
  asks = asks;
  start_asks = reserve_asks;
  losses = losses;
  first_use = λ s. asked_both (making s.file.slots) (starting s.file);
  anew_use = λ s. asked_both (taking_up s.file.slots) (starting s.file);
}
