-- The host with its journal as an end of the line.
use Rattle.std.specs.Prelude.{ℕ, ◌+◌, ◌*◌, [], ◌∷◌}
use Rattle.spool_file.specs.Reads.{look_back}
use Rattle.spool_works.specs.DiskWorks.{reserve_asks}
use Rattle.trace_log.specs.declared.commands.HostCommand.{HostCommand}
use Rattle.message_end.specs.Ends.{Asked, Machine, asked_both}
use Rattle.journal_node.specs.Journal.{JournalView, act, lacks_room, restarts}
use Rattle.journal_node.specs.Works.{asks, losses, stops}

-- what makes a new file of so many slots: one call writes its head, one each a gate, 32 the area, and the last syncs
abbrev pub making : ℕ → Asked
making slots = record { calls = slots + 34; bytes = slots + 528384 }

-- what takes up such a file: a sync, a read of its front, two of each slot, and one more of each of the last ones
abbrev pub taking_up : ℕ → Asked
taking_up slots = record { calls = 2 * slots + look_back slots + 2; bytes = 0 }

-- at a start the disk is asked before anything is noted. It asks no size of a message, since it removes none. (The file
-- of a world is of version 2 from its making on.)
abbrev pub machine : Machine JournalView HostCommand
machine = record {
  act = act;
  restart = restarts;
  line = λ s. s.node.core.line;
  lacks_room = lacks_room;
  stops = stops;
  start_stops = [] ∷ [];
  asks = asks;
  start_asks = reserve_asks;
  losses = losses;
  first_use = λ s. asked_both (making s.file.slots) reserve_asks;
  anew_use = λ s. asked_both (taking_up s.file.slots) reserve_asks;
}
