-- The byte at the break is that of the file.

use Rattle.spool_file.specs.Slot.{slot_place}
use Rattle.spool_file.proofs.Starts.{got_is}
use Rattle.spool_file.proofs.slots.break_in.Goals as goal

pub returns-clause-got : goal.returns-clause-got
returns-clause-got c bytes is = got_is bytes c.args.start.now (slot_place c.args.slot) c.told-start is c.args.place c.requires
