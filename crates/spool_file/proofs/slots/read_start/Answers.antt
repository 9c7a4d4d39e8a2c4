-- The start is read in one call.

use Rattle.std.proofs.Common.{length}
use Rattle.spool_file.specs.Slot.{slot_place}
use Rattle.spool_file.proofs.Stretches.{one_read}
use Rattle.spool_file.proofs.slots.read_start.Goals as goal

pub returns-clause-look : goal.returns-clause-look
returns-clause-look g c =
    one_read c.slot_place.result (slot_place c.args.slot) (length c.args.start.now) 15 c.read.result
    c.slot_place.ensures c.told-start c.read.ensures.cause c.read.ensures.calls
