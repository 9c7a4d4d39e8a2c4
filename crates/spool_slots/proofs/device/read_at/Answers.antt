-- The read is a row of one call.

use Rattle.std.proofs.Common.{length}
use Rattle.spool_slots.proofs.Carrying.{carries_read}
use Rattle.spool_slots.proofs.device.read_at.Goals as goal

pub returns-clause-row : goal.returns-clause-row
returns-clause-row g c =
    carries_read g.D.Disk c.args.disk.now c.read.new.self c.read.ensures.size c.read.ensures.listed
    c.read.ensures.same_disk c.args.at (length c.args.into.now) c.read.result c.read.ensures.told c.read.ensures.cause
    c.read.ensures.calls
