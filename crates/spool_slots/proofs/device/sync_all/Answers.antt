-- The sync is a row of one call.

use Rattle.spool_slots.proofs.Carrying.{carries_sync}
use Rattle.spool_slots.proofs.device.sync_all.Goals as goal

pub returns : goal.returns
returns g c =
    carries_sync g.D.Disk c.args.disk.now c.sync.new.self c.sync.ensures.size c.sync.ensures.listed
    c.sync.ensures.same_disk c.sync.result c.sync.ensures.told c.sync.ensures.cause c.sync.ensures.calls
