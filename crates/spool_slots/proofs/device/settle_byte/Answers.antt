-- The write, and its sync behind it.

use Rattle.std.proofs.Common.{[], ◌∷◌}
use Rattle.disk_base.specs.Calls.{sync_call, write_call}
use Rattle.disk_base.specs.declared.disk.DiskAnswer.TheVariants.{Done}
use Rattle.spool_slots.proofs.Carrying.{carries_before, carries_then}
use Rattle.spool_slots.proofs.device.settle_byte.Goals as goal

pub returns-in-Failed : goal.returns-in-Failed
returns-in-Failed g c =
    carries_before g.D.Disk c.args.disk.now c.write_at.new.disk (write_call c.args.at (c.args.byte ∷ []) Done ∷ [])
    (sync_call Done ∷ []) c.in-Failed.ensures

pub returns : goal.returns
returns g c =
    carries_then g.D.Disk c.args.disk.now c.write_at.new.disk c.sync_all.new.disk
    (write_call c.args.at (c.args.byte ∷ []) Done ∷ []) (sync_call Done ∷ []) c.sync_all.result c.in-Done.ensures
    c.sync_all.ensures
