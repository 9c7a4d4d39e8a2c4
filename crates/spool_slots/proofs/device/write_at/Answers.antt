-- The write is a row of one call.

use Rattle.spool_slots.proofs.Carrying.{carries_write}
use Rattle.spool_slots.proofs.device.write_at.Goals as goal

pub returns : goal.returns
returns g c =
    carries_write g.D.Disk c.args.disk.now c.write.new.self c.write.ensures.size c.write.ensures.listed
    c.write.ensures.same_disk (λ s told. g.met.D.Disk.calls_told c.args.disk.now s told) c.args.at c.args.bytes.now
    c.write.result c.write.ensures.told c.write.ensures.cause c.write.ensures.calls
