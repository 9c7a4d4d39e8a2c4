-- What was made is an empty spool.

use Rattle.std.proofs.Common.{◌∙◌, Ok, replicate, subst}
use Rattle.disk_base.specs.MemDisk.{DiskState}
use Rattle.disk_base.specs.contracts.mem_disk.MemDiskDisk.TheImpl.{ghosts}
use Rattle.spool_slots.specs.Format.{Formats}
use Rattle.line_world.proofs.Emptied.{emptied}
use Rattle.line_world.proofs.disk.empty_spool.Goals as goal

pub returns : goal.returns
returns c =
    let spool = c.in-Ok-format.spool in
    emptied (replicate c.area_end.result 0) _ c.args.slots c.requires.most spool
    (subst (λ (disk : DiskState). Formats ghosts disk c.args.slots (Ok spool)) (c.new.ensures ∙ c.in-Ok.ensures)
    c.in-Ok-format.ensures)
    c.stops_in.ensures.fitted
