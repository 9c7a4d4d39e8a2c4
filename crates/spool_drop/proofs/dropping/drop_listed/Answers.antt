-- The file has version 2, or is made one of it first.

use Rattle.spool_drop.proofs.Drops.{all-up, stopped-up}
use Rattle.spool_drop.proofs.dropping.drop_listed.Goals as goal

pub returns-in-Ok : goal.returns-in-Ok
returns-in-Ok g c =
    all-up g.D.Disk c.args.spool c.args.count c.in-Ok.spool c.in-Ok.ensures c.drop_first-in-Ok.result
    c.drop_first-in-Ok.ensures

pub returns-in-Err : goal.returns-in-Err
returns-in-Err g c = stopped-up g.D.Disk c.args.spool c.args.count c.in-Err.spent c.in-Err.ensures
