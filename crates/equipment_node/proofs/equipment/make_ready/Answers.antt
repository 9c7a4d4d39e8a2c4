use Rattle.std.proofs.Common.{ap}
use Rattle.equipment_node.proofs.MadeReady.{fails, lacks, made-ready, not-upgraded}
use Rattle.equipment_node.proofs.equipment.make_ready.Goals as goal

pub returns-in-Err-Failed : goal.returns-in-Err-Failed
returns-in-Err-Failed g c =
    fails g.D.Disk c.args.spool c.len.ensures.rests c.read_sizes.new.spool c.retire.result c.retire.ensures.disk
    c.in-Err-Failed.field-0 c.in-Err-Failed.field-0-is c.in-Err-Failed.ensures

pub returns-in-Err-NoMemory : goal.returns-in-Err-NoMemory
returns-in-Err-NoMemory g c =
    lacks g.D.Disk c.args.spool c.len.ensures.rests c.read_sizes.new.spool c.retire-in-Err-NoMemory.result
    c.retire-in-Err-NoMemory.ensures.disk c.in-Err-NoMemory.field-0 c.in-Err-NoMemory.field-0-is
    c.in-Err-NoMemory.ensures

pub returns-in-Ok-upgrade : goal.returns-in-Ok-upgrade
returns-in-Ok-upgrade g c =
    made-ready g.D.Disk c.args.spool c.len.ensures.rests c.read_sizes.new.spool c.in-Ok.sizes c.in-Ok.ensures.0
    c.in-Ok.ensures.1 c.in-Ok-upgrade.spool c.new.result (ap (λ h. h.spool) c.new.ensures.made) c.in-Ok-upgrade.ensures

pub returns-in-Err : goal.returns-in-Err
returns-in-Err g c =
    not-upgraded g.D.Disk c.args.spool c.len.ensures.rests c.read_sizes.new.spool c.in-Ok.sizes c.in-Ok.ensures.0
    c.in-Ok.ensures.1 c.in-Err.spent c.in-Err.ensures
