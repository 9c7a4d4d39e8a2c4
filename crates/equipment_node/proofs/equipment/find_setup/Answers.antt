use Rattle.std.proofs.Common.{◌∙◌, ap, Err}
use Rattle.setup_store.specs.declared.store.Loading.{Loading}
use Rattle.equipment_node.proofs.SetupFound.{setup-breaks, setup-fails, setup-lacks, setup-read, setup-wants}
use Rattle.equipment_node.proofs.equipment.find_setup.Goals as goal

pub of-requires : goal.of-requires
of-requires g c =
    record { list = c.in-Ok.ensures.loads.1.2.1; room = c.in-Ok.ensures.loads.1.2.0.room }

pub returns-in-Ok : goal.returns-in-Ok
returns-in-Ok g c =
    setup-read g.D.Disk c.args.spool c.len.ensures.rests (λ s told. g.met.D.Disk.sized c.args.spool.disk s told)
    c.load.new.spool c.in-Ok.bytes c.of.result c.of.ensures c.in-Ok.ensures.loads c.in-Ok.ensures.holds

pub returns-in-Err-NoArea : goal.returns-in-Err-NoArea
returns-in-Err-NoArea g c =
    setup-wants g.D.Disk c.args.spool c.len.ensures.rests (λ s told. g.met.D.Disk.sized c.args.spool.disk s told)
    c.load.new.spool c.in-Err-NoArea.field-0 c.in-Err-NoArea.field-0-is c.in-Err-NoArea.ensures.loads
    (c.in-Err-NoArea.ensures.none (ap (λ (why : Loading). Err why) c.in-Err-NoArea.field-0-is))

pub returns-in-Err-NotSetup : goal.returns-in-Err-NotSetup
returns-in-Err-NotSetup g c =
    setup-breaks g.D.Disk c.args.spool c.len.ensures.rests (λ s told. g.met.D.Disk.sized c.args.spool.disk s told)
    c.load.new.spool c.in-Err-NotSetup.field-0 c.in-Err-NotSetup.ensures.loads c.into_raw.result c.in-Err-NotSetup.place
    (c.into_raw.ensures ∙ c.retire.ensures.disk) c.in-Err-NotSetup.field-0-is

pub returns-in-Err-Failed : goal.returns-in-Err-Failed
returns-in-Err-Failed g c =
    setup-fails g.D.Disk c.args.spool c.len.ensures.rests (λ s told. g.met.D.Disk.sized c.args.spool.disk s told)
    c.load.new.spool c.in-Err-Failed.field-0 c.in-Err-Failed.ensures.loads c.retire-in-Err-Failed.result
    c.retire-in-Err-Failed.ensures.disk c.in-Err-Failed.field-0-is

pub returns-in-Err-NoMemory : goal.returns-in-Err-NoMemory
returns-in-Err-NoMemory g c =
    setup-lacks g.D.Disk c.args.spool c.len.ensures.rests (λ s told. g.met.D.Disk.sized c.args.spool.disk s told)
    c.load.new.spool c.in-Err-NoMemory.field-0 c.in-Err-NoMemory.ensures.loads
    c.retire-in-Err-NoMemory.result c.retire-in-Err-NoMemory.ensures.disk c.in-Err-NoMemory.field-0-is
