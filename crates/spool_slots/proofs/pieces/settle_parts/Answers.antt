-- The parts, and a sync behind them.

use Rattle.std.proofs.Common.{ℕ, [], ◌∷◌, ◌++◌, subst}
use Rattle.disk_base.specs.Calls.{sync_call}
use Rattle.disk_base.specs.declared.disk.DiskAnswer.TheVariants.{Done, Failed}
use Rattle.spool_slots.specs.Calls.{part_writes}
use Rattle.spool_slots.specs.Carried.{CarriesOut}
use Rattle.spool_slots.proofs.Carrying.{carries_before, carries_then}
use Rattle.spool_slots.proofs.pieces.settle_parts.Goals as goal

pub returns-in-Failed : goal.returns-in-Failed
returns-in-Failed g c =
    let m = c.args.message.now in
    subst (λ (n : ℕ). CarriesOut g.D.Disk c.args.disk.now c.write_parts.new.disk
    (part_writes c.args.slots c.args.number m.stream m.function m.body.now n ++ sync_call Done ∷ []) Failed)
    c.requires.size
    (carries_before g.D.Disk c.args.disk.now c.write_parts.new.disk
    (part_writes c.args.slots c.args.number m.stream m.function m.body.now c.args.size) (sync_call Done ∷ [])
    c.in-Failed.ensures)

pub returns : goal.returns
returns g c =
    let m = c.args.message.now in
    subst (λ (n : ℕ). CarriesOut g.D.Disk c.args.disk.now c.sync_all.new.disk
    (part_writes c.args.slots c.args.number m.stream m.function m.body.now n ++ sync_call Done ∷ []) c.sync_all.result)
    c.requires.size
    (carries_then g.D.Disk c.args.disk.now c.write_parts.new.disk c.sync_all.new.disk
    (part_writes c.args.slots c.args.number m.stream m.function m.body.now c.args.size) (sync_call Done ∷ [])
    c.sync_all.result c.in-Done.ensures c.sync_all.ensures)
