-- The list stays and the mark moves on: how both stand, at every moment and by how it ends.

use Rattle.std.proofs.Common.{Ok, Err, sym, subst}
use Rattle.disk_base.specs.Through.{GoesThrough}
use Rattle.disk_base.specs.declared.disk.DiskAnswer.TheVariants.{Done}
use Rattle.gem_spool.specs.Works.{IsMarked}
use Rattle.gem_spool.proofs.Lists.{reserve_list}
use Rattle.gem_spool.proofs.Stays.{reserve_failed, reserve_stands, reserve_way, rest_way}
use Rattle.spool_slots.specs.Changes.{Reserves}
use Rattle.spool_slots.specs.Spool.{SpoolView}
use Rattle.spool_slots.specs.declared.states.Reserving.{Reserving}
use Rattle.spool_slots.specs.declared.states.Reserving.TheVariants as reserving
use Rattle.gem_spool.proofs.spool.GemSpool.reserve.Goals as goal

pub returns-in-Ok-clause-list : goal.returns-in-Ok-clause-list
returns-in-Ok-clause-list g c = λ list has.
    reserve_list g.D.Disk c.args.self.spool c.in-Ok.spool c.in-Ok.base c.in-Ok.ensures list has

pub returns-in-Ok-clause-stands : goal.returns-in-Ok-clause-stands
returns-in-Ok-clause-stands g c = λ st stands.
    reserve_stands g.D.Disk c.args.self.spool c.in-Ok.spool c.in-Ok.base c.in-Ok.ensures st stands

pub returns-in-Ok-clause-moments : goal.returns-in-Ok-clause-moments
returns-in-Ok-clause-moments g c = λ st stands s told.
    let done : Reserves g.D.Disk c.args.self.spool (Ok (c.in-Ok.spool, c.in-Ok.base)) = c.in-Ok.ensures in
    reserve_way g.D.Disk c.args.self.spool c.in-Ok.spool.disk Done done.0 st stands s told

pub returns-in-Err-NumbersSpent-clause-moments : goal.returns-in-Err-NumbersSpent-clause-moments
returns-in-Err-NumbersSpent-clause-moments g c = λ st stands s told.
    let none : Reserves g.D.Disk c.args.self.spool (Err (reserving.NumbersSpent c.in-Err-NumbersSpent.spool)) =
    subst (λ (e : Reserving g.row.D.Denot). Reserves g.D.Disk c.args.self.spool
    (Err e)) c.in-Err-NumbersSpent.field-0-is c.in-Err-NumbersSpent.ensures in
    subst (λ (x : SpoolView g.row.D.Denot). GoesThrough s (g.D.Disk.told x.disk) (IsMarked st)) (sym none.0)
    (rest_way g.D.Disk c.args.self.spool st stands s told)

pub returns-in-Err-Failed-clause-moments : goal.returns-in-Err-Failed-clause-moments
returns-in-Err-Failed-clause-moments g c = λ st stands s told.
    let failed : Reserves g.D.Disk c.args.self.spool (Err (reserving.Failed c.in-Err-Failed.spent)) =
    subst (λ (e : Reserving g.row.D.Denot). Reserves g.D.Disk c.args.self.spool
    (Err e)) c.in-Err-Failed.field-0-is c.in-Err-Failed.ensures in
    reserve_failed g.D.Disk c.args.self.spool c.in-Err-Failed.spent failed st stands s told
