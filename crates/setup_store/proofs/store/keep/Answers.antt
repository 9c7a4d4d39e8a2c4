-- A list that has room was kept, or not.

use Rattle.std.proofs.Common.{sym, ◌∙◌}
use Rattle.setup_store.proofs.WholeKeeps.{kept_holds, kept_not, kept_so}
use Rattle.setup_store.proofs.store.keep.Goals as goal

pub returns-in-Ok-clause-keeps : goal.returns-in-Ok-clause-keeps
returns-in-Ok-clause-keeps g c =
    kept_so g.D.Disk c.args.spool c.args.list.now c.rests.ensures
    (λ s told. g.met.D.Disk.sized c.args.spool.disk s told) (sym c.area.ensures ∙ c.if-not-area.false) c.requires
    (sym c.has_room.ensures ∙ c.if-not-has_room.false) c.in-Ok.spool c.in-Ok.ensures

pub returns-in-Ok-clause-holds : goal.returns-in-Ok-clause-holds
returns-in-Ok-clause-holds g c =
    kept_holds g.D.Disk c.args.spool c.args.list.now c.rests.ensures
    (λ s told. g.met.D.Disk.sized c.args.spool.disk s told) (sym c.area.ensures ∙ c.if-not-area.false) c.requires
    (sym c.has_room.ensures ∙ c.if-not-has_room.false) c.in-Ok.spool c.in-Ok.ensures

pub returns-in-Err-clause-keeps : goal.returns-in-Err-clause-keeps
returns-in-Err-clause-keeps g c =
    kept_not g.D.Disk c.args.spool c.args.list.now c.rests.ensures
    (λ s told. g.met.D.Disk.sized c.args.spool.disk s told) (sym c.area.ensures ∙ c.if-not-area.false) c.requires
    (sym c.has_room.ensures ∙ c.if-not-has_room.false) c.in-Err.spent c.in-Err.ensures
