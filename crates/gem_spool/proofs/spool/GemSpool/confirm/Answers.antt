-- The list without its oldest message, and how it stands.

use Rattle.std.proofs.Common.{refl}
use Rattle.gem_spool.specs.declared.works.Work.TheVariants.{DropOldest}
use Rattle.gem_spool.proofs.Answered.{freed_size}
use Rattle.gem_spool.proofs.Doing.{does_stands}
use Rattle.gem_spool.proofs.Lists.{drop_list}
use Rattle.gem_spool.proofs.spool.GemSpool.confirm.Goals as goal

pub returns-in-Ok-clause-list : goal.returns-in-Ok-clause-list
returns-in-Ok-clause-list g c = λ list has.
    drop_list g.D.Disk c.args.self.spool c.in-Ok.spool c.in-Ok.ensures.0 c.in-Ok.ensures.2 list has

pub returns-in-Ok-clause-stands : goal.returns-in-Ok-clause-stands
returns-in-Ok-clause-stands g c = λ st stands s told.
    let done = c.in-Ok.ensures in
    does_stands g.D.Disk c.args.self (record { spool = c.in-Ok.spool; active = c.args.self.active })
    (DropOldest done.1.0) st stands (freed_size g.D.Disk c.args.self.spool c.in-Ok.spool done st stands s told)
    ((done.0, done.1.2, done.2), refl)
