-- The list with the message at its end, and how it stands.

use Rattle.gem_spool.specs.declared.works.Work.TheVariants as work
use Rattle.gem_spool.proofs.Doing.{does_stands}
use Rattle.gem_spool.proofs.Lists.{put_list}
use Rattle.gem_spool.proofs.spool.GemSpool.store_as.Goals as goal

pub returns-in-Ok-clause-list : goal.returns-in-Ok-clause-list
returns-in-Ok-clause-list g c = λ list has.
    let m = c.args.message.now in
    let mid = c.in-Ok.ensures.1 in
    put_list g.D.Disk c.args.self.spool m.stream m.function m.body.now c.requires.fits mid.0 c.in-Ok.spool.spool mid.1
    mid.2 list has

pub returns-in-Ok-clause-stands : goal.returns-in-Ok-clause-stands
returns-in-Ok-clause-stands g c = λ st stands.
    let m = c.args.message.now in
    does_stands g.D.Disk c.args.self c.in-Ok.spool (work.Put m.stream m.function m.body.now) st stands tt
    c.in-Ok.ensures
