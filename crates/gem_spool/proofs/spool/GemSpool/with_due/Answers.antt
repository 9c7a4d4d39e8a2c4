-- Where there is room, a put stores.

use Rattle.gem_spool.proofs.Answered.{stored}
use Rattle.gem_spool.proofs.spool.GemSpool.with_due.Goals as goal

pub returns-in-Ok : goal.returns-in-Ok
returns-in-Ok g c =
    let m = c.args.message.now in
    stored g.D.Disk c.args.self c.in-Ok.spool m.stream m.function m.body.now c.in-Ok.field-0-1 c.requires.fits
    c.in-Ok.ensures.put
