-- The list without any message, and how it stands.

use Rattle.std.proofs.Common.{refl}
use Rattle.gem_spool.specs.declared.works.Work.TheVariants.{Purge}
use Rattle.gem_spool.proofs.Doing.{does_stands}
use Rattle.gem_spool.proofs.Lists.{clear_list}
use Rattle.gem_spool.proofs.spool.GemSpool.purge.Goals as goal

pub returns-in-Ok-clause-list : goal.returns-in-Ok-clause-list
returns-in-Ok-clause-list g c = clear_list g.D.Disk c.args.self.spool c.in-Ok.spool c.in-Ok.ensures

pub returns-in-Ok-clause-stands : goal.returns-in-Ok-clause-stands
returns-in-Ok-clause-stands g c = λ st stands.
    does_stands g.D.Disk c.args.self (record { spool = c.in-Ok.spool; active = c.args.self.active }) Purge st stands tt
    (c.in-Ok.ensures, refl)
