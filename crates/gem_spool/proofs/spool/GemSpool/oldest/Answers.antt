-- A look keeps the list, and how it stands.

use Rattle.gem_spool.proofs.First.{look_stands}
use Rattle.gem_spool.proofs.Lists.{look_list}
use Rattle.gem_spool.proofs.spool.GemSpool.oldest.Goals as goal

pub returns-clause-list : goal.returns-clause-list
returns-clause-list g c = λ list has.
    look_list g.D.Disk c.args.self.now.spool c.oldest.new.self c.args.into.now c.oldest.new.into c.oldest.result
    c.oldest.ensures list has

pub returns-clause-stands : goal.returns-clause-stands
returns-clause-stands g c = λ st stands.
    look_stands g.D.Disk c.args.self.now.spool c.oldest.new.self st stands c.args.into.now c.oldest.new.into
    c.oldest.result c.oldest.ensures
