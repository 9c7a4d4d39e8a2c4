-- A further look keeps the list, and how it stands.

use Rattle.std.proofs.Common.{◌+◌}
use Rattle.gem_spool.proofs.First.{part_stands}
use Rattle.gem_spool.proofs.Lists.{part_list}
use Rattle.gem_spool.proofs.spool.GemSpool.part.Goals as goal

pub returns-clause-list : goal.returns-clause-list
returns-clause-list g c = λ list has.
    part_list g.D.Disk c.args.self.now.spool c.part.new.self (c.args.head.now.number + c.args.part) c.part.new.into
    c.part.result c.part.ensures list has

pub returns-clause-stands : goal.returns-clause-stands
returns-clause-stands g c = λ st stands.
    part_stands g.D.Disk c.args.self.now.spool c.part.new.self st stands (c.args.head.now.number + c.args.part)
    c.part.new.into c.part.result c.part.ensures
