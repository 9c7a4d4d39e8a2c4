-- What rests on the disk stands as the list.

use Rattle.gem_spool.proofs.Stays.{stands_so}
use Rattle.gem_spool.proofs.spool.GemSpool.len.Goals as goal

pub returns-clause-stands : goal.returns-clause-stands
returns-clause-stands g c =
    stands_so g.D.Disk c.args.self.now.spool c.len.ensures.from c.len.ensures.none (λ s told. c.len.ensures.rests s told)
