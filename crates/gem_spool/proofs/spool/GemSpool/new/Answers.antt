-- What rests on the disk stands as the list.

use Rattle.gem_spool.proofs.Stays.{stands_so}
use Rattle.gem_spool.proofs.spool.GemSpool.new.Goals as goal

pub returns-clause-stands : goal.returns-clause-stands
returns-clause-stands g c =
    stands_so g.D.Disk c.args.spool c.len-active.ensures.from c.len-active.ensures.none
    (λ s told. c.len-active.ensures.rests s told)
