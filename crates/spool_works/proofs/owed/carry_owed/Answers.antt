-- The changes were carried out, and then the keep.

use Rattle.std.specs.Option.{option_map}
use Rattle.spool_works.proofs.OwedWorks.{carried-holds, owed-then}
use Rattle.spool_works.proofs.owed.carry_owed.Goals as goal

pub keep_owed-requires-clause-holds : goal.keep_owed-requires-clause-holds
keep_owed-requires-clause-holds g c =
    carried-holds g.D.Disk c.args.spool c.in-Ok.spool c.args.works.now c.len.ensures.stands c.requires.sized
    c.in-Ok.ensures c.requires.holds

pub returns-in-Ok-clause-carries : goal.returns-in-Ok-clause-carries
returns-in-Ok-clause-carries g c =
    owed-then g.D.Disk c.args.spool c.in-Ok.spool c.args.works.now (option_map (λ bytes. bytes.now) c.args.setup)
    c.keep_owed.result c.in-Ok.ensures c.keep_owed.ensures.keeps
