-- The spool was joined again behind the keep.

use Rattle.spool_works.proofs.Joining.{joined-holds, joined-keeps, joined-without, without-holds}
use Rattle.spool_works.proofs.keeping.keep_setup.Goals as goal

pub returns-in-Ok-clause-keeps : goal.returns-in-Ok-clause-keeps
returns-in-Ok-clause-keeps g c =
    joined-keeps g.D.Disk c.args.spool c.join.result c.take_apart-spool.result c.in-Ok.spool c.take_apart-spool.ensures
    c.join.ensures c.args.bytes.now c.in-Ok.ensures.keeps

pub returns-in-Ok-clause-holds : goal.returns-in-Ok-clause-holds
returns-in-Ok-clause-holds g c =
    joined-holds g.D.Disk c.args.spool c.join.result c.take_apart-spool.result c.in-Ok.spool c.take_apart-spool.ensures
    c.join.ensures c.in-Ok.ensures.holds

pub returns-in-Err-NoArea-clause-keeps : goal.returns-in-Err-NoArea-clause-keeps
returns-in-Err-NoArea-clause-keeps g c =
    joined-without g.D.Disk c.args.spool c.join-in-Err-NoArea.result c.take_apart-spool.result c.in-Err-NoArea.spool
    c.take_apart-spool.ensures c.join-in-Err-NoArea.ensures c.in-Err-NoArea.field-0 c.in-Err-NoArea.field-0-is
    c.args.bytes.now c.in-Err-NoArea.ensures.keeps

pub returns-in-Err-NoArea-clause-holds : goal.returns-in-Err-NoArea-clause-holds
returns-in-Err-NoArea-clause-holds g c =
    without-holds g.D.Disk c.args.spool c.join-in-Err-NoArea.result c.take_apart-spool.result c.in-Err-NoArea.spool
    c.take_apart-spool.ensures c.join-in-Err-NoArea.ensures c.in-Err-NoArea.field-0 c.in-Err-NoArea.field-0-is
    c.args.bytes.now c.in-Err-NoArea.ensures.keeps
    c.requires.holds
