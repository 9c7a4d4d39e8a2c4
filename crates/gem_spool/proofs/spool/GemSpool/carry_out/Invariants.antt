-- Those so far are done.

use Rattle.std.proofs.Common.{take}
use Rattle.gem_spool.specs.Works.{DoesAll}
use Rattle.gem_spool.proofs.spool.GemSpool.carry_out.Given as goal

abbrev pub invariant-works : goal.invariant-works
invariant-works g l = DoesAll g.D.Disk l.fn.self (take l.at l.works) l.spool
