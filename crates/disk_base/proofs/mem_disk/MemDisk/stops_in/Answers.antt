-- What is listed has found room.

use Rattle.std.proofs.Common.{subst, rules}
use Rattle.disk_base.specs.MemDisk.{HasFitted}
use Rattle.disk_base.proofs.Fitted.{fitted_of}
use Rattle.disk_base.proofs.mem_disk.MemDisk.stops_in.Goals as goal

pub returns-clause-fitted : goal.returns-clause-fitted
returns-clause-fitted c =
    subst HasFitted c.self.view_is (fitted_of c.self.inside c.self.invariant (search rules) (search rules))
