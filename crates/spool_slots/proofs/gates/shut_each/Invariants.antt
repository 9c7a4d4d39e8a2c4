-- The open ones so far are closed, by the calls of their row.

use Rattle.std.proofs.Common.{◌≡◌}
use Rattle.disk_base.specs.declared.disk.DiskAnswer.TheVariants.{Done}
use Rattle.spool_slots.specs.Carried.{CarriesOut}
use Rattle.spool_slots.specs.Put.{shut_steps}
use Rattle.spool_slots.proofs.gates.shut_each.Given as goal

abbrev pub invariant-loop-place : goal.invariant-loop-place
invariant-loop-place g l =
    (g.D.Disk.size_is l.disk ≡ g.D.Disk.size_is l.fn.disk)
    × CarriesOut g.D.Disk l.fn.disk l.disk (shut_steps l.fn.slots l.fn.number l.place l.fn.gates) Done
