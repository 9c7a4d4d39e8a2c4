-- The parts so far are written, by the calls of their row.

use Rattle.std.proofs.Common.{◌≡◌}
use Rattle.disk_base.specs.declared.disk.DiskAnswer.TheVariants.{Done}
use Rattle.spool_slots.specs.Calls.{part_writes}
use Rattle.spool_slots.specs.Carried.{CarriesOut}
use Rattle.spool_slots.proofs.pieces.write_parts.Given as goal

abbrev pub invariant-loop-place : goal.invariant-loop-place
invariant-loop-place g l =
    (g.D.Disk.size_is l.disk ≡ g.D.Disk.size_is l.fn.disk)
    × CarriesOut g.D.Disk l.fn.disk l.disk (part_writes l.fn.slots l.fn.number l.fn.message.stream
    l.fn.message.function l.fn.message.body.now l.place) Done
