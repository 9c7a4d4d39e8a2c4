-- The gates so far are those of the disk, which is as it was.

use Rattle.std.proofs.Common.{◌≡◌, ℕ, ◌+◌, ◌<◌, length, slice_index, Some}
use Rattle.disk_base.specs.Story.{Story}
use Rattle.disk_base.specs.declared.disk.DiskAnswer.TheVariants.{Done}
use Rattle.spool_slots.specs.Calls.{gate_looks, number_place}
use Rattle.spool_slots.specs.Carried.{CarriesOut}
use Rattle.spool_slots.proofs.gates.look_at_gates.Given as goal

abbrev pub invariant-loop-place : goal.invariant-loop-place
invariant-loop-place g l =
    (g.D.Disk.size_is l.disk ≡ g.D.Disk.size_is l.fn.disk)
    × (g.D.Disk.told l.disk ≡ g.D.Disk.told l.fn.disk)
    × CarriesOut g.D.Disk l.fn.disk l.disk (gate_looks l.fn.slots l.fn.number l.place) Done
    × (length l.gates ≡ length l.fn.gates)
    × ((s : Story) → g.D.Disk.told l.fn.disk ≡ Some s → (p : ℕ) → p < l.place →
    slice_index l.gates p ≡ slice_index s.now.bytes (number_place l.fn.slots (l.fn.number + p)))
