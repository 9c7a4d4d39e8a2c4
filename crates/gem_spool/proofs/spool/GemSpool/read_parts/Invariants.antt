-- So many of the further slots were read, and the body goes on with what they have of it.

use Rattle.std.proofs.Common.{◌≡◌, ◌+◌, ◌-◌, ◌++◌, Some}
use Rattle.disk_base.specs.Story.{Story}
use Rattle.disk_base.specs.declared.disk.DiskAnswer.TheVariants.{Done}
use Rattle.gem_spool.specs.Oldest.{slot_looks}
use Rattle.spool_file.specs.Slot.{areas_from, slot_in}
use Rattle.spool_slots.specs.Changes.{HasMade}
use Rattle.spool_slots.specs.Spool.{in_hand, known_of}
use Rattle.gem_spool.proofs.spool.GemSpool.read_parts.Given as goal

abbrev pub invariant-parts : goal.invariant-parts
invariant-parts g l =
    (l.self.active ≡ l.fn.self.active)
    × (l.self.spool ≡ in_hand l.self.spool.disk (known_of l.fn.self.spool))
    × (g.D.Disk.told l.self.spool.disk ≡ g.D.Disk.told l.fn.self.spool.disk)
    × HasMade g.D.Disk l.fn.self.spool.disk l.self.spool.disk
    (slot_looks l.fn.self.spool.slots (l.fn.self.spool.first + 1) (l.part - 1)) Done
    × ((s : Story) → g.D.Disk.told l.fn.self.spool.disk ≡ Some s →
    l.body ≡ l.fn.body
    ++ areas_from l.fn.self.spool.slots (slot_in s.now.bytes) (l.fn.self.spool.first + 1) (l.part - 1))
