-- That the disk of one that makes steps stands for its journal, and that nothing is due of one at rest: proofs, which
-- stand here since an impl cites them.
use Rattle.std.proofs.Common.{refl}
use Rattle.disk_base.specs.contracts.mem_disk.MemDiskDisk.TheImpl.{ghosts}
use Rattle.filed_end.specs.Form.{IsAtRest, Stands}
use Rattle.journal_end.specs.Filed.{CanStep, MayHold, form}
use Rattle.journal_end.specs.declared.journal_end.JournalOnDisk.{JournalOnDisk}
use Rattle.journal_node.specs.Journal.{JournalView}
use Rattle.line_end.specs.declared.plan.HostPlan.{HostPlan}
use Rattle.message_end.specs.Calls.{deadline_of_end}

pub stands-so : (end : JournalOnDisk) → CanStep ghosts end → Stands (form ghosts) MayHold end
stands-so end can =
    record { ends = can.on.stands.file ((form ghosts).disk end).story refl; may = can.on.version_is }

pub rests-so : (plan : HostPlan)
    → IsAtRest (form ghosts) (λ (s : JournalView). deadline_of_end s.node.core) ((form ghosts).idle plan)
rests-so plan = record { phase = refl; deadline = refl; due_is = refl }
