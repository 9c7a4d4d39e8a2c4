use Rattle.std.proofs.Common.{Option, subst, sym}
use Rattle.disk_base.specs.MemDisk.{DiskState}
use Rattle.disk_base.specs.contracts.mem_disk.MemDiskDisk.TheImpl.{ghosts}
use Rattle.equipment_node.specs.InMemory.{IsWhole}
use Rattle.equipment_node.proofs.FromDisk.{restarted}
use Rattle.equipment_node.proofs.in_memory.EquipmentEndEnd.restart.Goals as goal

pub returns-in-Some-clause-start : goal.returns-in-Some-clause-start
returns-in-Some-clause-start c =
    (restarted c.args.self.now.plan c.in-Some.disk c.args.choice c.args.now c.args.self.now.going _
    c.args.self.now.lost _ _ c.disk_in.ensures c.take-lost.ensures.value c.take-going.ensures.value c.in-Some.is
    c.requires.sound _ _ _ _ _ c.start_from.ensures.anew).start

pub returns-in-Some-clause-whole : goal.returns-in-Some-clause-whole
returns-in-Some-clause-whole c =
    (restarted c.args.self.now.plan c.in-Some.disk c.args.choice c.args.now c.args.self.now.going _
    c.args.self.now.lost _ _ c.disk_in.ensures c.take-lost.ensures.value c.take-going.ensures.value c.in-Some.is
    c.requires.sound _ _ _ _ _ c.start_from.ensures.anew).whole

pub returns-in-Some-clause-reach : goal.returns-in-Some-clause-reach
returns-in-Some-clause-reach c =
    (restarted c.args.self.now.plan c.in-Some.disk c.args.choice c.args.now c.args.self.now.going _
    c.args.self.now.lost _ _ c.disk_in.ensures c.take-lost.ensures.value c.take-going.ensures.value c.in-Some.is
    c.requires.sound _ _ _ _ _ c.start_from.ensures.anew).reach

pub returns-in-Some-clause-sound : goal.returns-in-Some-clause-sound
returns-in-Some-clause-sound c =
    subst
    (λ (o : Option DiskState). IsWhole ghosts c.start_from.new.self.plan c.start_from.new.self.going o)
    (sym c.start_from.ensures.lost)
    (restarted c.args.self.now.plan c.in-Some.disk c.args.choice c.args.now c.args.self.now.going _
    c.args.self.now.lost _ _ c.disk_in.ensures c.take-lost.ensures.value c.take-going.ensures.value c.in-Some.is
    c.requires.sound _ _ _ _ _ c.start_from.ensures.anew).sound
