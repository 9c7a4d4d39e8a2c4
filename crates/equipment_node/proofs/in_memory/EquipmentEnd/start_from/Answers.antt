use Rattle.std.proofs.Common.{sym, subst}
use Rattle.disk_base.specs.MemDisk.{DiskState}
use Rattle.disk_base.specs.contracts.mem_disk.MemDiskDisk.TheImpl.{ghosts}
use Rattle.message_end.specs.declared.end.Stop.TheVariants.{NoMemory}
use Rattle.equipment_node.specs.InMemory.{IsStartable, StartsAnew, starts_over}
use Rattle.equipment_node.proofs.FromDisk.{cut-startable, not-anew}
use Rattle.equipment_node.proofs.in_memory.EquipmentEnd.start_from.Goals as goal

pub returns-in-Ok-clause-anew : goal.returns-in-Ok-clause-anew
returns-in-Ok-clause-anew c lost =
    let new = c.take_up.new in
    subst
    (λ (d : DiskState).
    StartsAnew ghosts new.self.plan (starts_over c.args.self.now.plan d) new.self.going new.self.unmet new.out
    c.take_up.result)
    c.in-Ok.ensures.state
    (c.take_up.ensures.anew
    (subst IsStartable (sym c.in-Ok.ensures.state) (cut-startable c.args.disk.now lost c.args.choice)))

pub returns-in-Err-clause-anew : goal.returns-in-Err-clause-anew
returns-in-Err-clause-anew c lost =
    not-anew c.args.self.now.plan _ c.args.self.now.going c.requires.gone c.args.out.now NoMemory c.requires.out.line tt
    c.args.self.now.unmet
