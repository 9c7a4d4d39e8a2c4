use Rattle.std.proofs.Common.{ap, subst, Some}
use Rattle.std.specs.Prelude.{Err}
use Rattle.disk_base.specs.MemDisk.{DiskState}
use Rattle.disk_base.specs.contracts.mem_disk.MemDiskDisk.TheImpl.{ghosts}
use Rattle.equipment_tables.specs.declared.plan.EquipmentPlan.{EquipmentPlan}
use Rattle.gem_recipes.specs.contracts.no_recipes.NoRecipesRecipeKeeper.TheImpl.{ghosts as no_keepers}
use Rattle.equipment_node.specs.Held.{Begins, HasBegunOn}
use Rattle.equipment_node.specs.StartCalls.{start_calls}
use Rattle.equipment_node.specs.StartOver.{KeepsSure}
use Rattle.spool_file.specs.File.{file_in}
use Rattle.spool_works.specs.DiskCalls.{HasMade}
use Rattle.equipment_node.proofs.FromDisk.{anew-off, anew-on}
use Rattle.equipment_node.proofs.in_memory.EquipmentEnd.take_up.Goals as goal

pub returns-in-Ok-clause-anew : goal.returns-in-Ok-clause-anew
returns-in-Ok-clause-anew c is =
    let plan = c.args.self.now.plan in
    let disk = c.args.disk in
    let told = ap (λ (d : DiskState). Some d.story) c.new.ensures in
    anew-on plan disk is c.start.new.out c.in-Ok.equipment c.args.self.now.unmet
    (subst
    (λ (p : EquipmentPlan). HasBegunOn ghosts no_keepers p disk.story.now.bytes c.start.new.out c.in-Ok.equipment)
    c.get.ensures.value (c.in-Ok.ensures.begins disk.story told))
    (subst
    (λ (d : DiskState).
    HasMade ghosts d c.in-Ok.equipment.spool.spool.disk (start_calls (file_in disk.story.now.bytes)))
    c.new.ensures (c.in-Ok.ensures.calls disk.story told))
    (subst
    (λ (d : DiskState). KeepsSure ghosts d c.in-Ok.equipment.spool.spool.disk)
    c.new.ensures c.in-Ok.ensures.keeps)
    c.stops_in.ensures.fitted

pub returns-in-Err-clause-anew : goal.returns-in-Err-clause-anew
returns-in-Err-clause-anew c is =
    let disk = c.args.disk in
    let told = ap (λ (d : DiskState). Some d.story) c.new.ensures in
    anew-off c.args.self.now.plan disk is c.start.new.out c.in-Err.why
    (subst (λ (p : EquipmentPlan). Begins ghosts no_keepers p disk.story c.start.new.out (Err c.in-Err.why))
    c.get.ensures.value
    (c.in-Err.ensures.begins disk.story told))
    c.args.self.now.going c.requires.gone c.stop_at_start.result c.stop_at_start.ensures
    c.args.self.now.unmet
