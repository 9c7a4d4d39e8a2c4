use Rattle.std.proofs.Common.{ap, subst, sym, ◌∙◌, Option, Some}
use Rattle.disk_base.specs.MemDisk.{DiskState}
use Rattle.disk_base.specs.contracts.mem_disk.MemDiskDisk.TheImpl.{ghosts}
use Rattle.message_end.specs.Ends.{with_cut}
use Rattle.gem_recipes.specs.contracts.no_recipes.NoRecipesRecipeKeeper.TheImpl.{ghosts as no_keepers}
use Rattle.gem_recipes.specs.declared.no_recipes.NoRecipes.{NoRecipes}
use Rattle.equipment_node.specs.Held.{Held, view_in}
use Rattle.equipment_node.specs.InMemory.{HasPower, reach_in, state_in}
use Rattle.equipment_node.proofs.FromDisk.{armed-power, power-in}
use Rattle.equipment_node.proofs.in_memory.EquipmentEndEnd.arm.Goals as goal

pub returns-in-Some-clause-reach : goal.returns-in-Some-clause-reach
returns-in-Some-clause-reach c loses =
    ap (λ (h : Held DiskState NoRecipes). reach_in (Some h) c.args.self.now.unmet) c.arm.ensures
    ∙ sym (ap (λ (o : Option (Held DiskState NoRecipes)). with_cut c.args.call (reach_in o c.args.self.now.unmet))
    c.in-Some.is)

pub returns-in-Some-clause-means : goal.returns-in-Some-clause-means
returns-in-Some-clause-means c =
    let plan = c.args.self.now.plan in
    ap (λ (h : Held DiskState NoRecipes). view_in ghosts no_keepers h) c.arm.ensures
    ∙ sym (ap (λ (o : Option (Held DiskState NoRecipes)). state_in ghosts plan o) c.in-Some.is)

pub returns-in-Some-clause-sound : goal.returns-in-Some-clause-sound
returns-in-Some-clause-sound c =
    let plan = c.args.self.now.plan in
    subst (λ (h : Held DiskState NoRecipes). HasPower ghosts plan h) (sym c.arm.ensures)
    (armed-power plan c.in-Some.equipment c.args.call
    (power-in plan c.args.self.now.going c.args.self.now.lost c.in-Some.equipment c.in-Some.is c.requires.sound).0)
