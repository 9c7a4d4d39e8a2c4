-- That behind whole steps nothing of the disk is lost: a proof, which stands here since an impl cites it.
use Rattle.std.proofs.Common.{◌≡◌, refl, ℕ, false, Option, Some, None}
use Rattle.std.specs.Prelude.{is_some}
use Rattle.disk_base.specs.MemDisk.{DiskState}
use Rattle.disk_base.specs.declared.cut.CutChoice.{CutChoice}
use Rattle.disk_base.specs.declared.disk.Disk as disk
use Rattle.equipment_tables.specs.declared.plan.EquipmentPlan.{EquipmentPlan}
use Rattle.tool_step.specs.Equipment.{restarts}
use Rattle.gem_recipes.specs.declared.no_recipes.NoRecipes.{NoRecipes}
use Rattle.equipment_node.specs.Held.{Held}
use Rattle.equipment_node.specs.InMemory.{anew_over, state_in}

pub settled_over :
    (members : disk.Ghosts DiskState) (plan : EquipmentPlan) (going : Option (Held DiskState NoRecipes))
    (lost : Option DiskState) → is_some lost ≡ false → (choice : CutChoice) (now : ℕ)
    → anew_over members plan going lost choice now ≡ restarts (state_in members plan going) now
settled_over members plan going None same choice now = refl
settled_over members plan going (Some one) same choice now = absurd (cc)
