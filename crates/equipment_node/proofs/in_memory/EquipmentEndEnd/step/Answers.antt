use Rattle.std.proofs.Common.{false, Option, is_some, subst, sym, ◌∙◌}
use Rattle.disk_base.specs.MemDisk.{DiskState}
use Rattle.disk_base.specs.contracts.mem_disk.MemDiskDisk.TheImpl.{ghosts}
use Rattle.message_end.specs.Ends.{EndsBy, Leaves, input_of}
use Rattle.tool_step.specs.Disk.{stops}
use Rattle.tool_step.specs.End.{machine}
use Rattle.tool_step.specs.Equipment.{act}
use Rattle.gem_recipes.specs.declared.no_recipes.NoRecipes.{NoRecipes}
use Rattle.equipment_node.specs.Held.{Held}
use Rattle.equipment_node.specs.InMemory.{anew_over, reach_in, state_in}
use Rattle.tool_step.specs.Losses.{losses}
use Rattle.equipment_node.proofs.in_memory.EquipmentEndEnd.step.Goals as goal

pub returns-in-Some-clause-step : goal.returns-in-Some-clause-step
returns-in-Some-clause-step c =
    let plan = c.args.self.now.plan in
    let end = c.step_with.new.self in
    subst
    (λ (o : Option (Held DiskState NoRecipes)).
    Leaves (stops (state_in ghosts plan o) (input_of c.args.input) c.args.now) false
    (act (state_in ghosts plan o) (input_of c.args.input) c.args.now) (state_in ghosts end.plan end.going)
    c.step_with.new.out c.step_with.result)
    (sym (sym c.take.ensures.value ∙ c.in-Some.is)) c.step_with.ensures.step

pub returns-in-Some-clause-ends : goal.returns-in-Some-clause-ends
returns-in-Some-clause-ends c =
    let plan = c.args.self.now.plan in
    let end = c.step_with.new.self in
    subst
    (λ (o : Option (Held DiskState NoRecipes)).
    EndsBy machine (losses (state_in ghosts plan o) (input_of c.args.input) c.args.now)
    (reach_in o c.args.self.now.unmet) (reach_in end.going end.unmet) (is_some end.lost)
    (λ choice now. anew_over ghosts end.plan end.going end.lost choice now) c.step_with.new.out c.step_with.result)
    (sym (sym c.take.ensures.value ∙ c.in-Some.is)) c.step_with.ensures.ends
