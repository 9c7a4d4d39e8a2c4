use Rattle.disk_base.specs.contracts.mem_disk.MemDiskDisk.TheImpl.{ghosts}
use Rattle.message_end.specs.Ends.{input_of}
use Rattle.tool_step.specs.Disk.{stops}
use Rattle.tool_step.specs.Equipment.{act}
use Rattle.gem_recipes.specs.contracts.no_recipes.NoRecipesRecipeKeeper.TheImpl.{ghosts as no_keepers}
use Rattle.equipment_node.specs.Held.{keeper_of, of_disk, view_in}
use Rattle.equipment_node.specs.InMemory.{reach_in, state_in}
use Rattle.tool_core.specs.Node.{node_of}
use Rattle.equipment_node.proofs.Seated.{stops-by}
use Rattle.equipment_node.proofs.StepEnds.{err-ends, err-whole, ok-ends, ok-whole, told-leaves}
use Rattle.equipment_node.proofs.in_memory.EquipmentEnd.step_with.Goals as goal

pub returns-in-Ok-clause-step : goal.returns-in-Ok-clause-step
returns-in-Ok-clause-step c = (c.in-Ok.ensures.moves c.requires.power.in_state).gone

pub returns-in-Err-clause-step : goal.returns-in-Err-clause-step
returns-in-Err-clause-step c =
    let was = view_in ghosts no_keepers c.args.equipment in
    let next = state_in ghosts c.args.self.now.plan c.args.self.now.going in
    let fronts = stops was (input_of c.args.input) c.args.now in
    let went = act was (input_of c.args.input) c.args.now in
    told-leaves fronts went next c.step.new.out (of_disk c.in-Err.ended) c.left_by-lost.result.1
    c.left_by-lost.ensures.stop
    (stops-by ghosts was (input_of c.args.input) c.args.now (node_of c.args.equipment.tool) next c.step.new.out
    (of_disk c.in-Err.ended) (c.in-Err.ensures.moves c.requires.power.in_state))

pub returns-in-Ok-clause-ends : goal.returns-in-Ok-clause-ends
returns-in-Ok-clause-ends c =
    ok-ends c.args.self.now.plan c.args.equipment c.requires.power (input_of c.args.input) c.args.now c.step.new.out
    c.in-Ok.equipment (c.in-Ok.ensures.moves c.requires.power.in_state)
    (c.in-Ok.ensures.breaks c.requires.power.in_state) c.stops_in.ensures.fitted c.args.self.now.lost c.requires.none

pub returns-in-Ok-clause-sound : goal.returns-in-Ok-clause-sound
returns-in-Ok-clause-sound c =
    ok-whole c.args.self.now.plan c.args.equipment c.requires.power (input_of c.args.input) c.args.now c.step.new.out
    c.in-Ok.equipment (c.in-Ok.ensures.moves c.requires.power.in_state)
    (c.in-Ok.ensures.breaks c.requires.power.in_state) c.stops_in.ensures.fitted c.args.self.now.lost c.requires.none

pub returns-in-Err-clause-ends : goal.returns-in-Err-clause-ends
returns-in-Err-clause-ends c =
    err-ends c.args.self.now.plan c.args.equipment c.requires.power (input_of c.args.input) c.args.now c.step.new.out
    (of_disk c.in-Err.ended) c.left_by-lost.result.0 c.left_by-lost.ensures.lost c.left_by-lost.ensures.images
    c.args.self.now.going c.requires.gone c.args.equipment.keeper (keeper_of c.in-Err.ended)
    (c.in-Err.ensures.breaks c.requires.power.in_state) (c.in-Err.ensures.calls c.requires.power.in_state)
    c.left_by-lost.ensures.fitted (reach_in c.args.self.now.going c.args.self.now.unmet) c.left_by-lost.result.1
    c.left_by-lost.ensures.stop

pub returns-in-Err-clause-sound : goal.returns-in-Err-clause-sound
returns-in-Err-clause-sound c =
    err-whole c.args.self.now.plan c.args.equipment c.requires.power (input_of c.args.input) c.args.now c.step.new.out
    (of_disk c.in-Err.ended) c.left_by-lost.result.0 c.left_by-lost.ensures.lost c.left_by-lost.ensures.images
    c.args.self.now.going c.requires.gone c.args.equipment.keeper (keeper_of c.in-Err.ended)
    (c.in-Err.ensures.breaks c.requires.power.in_state) (c.in-Err.ensures.calls c.requires.power.in_state)
    c.left_by-lost.ensures.fitted
