-- A step that goes on, and one that stops: what each leaves of the end, of its room and of its device.

use Rattle.std.proofs.Common.{Ok, Err, ◌∙◌}
use Rattle.message_end.specs.Ends.{input_of}
use Rattle.gem_recipes.specs.declared.no_recipes.NoRecipes.{NoRecipes}
use Rattle.equipment_node.specs.DiskCalls.{disk_held}
use Rattle.equipment_node.specs.Held.{keeper_of, of_disk}
use Rattle.tool_core.specs.Node.{node_of}
use Rattle.gemline_app.specs.LinkedEquipment.{linked_view, tool_view}
use Rattle.gemline_app.proofs.Equipping.{by_disk_alone, kept_device, stopped_device, stopped_holds, stopped_leaves, stopped_left, uses_one}
use Rattle.gemline_app.proofs.equipment.LinkedEquipment.step_with.Goals as goal

pub returns-in-Ok-clause-step : goal.returns-in-Ok-clause-step
returns-in-Ok-clause-step g c known = (c.in-Ok.ensures.moves known).gone

pub returns-in-Ok-clause-end : goal.returns-in-Ok-clause-end
returns-in-Ok-clause-end g c known = (c.in-Ok.ensures.moves known).in_state

pub returns-in-Ok-clause-room : goal.returns-in-Ok-clause-room
returns-in-Ok-clause-room g c known = uses_one (Ok tt)

pub returns-in-Ok-clause-device : goal.returns-in-Ok-clause-device
returns-in-Ok-clause-device g c =
    kept_device g.D.Disk c.args.equipment.spool.spool.disk c.in-Ok.equipment.spool.spool.disk
    c.in-Ok.ensures.back.0

pub returns-in-Err-clause-step : goal.returns-in-Err-clause-step
returns-in-Err-clause-step g c known =
    stopped_leaves g.D.Disk (of_disk c.in-Err.ended) c.stop.result c.stop.ensures.why
    (tool_view g.D.Disk c.args.equipment) (input_of c.args.input) c.args.now (node_of c.args.equipment.tool)
    (linked_view g.D.Disk c.stop.new.self.going) c.step.new.out (c.in-Err.ensures.moves known)

pub returns-in-Err-clause-end : goal.returns-in-Err-clause-end
returns-in-Err-clause-end g c known =
    stopped_left g.D.Disk (of_disk c.in-Err.ended) c.stop.result c.stop.ensures.why c.stop.new.self.spent
    c.stop.ensures.spent (tool_view g.D.Disk c.args.equipment) (input_of c.args.input) c.args.now
    (node_of c.args.equipment.tool) c.step.new.out (c.in-Err.ensures.moves known)

pub returns-in-Err-clause-room : goal.returns-in-Err-clause-room
returns-in-Err-clause-room g c known = uses_one (Err c.stop.result)

pub returns-in-Err-clause-device : goal.returns-in-Err-clause-device
returns-in-Err-clause-device g c =
    stopped_device g.D.Disk (of_disk c.in-Err.ended) c.stop.result c.stop.ensures.why c.stop.new.self.spent
    c.stop.ensures.spent c.stop.new.self.going (c.stop.ensures.going ∙ c.requires.gone)
    c.args.equipment.spool.spool.disk
    (by_disk_alone g.D.Disk (disk_held {K = NoRecipes}) c.args.equipment.spool.spool.disk c.args.equipment.keeper
    (keeper_of c.in-Err.ended) (of_disk c.in-Err.ended) c.in-Err.ensures.back)

pub returns-in-Err-clause-sound : goal.returns-in-Err-clause-sound
returns-in-Err-clause-sound g c =
    stopped_holds g.D.Disk (of_disk c.in-Err.ended) c.stop.result c.stop.ensures.why c.stop.new.self.spent
    c.stop.ensures.spent c.stop.new.self.going (c.stop.ensures.going ∙ c.requires.gone)
