-- The equipment that is going makes the step. One that has stopped isn't known, so its step owes nothing.

use Rattle.std.proofs.Common.{ap, false, sym, subst, ◌∙◌, Option}
use Rattle.message_end.specs.Ends.{Leaves, Uses, input_of, none_asked}
use Rattle.gem_recipes.specs.declared.no_recipes.NoRecipes.{NoRecipes}
use Rattle.equipment_node.specs.Held.{Held}
use Rattle.end_run.specs.Counts.{StepCounts}
use Rattle.end_run.specs.Scenes.{Stays}
use Rattle.gemline_app.specs.Equipment.{linked_machine}
use Rattle.gemline_app.specs.LinkedEquipment.{HoldsOne, IsKnown, LeavesDevice, device_by, disk_in, linked_view}
use Rattle.gemline_app.proofs.Equipping.{alone, none_going, not_going, under}
use Rattle.gemline_app.proofs.equipment.LinkedEquipmentLinkedEnd.step.Goals as goal

pub step_with-requires-clause-none_left : goal.step_with-requires-clause-none_left
step_with-requires-clause-none_left g c =
    alone g.D.Disk c.args.self.now.going c.in-Some.equipment c.args.self.now.spent
    (sym c.take.ensures.value ∙ c.in-Some.is) c.requires.sound

pub returns-in-Some-clause-step : goal.returns-in-Some-clause-step
returns-in-Some-clause-step g c known =
    under g.D.Disk c.args.self.now.going c.in-Some.equipment
    (λ (o : Option (Held _ NoRecipes)).
    Leaves (linked_machine.stops (linked_view g.D.Disk o) (input_of c.args.input) c.args.now) false
    (linked_machine.act (linked_view g.D.Disk o) (input_of c.args.input) c.args.now)
    (linked_view g.D.Disk c.step_with.new.self.going) c.step_with.new.out c.step_with.result)
    (sym c.take.ensures.value ∙ c.in-Some.is) c.step_with.ensures.step known

pub returns-in-Some-clause-end : goal.returns-in-Some-clause-end
returns-in-Some-clause-end g c known =
    under g.D.Disk c.args.self.now.going c.in-Some.equipment
    (λ (o : Option (Held _ NoRecipes)).
    Stays (IsKnown g.D.Disk) (LeavesDevice g.D.Disk) (linked_view g.D.Disk o) (input_of c.args.input) c.args.now
    c.step_with.new.out c.step_with.new.self c.step_with.result)
    (sym c.take.ensures.value ∙ c.in-Some.is) c.step_with.ensures.end known

pub returns-in-Some-clause-room : goal.returns-in-Some-clause-room
returns-in-Some-clause-room g c known =
    under g.D.Disk c.args.self.now.going c.in-Some.equipment
    (λ (o : Option (Held _ NoRecipes)).
    Uses none_asked (linked_machine.asks (linked_view g.D.Disk o) (input_of c.args.input) c.args.now) none_asked
    c.step_with.result)
    (sym c.take.ensures.value ∙ c.in-Some.is) c.step_with.ensures.room known

pub returns-in-Some-clause-device : goal.returns-in-Some-clause-device
returns-in-Some-clause-device g c =
    subst
    (λ (o : Option (Held _ NoRecipes)).
    StepCounts (device_by g.D.Disk (disk_in o c.args.self.now.spent))
    (device_by g.D.Disk (disk_in c.step_with.new.self.going c.step_with.new.self.spent)) c.step_with.result)
    (sym (sym c.take.ensures.value ∙ c.in-Some.is)) c.step_with.ensures.device

pub returns-in-None-clause-step : goal.returns-in-None-clause-step
returns-in-None-clause-step g c known =
    not_going g.D.Disk c.args.self.now.going (sym c.take.ensures.value ∙ c.in-None.is) known

pub returns-in-None-clause-end : goal.returns-in-None-clause-end
returns-in-None-clause-end g c known =
    not_going g.D.Disk c.args.self.now.going (sym c.take.ensures.value ∙ c.in-None.is) known

pub returns-in-None-clause-room : goal.returns-in-None-clause-room
returns-in-None-clause-room g c known =
    not_going g.D.Disk c.args.self.now.going (sym c.take.ensures.value ∙ c.in-None.is) known

pub returns-in-None-clause-device : goal.returns-in-None-clause-device
returns-in-None-clause-device g c =
    ap (λ (o : Option (Held _ NoRecipes)). device_by g.D.Disk (disk_in o c.args.self.now.spent))
    (c.take.ensures.after ∙ sym (sym c.take.ensures.value ∙ c.in-None.is))

pub returns-in-None-clause-sound : goal.returns-in-None-clause-sound
returns-in-None-clause-sound g c =
    subst (λ (o : Option (Held _ NoRecipes)). HoldsOne o c.args.self.now.spent) (sym c.take.ensures.after)
    (none_going g.D.Disk c.args.self.now.going c.args.self.now.spent (sym c.take.ensures.value ∙ c.in-None.is)
    c.requires.sound)
