-- The equipment as it is run over a link: it goes on, or a step has stopped it and its device is left.
use Rattle.std.specs.Prelude.{Bool, ℕ, List, Option, Some, None, is_some}
use Rattle.disk_base.specs.declared.disk.Disk as disk
use Rattle.message_flow.specs.declared.step.StepOut.{StepOut}
use Rattle.spool_file.specs.Format.{empty_file}
use Rattle.spool_slots.specs.declared.states.Spent.{Spent}
use Rattle.trace_log.specs.declared.commands.ToolCommand.{ToolCommand}
use Rattle.message_end.specs.declared.end.Stop.{Stop}
use Rattle.message_end.specs.Ends.{Input}
use Rattle.spool_works.specs.declared.ended.Ended.{Ended}
use Rattle.spool_works.specs.declared.ended.Ended.TheVariants as ended
use Rattle.equipment_node.specs.declared.equipment.Starting.{Starting}
use Rattle.equipment_node.specs.declared.equipment.Starting.TheVariants as starting
use Rattle.tool_step.specs.Equipment.{EquipmentView, started_on}
use Rattle.gem_recipes.specs.declared.no_recipes.NoRecipes.{NoRecipes}
use Rattle.gem_recipes.specs.contracts.no_recipes.NoRecipesRecipeKeeper.TheImpl.{ghosts as keepers}
use Rattle.equipment_node.specs.Held.{Held, IsIn, view_in}
use Rattle.equipment_node.specs.Stepping.{HasLeft}
use Rattle.tool_step.specs.WorkedSpool.{plan_with}
use Rattle.end_run.specs.Counts.{Device}
use Rattle.gemline_app.specs.declared.equipment.LinkedEquipment.{LinkedEquipment}
use Rattle.gemline_app.specs.declared.outcome.Outcome.{Outcome}
use Rattle.gemline_app.specs.declared.outcome.Outcome.TheVariants.{DiskFailed, NoMemory, NotSpool, NumbersSpent}

-- of one that has stopped nothing is known: some state stands for it
unfoldable pub nowhere : EquipmentView
nowhere = (started_on (plan_with 0 0) (empty_file 0)).next

-- of one that offers a host no recipes: its state, and that it is known where its disk tells its bytes
abbrev pub tool_view : {D : Type 0} → disk.Ghosts D → Held D NoRecipes → EquipmentView
tool_view members h = view_in members keepers h

abbrev pub IsTool : {D : Type 0} → disk.Ghosts D → Held D NoRecipes → Type 0
IsTool members h = IsIn members keepers h

abbrev pub linked_view : {D : Type 0} → disk.Ghosts D → Option (Held D NoRecipes) → EquipmentView
linked_view members None = nowhere
linked_view members (Some h) = tool_view members h

-- one that goes on is known
abbrev pub IsGoing : {D : Type 0} → disk.Ghosts D → Option (Held D NoRecipes) → Type 0
IsGoing members None = ⊥
IsGoing members (Some h) = IsTool members h

-- it goes on, or its device is left
abbrev pub HoldsOne : {D : Type 0} → Option (Held D NoRecipes) → Option (Spent D) → Type 0
HoldsOne None None = ⊥
HoldsOne None (Some spent) = Unit {0}
HoldsOne (Some h) None = Unit {0}
HoldsOne (Some h) (Some spent) = ⊥

-- a step has stopped it, and the device holds what that may leave
abbrev pub IsLeftSo :
    {D : Type 0} → disk.Ghosts D → EquipmentView → Input ToolCommand → ℕ → StepOut → Stop → Option (Spent D) → Type 0
IsLeftSo members s input now out why None = ⊥
IsLeftSo members s input now out why (Some spent) = HasLeft members s input now out spent why

-- the same of the value
abbrev pub IsKnown : {D : Type 0} → disk.Ghosts D → LinkedEquipment D → Type 0
IsKnown members linked = IsGoing members linked.going

abbrev pub LeavesDevice :
    {D : Type 0} → disk.Ghosts D → EquipmentView → Input ToolCommand → ℕ → StepOut → Stop → LinkedEquipment D → Type 0
LeavesDevice members s input now out why linked = IsLeftSo members s input now out why linked.spent

-- the device that it has, or that is left
abbrev pub disk_in : {D : Type 0} → Option (Held D NoRecipes) → Option (Spent D) → Option D
disk_in None None = None
disk_in None (Some spent) = Some spent.disk
disk_in (Some h) spent = Some h.spool.spool.disk

-- which disk it is, which file it has, and whether it tells its bytes, no step changes
abbrev pub Fixed : Type 0
Fixed = Option (ℕ × Option (List ℕ) × Bool)

abbrev pub device_of : {D : Type 0} → disk.Ghosts D → D → Device Fixed
device_of members d =
    record {
      faults = (members.health d).faults;
      fixed = Some (members.name d, members.file_is d, is_some (members.told d));
    }

abbrev pub device_by : {D : Type 0} → disk.Ghosts D → Option D → Device Fixed
device_by members None = record { faults = 0; fixed = None }
device_by members (Some d) = device_of members d

-- what a step leaves of one that it stops, and what a start leaves
abbrev pub spent_by : {D : Type 0} → Ended D → Spent D
spent_by (ended.NoMemory spent) = spent
spent_by (ended.DiskFailed spent) = spent
spent_by (ended.NumbersSpent spent) = spent

abbrev pub unstarted_disk : {D : Type 0} → Starting D NoRecipes → D
unstarted_disk (starting.NoMemory spent keeper) = spent.disk
unstarted_disk (starting.NotSpool raw place keeper) = raw.disk
unstarted_disk (starting.DiskFailed spent keeper) = spent.disk
unstarted_disk (starting.NumbersSpent spent keeper) = spent.disk

-- what a start that is refused comes to
abbrev pub outcome_of_start : {D : Type 0} → Starting D NoRecipes → Outcome
outcome_of_start (starting.NoMemory spent keeper) = NoMemory
outcome_of_start (starting.NotSpool raw place keeper) = NotSpool place.at
outcome_of_start (starting.DiskFailed spent keeper) = DiskFailed
outcome_of_start (starting.NumbersSpent spent keeper) = NumbersSpent
