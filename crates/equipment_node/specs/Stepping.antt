-- What the code says of a step over the disk.
use Rattle.std.specs.Prelude.{◌≡◌, ℕ, List, [], map, Option, Some, None, Result, Ok, Err}
use Rattle.disk_base.specs.Story.{Story}
use Rattle.disk_base.specs.declared.disk.Disk as disk
use Rattle.gem_spool.specs.declared.spool.GemSpool.{GemSpool}
use Rattle.gem_spool.specs.Standing.{Stands, standing_of}
use Rattle.message_flow.specs.declared.step.StepOut.{StepOut}
use Rattle.spool_file.specs.File.{SpoolFile}
use Rattle.spool_file.specs.Format.{empty_file}
use Rattle.spool_file.specs.Slot.{width}
use Rattle.spool_slots.specs.Spool.{SpoolView}
use Rattle.spool_slots.specs.declared.states.Spent.{Spent}
use Rattle.trace_log.specs.declared.commands.ToolCommand.{ToolCommand}
use Rattle.trace_log.specs.Log.{Happening}
use Rattle.message_end.specs.declared.end.Stop.{Stop}
use Rattle.message_end.specs.declared.end.Stop.TheVariants as stop
use Rattle.message_end.specs.Core.{Step}
use Rattle.message_end.specs.Core.Went.{Goes}
use Rattle.message_end.specs.Doings.{Doing}
use Rattle.message_end.specs.Ends.{HasSpent, HasStopped, Input, printed}
use Rattle.message_end.specs.Parts.{Node}
use Rattle.equipment_tables.specs.declared.plan.EquipmentPlan.{EquipmentPlan}
use Rattle.equipment_tables.specs.Plan.{EquipmentPlanFits}
use Rattle.spool_ledger.specs.Ledger.{carried_out}
use Rattle.spool_works.specs.declared.ended.Ended.{Ended}
use Rattle.spool_works.specs.declared.ended.Ended.TheVariants as ended
use Rattle.tool_step.specs.declared.kind.Kind.{Kind}
use Rattle.tool_step.specs.Disk.{standing_in, stops}
use Rattle.tool_step.specs.Equipment.{EquipmentView, act}
use Rattle.tool_law.specs.Laws.{DidOf}
use Rattle.tool_step.specs.Left as left
use Rattle.tool_step.specs.Own.{OwnView}
use Rattle.tool_step.specs.Recipes.{RecipesView}

-- ---- the spool in hand

-- some doings since a start have made the equipment what it is
pub record IsMade (s : EquipmentView) : Type 0 where
  pub plan : EquipmentPlan
  pub fits : EquipmentPlanFits plan
  pub base : ℕ
  pub doings : List Doing
  pub did : DidOf plan base doings s

-- it is that of this state, and its disk owes nothing
pub record IsClear {D : Type 0} (members : disk.Ghosts D) (v : SpoolView D) (s : EquipmentView) : Type 0 where
  pub stands : Stands members v (standing_in s)
  pub owes : carried_out s.node.own.ledger ≡ s.node.own.ledger
  pub sizes_are : map width s.file.list ≡ s.node.own.ledger.sizes
  pub slots_are : s.file.slots ≡ s.node.own.ledger.slots
  pub version_is : s.file.version ≡ 2

pub record IsOn {D : Type 0} (members : disk.Ghosts D) (v : SpoolView D) (s : EquipmentView) : Type 0 where
  pub clear : IsClear members v s
  pub made : IsMade s

-- the disk tells its bytes
abbrev pub IsTold : Option Story → Type 0
IsTold told = (s : Story) × (told ≡ Some s)

-- ---- what a step comes to

pub record HasStepped
    {D : Type 0} (members : disk.Ghosts D) (s : EquipmentView) (input : Input ToolCommand) (now : ℕ)
    (node : Node OwnView Kind) (out : StepOut) (g : GemSpool D)
    : Type 0 where
  pub step : Step EquipmentView Happening
  pub is : act s input now ≡ Goes step
  pub node_is : step.next.node ≡ node
  pub on : IsOn members g.spool step.next
  pub told : IsTold (members.told g.spool.disk)
  pub notes : out.notes ≡ printed step.notes
  pub written : out.line.items ≡ step.written

-- where it ends early, its device holds what it may hold then
abbrev pub HasLeft :
    {D : Type 0} → disk.Ghosts D → EquipmentView → Input ToolCommand → ℕ → StepOut → Spent D → Stop → Type 0
HasLeft members s input now out spent stop =
    (t : Story) → members.told spent.disk ≡ Some t → left.Leaves s input now out t.now stop

abbrev pub Steps :
    {D : Type 0} → disk.Ghosts D → EquipmentView → Input ToolCommand → ℕ → Node OwnView Kind → StepOut
    → Result (GemSpool D) (Ended D) → Type 0
Steps members s input now node out (Ok g) = HasStepped members s input now node out g
Steps members s input now node out (Err (ended.NumbersSpent spent)) =
    HasSpent (act s input now) out × HasLeft members s input now out spent stop.NumbersSpent
Steps members s input now node out (Err (ended.DiskFailed spent)) =
    HasStopped (stops s input now) (act s input now) out × HasLeft members s input now out spent stop.DiskFailed
Steps members s input now node out (Err (ended.NoMemory spent)) =
    (out.line.items ≡ []) × HasLeft members s input now out spent stop.NoMemory

-- ---- an equipment with its spool, or one that has stopped

-- of one that has stopped nothing is said of the file
abbrev pub file_held : {D : Type 0} → disk.Ghosts D → Option (GemSpool D) → SpoolFile
file_held members None = empty_file 0
file_held members (Some g) = (standing_of members g.spool).file

-- its state, with these recipes
abbrev pub view_of :
    {D : Type 0} → disk.Ghosts D → Node OwnView Kind → Option (GemSpool D) → RecipesView → EquipmentView
view_of members node spool kept = record { node = node; file = file_held members spool; recipes = kept }

-- why it has stopped
abbrev pub stop_by : {D : Type 0} → Ended D → Stop
stop_by (ended.NoMemory spent) = stop.NoMemory
stop_by (ended.DiskFailed spent) = stop.DiskFailed
stop_by (ended.NumbersSpent spent) = stop.NumbersSpent
