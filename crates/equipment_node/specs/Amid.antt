-- What the code says of the pieces of a step over the disk.
use Rattle.std.specs.Prelude.{◌≡◌, ◌⊎◌, ℕ, Bool, true, All, is_some, List, [], ◌∷◌, map, Option, Some, None, Result, Ok}
use Rattle.std.specs.Prelude.{Err, if◌then◌else◌}
use Rattle.disk_base.specs.Story.{Story}
use Rattle.disk_base.specs.Through.{EachImage}
use Rattle.disk_base.specs.declared.disk.Disk as disk
use Rattle.gem_spool.specs.declared.spool.GemSpool.{GemSpool}
use Rattle.gem_spool.specs.declared.works.Work.{Work}
use Rattle.gem_spool.specs.Standing.{Standing, count_of}
use Rattle.gem_spool.specs.Works.{IsMarked, counts_after}
use Rattle.message_flow.specs.declared.step.StepOut.{StepOut}
use Rattle.setup_store.specs.OnDisk.{HoldsKept}
use Rattle.spool_file.specs.File.{file_in}
use Rattle.spool_file.specs.Slot.{width}
use Rattle.spool_slots.specs.Spool.{SpoolView}
use Rattle.spool_slots.specs.declared.states.Spent.{Spent}
use Rattle.trace_log.specs.declared.commands.ToolCommand.{ToolCommand}
use Rattle.trace_log.specs.Log.{Happening}
use Rattle.trace_log.specs.Names.{Spooled}
use Rattle.trace_log.specs.Text.{printed_note}
use Rattle.message_end.specs.declared.end.Stop.{Stop}
use Rattle.message_end.specs.declared.end.Stop.TheVariants as stop
use Rattle.message_end.specs.Core.{Step, at_first, step_in}
use Rattle.message_end.specs.Core.Went.{Goes, Spent as SpentAt}
use Rattle.message_end.specs.Ends.{Input, printed}
use Rattle.message_end.specs.Parts.{Node, after_parts, closes, on_the_way}
use Rattle.equipment_tables.specs.declared.plan.EquipmentPlan.{EquipmentPlan}
use Rattle.equipment_tables.specs.Plan.{EquipmentPlanFits}
use Rattle.equipment_tables.specs.Tables.{most_transmitted}
use Rattle.spool_ledger.specs.Ledger.{IsSome, LedgerView, carried_out, stood_count}
use Rattle.spool_ledger.specs.Sizes.{AreSizedBy, all_sizes_after}
use Rattle.spool_ledger.specs.Unloading.{after_next}
use Rattle.spool_works.specs.Owed.{CarriesOwed}
use Rattle.spool_works.specs.declared.ended.Ended.{Ended}
use Rattle.spool_works.specs.declared.ended.Ended.TheVariants as ended
use Rattle.tool_step.specs.declared.kind.Kind.{Kind}
use Rattle.tool_core.specs.Calls.{IsSpent}
use Rattle.equipment_node.specs.Cut.{cut_at}
use Rattle.tool_step.specs.Disk.{reserve_works, standing_in, takes_up}
use Rattle.spool_works.specs.DiskWorks.DiskWork.{Reserve}
use Rattle.tool_step.specs.Equipment.{EquipmentView, act, begun_step, ended_step, needs_numbers, reserved, reserving}
use Rattle.tool_step.specs.Equipment.{served_own, served_step, settled_own}
use Rattle.tool_step.specs.Left.{Holds}
use Rattle.tool_step.specs.Setup.{to_keep}
use Rattle.tool_step.specs.Own.{OwnView, ToolPart, with_ledger}
use Rattle.tool_step.specs.Recipes.{RecipesView, owes_recipes}
use Rattle.tool_step.specs.Spooling.{end_of_spooling}
use Rattle.tool_step.specs.Step.{answering, offer}
use Rattle.tool_step.specs.Taking.{taking}
use Rattle.tool_law.specs.Sound.{CanBeSent, IsSound}
use Rattle.equipment_node.specs.Stepping.{IsClear, IsTold, Steps}

-- ---- before a step

-- what is kept beside the core is sound, by some plan
pub record IsSoundOwn (own : OwnView) : Type 0 where
  pub plan : EquipmentPlan
  pub fits : EquipmentPlanFits plan
  pub sound : IsSound plan own.ledger.slots own.ledger.stood own

-- the messages in hand take so many slots each, where the disk tells its bytes
abbrev pub HasSizes : {D : Type 0} → disk.Ghosts D → SpoolView D → List ℕ → Type 0
HasSizes members v sizes = (s : Story) → members.told v.disk ≡ Some s → map width (file_in s.now.bytes).list ≡ sizes

-- the spool in hand has the messages that its ledger takes the disk to have: as many, of these sizes
pub record IsCounted {D : Type 0} (members : disk.Ghosts D) (v : SpoolView D) (ledger : LedgerView) : Type 0 where
  pub count : count_of v ≡ stood_count ledger
  pub sizes : HasSizes members v ledger.stood.sizes
  pub some : All IsSome ledger.stood.sizes

-- so it has, what its cell says of a setup holds, and what is kept is sound: so it is between two steps, whatever its
-- disk tells
pub record IsReady {D : Type 0} (members : disk.Ghosts D) (v : SpoolView D) (node : Node OwnView Kind) : Type 0 where
  pub counted : IsCounted members v node.own.ledger
  pub holds : HoldsKept members v
  pub sound : IsSoundOwn node.own

-- ---- system bytes

-- with more of them, where few are left
abbrev pub opened : EquipmentView → EquipmentView
opened s = if needs_numbers s then reserved s else s

pub record HasOpened
    {D : Type 0} (members : disk.Ghosts D) (s : EquipmentView) (node : Node OwnView Kind) (g : GemSpool D)
    : Type 0 where
  pub went : reserving s ≡ Goes (at_first (opened s))
  pub node_is : node ≡ (opened s).node
  pub clear : IsClear members g.spool (opened s)
  -- a setup is kept where the file has an area
  pub area : is_some s.node.own.setup ≡ is_some (opened s).file.setup.bytes
  pub told : IsTold (members.told g.spool.disk)

-- the disk holds this, whatever a crash leaves, where it tells its bytes
abbrev pub Keeps : {D : Type 0} → disk.Ghosts D → Spent D → Standing → Type 0
Keeps members spent st = (t : Story) → members.told spent.disk ≡ Some t → Holds st t.now

abbrev pub Opens :
    {D : Type 0} → disk.Ghosts D → EquipmentView → Node OwnView Kind → Result (GemSpool D) (Ended D) → Type 0
Opens members s node (Ok g) = HasOpened members s node g
Opens members s node (Err (ended.NumbersSpent spent)) =
    (reserving s ≡ SpentAt (at_first s)) × Keeps members spent (standing_in s)
Opens members s node (Err (ended.DiskFailed spent)) =
    (reserve_works s ≡ Reserve ∷ [])
    × ((t : Story) → members.told spent.disk ≡ Some t → EachImage (IsMarked (standing_in s)) t.now)
Opens members s node (Err (ended.NoMemory spent)) = ⊥

-- ---- what was begun

-- all that is due and given is done
pub record IsBegun (s : EquipmentView) (input : Input ToolCommand) (now : ℕ) (node : Node OwnView Kind) (out : StepOut)
    : Type 0 where
  pub step : Step EquipmentView Happening
  pub is : begun_step s input now ≡ Goes step
  pub node_is : step.next.node ≡ node
  pub file : step.next.file ≡ (opened s).file
  pub recipes : step.next.recipes ≡ s.recipes
  pub notes : out.notes ≡ printed step.notes
  pub written : out.line.items ≡ step.written

-- a number was wanting
pub record IsBegunSpent
    (s : EquipmentView) (input : Input ToolCommand) (now : ℕ) (node : Node OwnView Kind) (out : StepOut)
    : Type 0 where
  pub step : Step EquipmentView Happening
  pub is : begun_step s input now ≡ SpentAt step
  pub ledger : step.next.node.own.ledger ≡ node.own.ledger
  pub file : step.next.file ≡ (opened s).file
  pub notes : out.notes ≡ printed step.notes

-- where it stops before its works
abbrev pub StopsAt :
    EquipmentView → Input ToolCommand → ℕ → Node OwnView Kind → StepOut → Stop → Type 0
StopsAt s input now node out stop.NumbersSpent = IsBegunSpent s input now node out
StopsAt s input now node out stop.Full = ⊥
StopsAt s input now node out stop.DiskFailed = ⊥
StopsAt s input now node out stop.NoMemory = Unit {0}

-- ---- the works

-- they fit the disk's list: a drop frees the slots of its message, and they come to the list as it is decided
pub record WorksFit (ledger : LedgerView) : Type 0 where
  pub sized : AreSizedBy ledger.stood.sizes ledger.works
  pub come_to : counts_after (stood_count ledger) ledger.works ≡ stood_count (carried_out ledger)
  pub leave : all_sizes_after ledger.stood.sizes ledger.works ≡ ledger.sizes

abbrev pub settled_node : Node OwnView Kind → Node OwnView Kind
settled_node node = record node { own = settled_own node.own }

-- the bytes of a setup that are to be kept with them, if they are
abbrev pub setup_if : Bool → OwnView → Option (List ℕ)
setup_if keeps own = if keeps then to_keep own else None

-- the disk failed at one of them, and the notes end with its line
pub record HasCut
    {D : Type 0} (members : disk.Ghosts D) (g : GemSpool D) (works : List Work) (setup : Option (List ℕ))
    (out_old out_new : StepOut) (spent : Spent D) : Type 0 where
  pub at : ℕ
  pub undone : CarriesOwed members g works setup (Err (record { at = at; spent = spent }))
  pub notes : out_new.notes ≡ cut_at at out_old.notes

abbrev pub Carries :
    {D : Type 0} → disk.Ghosts D → GemSpool D → List Work → Option (List ℕ) → StepOut → StepOut
    → Result (GemSpool D) (Ended D) → Type 0
Carries members g works setup out_old out_new (Ok h) = CarriesOwed members g works setup (Ok h) × (out_new ≡ out_old)
Carries members g works setup out_old out_new (Err (ended.DiskFailed spent)) =
    HasCut members g works setup out_old out_new spent
Carries members g works setup out_old out_new (Err (ended.NumbersSpent spent)) = ⊥
Carries members g works setup out_old out_new (Err (ended.NoMemory spent)) = ⊥

-- ---- what comes behind them

-- what was read can be sent
abbrev pub IsSendable : Option (ℕ × Spooled) → Type 0
IsSendable None = Unit {0}
IsSendable (Some oldest) = CanBeSent oldest.1

-- the number of the next message was asked for
abbrev pub asked_node : Node OwnView Kind → Node OwnView Kind
asked_node node =
    record node { own = with_ledger (after_next (most_transmitted node.own.tables) node.own.ledger) node.own }

-- the last parts, with the oldest message, if it was read
abbrev pub done_last : Option (ℕ × Spooled) → ℕ → List ToolPart
done_last oldest now = answering ∷ taking oldest ∷ end_of_spooling ∷ offer now ∷ closes ∷ []

-- they are done
abbrev pub DoesLast :
    {D : Type 0} → disk.Ghosts D → GemSpool D → List ToolPart → Node OwnView Kind → StepOut → Node OwnView Kind
    → StepOut → Result (GemSpool D) (Ended D) → Type 0
DoesLast members g parts old out_old new out_new (Ok h) =
    (h ≡ g) × (after_parts printed_note parts (on_the_way old out_old) ≡ Goes (on_the_way new out_new))
DoesLast members g parts old out_old new out_new (Err (ended.NumbersSpent spent)) =
    (spent.disk ≡ g.spool.disk) × IsSpent (after_parts printed_note parts (on_the_way old out_old)) new out_new
DoesLast members g parts old out_old new out_new (Err (ended.DiskFailed spent)) = ⊥
DoesLast members g parts old out_old new out_new (Err (ended.NoMemory spent)) = spent.disk ≡ g.spool.disk

-- what the recipes make of it that are kept, where they are asked
abbrev pub served_node : RecipesView → Node OwnView Kind → Node OwnView Kind
served_node kept node = record node { own = served_own kept node.own }

-- the recipes are asked, and then they are done; or the keeper has failed, and nothing was noted by then
abbrev pub ServesLast :
    {D : Type 0} → disk.Ghosts D → RecipesView → GemSpool D → List ToolPart → Node OwnView Kind → StepOut
    → Node OwnView Kind → StepOut → Result (GemSpool D) (Ended D) → Type 0
ServesLast members kept g parts old out_old new out_new (Ok h) =
    DoesLast members g parts (served_node kept old) out_old new out_new (Ok h)
ServesLast members kept g parts old out_old new out_new (Err (ended.NumbersSpent spent)) =
    DoesLast members g parts (served_node kept old) out_old new out_new (Err (ended.NumbersSpent spent))
ServesLast members kept g parts old out_old new out_new (Err (ended.DiskFailed spent)) =
    (spent.disk ≡ g.spool.disk) × (owes_recipes old.own.owed ≡ true) × (out_new.notes ≡ out_old.notes)
ServesLast members kept g parts old out_old new out_new (Err (ended.NoMemory spent)) = spent.disk ≡ g.spool.disk

-- a step so far, as the code has it
pub record IsAt
    {D : Type 0} (members : disk.Ghosts D) (t : Step EquipmentView Happening) (node : Node OwnView Kind) (out : StepOut)
    (g : GemSpool D) : Type 0 where
  pub node_is : node ≡ t.next.node
  pub clear : IsClear members g.spool t.next
  pub told : IsTold (members.told g.spool.disk)
  pub notes : out.notes ≡ printed t.notes
  pub written : out.line.items ≡ t.written

pub record HasEnded
    {D : Type 0} (members : disk.Ghosts D) (now : ℕ) (t : Step EquipmentView Happening) (node : Node OwnView Kind)
    (out : StepOut) (g : GemSpool D) : Type 0 where
  pub step : Step EquipmentView Happening
  pub is : ended_step now t ≡ Goes step
  pub at : IsAt members step node out g

pub record HasEndedSpent
    {D : Type 0} (members : disk.Ghosts D) (now : ℕ) (t : Step EquipmentView Happening) (out : StepOut)
    (spent : Spent D) : Type 0 where
  pub step : Step EquipmentView Happening
  pub is : ended_step now t ≡ SpentAt step
  pub notes : out.notes ≡ printed step.notes
  pub keeps : Keeps members spent (standing_in step.next)

-- the recipes are asked before; where the disk failed the oldest message was to be read, or their keeper has failed
abbrev pub EndsSo :
    {D : Type 0} → disk.Ghosts D → ℕ → Step EquipmentView Happening → Node OwnView Kind → StepOut
    → Result (GemSpool D) (Ended D) → Type 0
EndsSo members now t node out (Ok g) = HasEnded members now (served_step t) node out g
EndsSo members now t node out (Err (ended.NumbersSpent spent)) = HasEndedSpent members now (served_step t) out spent
EndsSo members now t node out (Err (ended.DiskFailed spent)) =
    ((takes_up t.next.node.own ≡ true) ⊎ (owes_recipes t.next.node.own.owed ≡ true))
    × (out.notes ≡ printed t.notes) × Keeps members spent (standing_in t.next)
EndsSo members now t node out (Err (ended.NoMemory spent)) = Keeps members spent (standing_in t.next)

-- ---- all of it

pub record HasActed
    {D : Type 0} (members : disk.Ghosts D) (s : EquipmentView) (input : Input ToolCommand) (now : ℕ)
    (node : Node OwnView Kind) (out : StepOut) (g : GemSpool D)
    : Type 0 where
  pub step : Step EquipmentView Happening
  pub is : act s input now ≡ Goes step
  pub at : IsAt members step node out g

-- as it leaves a step, once the characters of one that has stopped are taken away
abbrev pub Acts :
    {D : Type 0} → disk.Ghosts D → EquipmentView → Input ToolCommand → ℕ → Node OwnView Kind → StepOut
    → Result (GemSpool D) (Ended D) → Type 0
Acts members s input now node out (Ok g) = HasActed members s input now node out g
Acts members s input now node out (Err end) =
    (after : StepOut) → after.notes ≡ out.notes → after.line.items ≡ []
    → Steps members s input now node after (Err end)

-- ---- what comes before the last parts

-- a spool in hand, with the oldest message, where it is to be taken up
abbrev pub Worked : Type 0 → Type 0
Worked D = GemSpool D × Option (ℕ × Spooled)

abbrev pub disk_worked : {D : Type 0} → Worked D → D
disk_worked worked = worked.0.spool.disk

-- the step ends so by whatever the recipes and the last parts come to
-- (what is asked of the recipes stays)
abbrev pub ReadsSo :
    {D : Type 0} → disk.Ghosts D → ℕ → Step EquipmentView Happening → Node OwnView Kind → StepOut
    → Result (Worked D) (Ended D) → Type 0
ReadsSo {D} members now t node out (Ok worked) =
    (node.own.owed ≡ t.next.node.own.owed)
    × ((new : Node OwnView Kind) → (after : StepOut) → (result : Result (GemSpool D) (Ended D))
    → ServesLast members t.next.recipes worked.0 (done_last worked.1 now) node out new after result
    → EndsSo members now t new after result)
ReadsSo members now t node out (Err end) = EndsSo members now t node out (Err end)

-- and all of it is so
abbrev pub WorksSo :
    {D : Type 0} → disk.Ghosts D → EquipmentView → Input ToolCommand → ℕ → Node OwnView Kind → StepOut
    → Result (Worked D) (Ended D) → Type 0
WorksSo {D} members s input now node out (Ok worked) =
    (node.own.owed ≡ (step_in (begun_step s input now)).next.node.own.owed)
    × ((new : Node OwnView Kind) → (after : StepOut) → (result : Result (GemSpool D) (Ended D))
    → ServesLast members s.recipes worked.0 (done_last worked.1 now) node out new after result
    → Acts members s input now new after result)
WorksSo members s input now node out (Err end) = Acts members s input now node out (Err end)
