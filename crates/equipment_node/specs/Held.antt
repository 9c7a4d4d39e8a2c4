-- The equipment over its disk as a value of the program, and what the code says of it as a whole.
use Rattle.std.specs.Prelude.{◌≡◌, ◌⊎◌, refl, ℕ, ◌<◌, Bool, true, All, List, [], Some, None, Result, Ok, Err}
use Rattle.std.specs.Coded.{Coded, code_by, coded×, coded_bool}
use Rattle.disk_base.specs.Story.{Story, with_sync}
use Rattle.disk_base.specs.Through.{EachImage}
use Rattle.disk_base.specs.declared.disk.Disk as disk
use Rattle.gem_spool.specs.declared.spool.GemSpool.{GemSpool}
use Rattle.message_flow.specs.declared.step.StepOut.{StepOut}
use Rattle.spool_file.specs.File.{SpoolFile, StandsFor, file_in, spool_break}
use Rattle.spool_file.specs.Reading.{IsBreak}
use Rattle.spool_file.specs.declared.reading.NotSpool.{NotSpool}
use Rattle.spool_slots.specs.Files.{upgraded, with_mark_moved}
use Rattle.spool_slots.specs.Spool.{SpoolView, spool_code}
use Rattle.spool_slots.specs.declared.states.Recovering.{Recovering}
use Rattle.spool_slots.specs.declared.states.Recovering.TheVariants as recovering
use Rattle.trace_log.specs.declared.commands.ToolCommand.{ToolCommand}
use Rattle.message_end.specs.Ends.{HasGone, Input, IsEmpty}
use Rattle.equipment_tables.specs.declared.plan.EquipmentPlan.{EquipmentPlan}
use Rattle.spool_works.specs.declared.ended.Ended.{Ended as DiskEnded}
use Rattle.spool_works.specs.declared.ended.Ended.TheVariants as disk_ended
use Rattle.gem_recipes.specs.declared.keeper.RecipeKeeper as keeper
use Rattle.gem_recipes.specs.declared.no_recipes.NoRecipes.{NoRecipes}
use Rattle.equipment_node.specs.declared.ended.Ended.{Ended}
use Rattle.equipment_node.specs.declared.ended.Ended.TheVariants as ended
use Rattle.equipment_node.specs.declared.equipment.Starting.{Starting}
use Rattle.equipment_node.specs.declared.equipment.Starting.TheVariants as starting
use Rattle.tool_core.specs.declared.own.Tool.{Tool}
use Rattle.tool_step.specs.Equipment.{EquipmentView, act, is_marked_out}
use Rattle.tool_core.specs.Node.{node_of}
use Rattle.tool_law.specs.Sound.{AllCanBeSent}
use Rattle.equipment_node.specs.Keeping.{TellsOffered, offered_by, recipes_of, starts_with}
use Rattle.equipment_node.specs.StartSetup.{setup_break, start_break}
use Rattle.equipment_node.specs.Stepping.{IsOn, IsTold, Steps, view_of}

-- the tool, the spool in hand, and the keeper of its recipes
pub record Held (D K : Type 0) : Type 0 where
  pub tool : Tool
  pub spool : GemSpool D
  pub keeper : K

abbrev pub held_code : {D K : Type 0} → Coded Tool → Coded D → Coded K → Coded (Held D K)
held_code {D} {K} tool code kept =
    code_by (Tool × ((SpoolView D × Bool) × K)) (coded× tool (coded× (coded× (spool_code code) coded_bool) kept))
    (λ h. (h.tool, ((h.spool.spool, h.spool.active), h.keeper)))
    (λ p. record { tool = p.0; spool = record { spool = p.1.0.0; active = p.1.0.1 }; keeper = p.1.1 })
    (λ _. refl)

abbrev pub view_in : {D K : Type 0} → disk.Ghosts D → keeper.Ghosts K → Held D K → EquipmentView
view_in members keepers h = view_of members (node_of h.tool) (Some h.spool) (recipes_of keepers h.keeper)

-- it is in this state, of which its disk tells, and its keeper where a host is offered recipes
pub record IsIn {D K : Type 0} (members : disk.Ghosts D) (keepers : keeper.Ghosts K) (h : Held D K) : Type 0 where
  pub on : IsOn members h.spool.spool (view_in members keepers h)
  pub told : IsTold (members.told h.spool.spool.disk)
  pub kept : TellsOffered keepers h.keeper

-- ---- how it stops

-- by what the disk hands back
abbrev pub of_disk : {D K : Type 0} → Ended D K → DiskEnded D
of_disk (ended.NoMemory spent keeper) = disk_ended.NoMemory spent
of_disk (ended.DiskFailed spent keeper) = disk_ended.DiskFailed spent
of_disk (ended.NumbersSpent spent keeper) = disk_ended.NumbersSpent spent

abbrev pub keeper_of : {D K : Type 0} → Ended D K → K
keeper_of (ended.NoMemory spent keeper) = keeper
keeper_of (ended.DiskFailed spent keeper) = keeper
keeper_of (ended.NumbersSpent spent keeper) = keeper

abbrev pub by_disk : {D K : Type 0} → Result (Held D K) (Ended D K) → Result (Held D K) (DiskEnded D)
by_disk (Ok h) = Ok h
by_disk (Err end) = Err (of_disk end)

-- the keeper that is held, or handed back
abbrev pub keeper_in : {D K : Type 0} → Result (Held D K) (Ended D K) → K
keeper_in (Ok h) = h.keeper
keeper_in (Err end) = keeper_of end

-- ---- a step

pub record HasMoved
    {D K : Type 0} (members : disk.Ghosts D) (keepers : keeper.Ghosts K) (h : Held D K) (input : Input ToolCommand)
    (now : ℕ) (out : StepOut) (k : Held D K) : Type 0 where
  pub gone : HasGone (act (view_in members keepers h) input now) (view_in members keepers k) out
  pub in_state : IsIn members keepers k

abbrev pub Moves :
    {D K : Type 0} → disk.Ghosts D → keeper.Ghosts K → Held D K → Input ToolCommand → ℕ → StepOut
    → Result (Held D K) (DiskEnded D) → Type 0
Moves members keepers h input now out (Ok k) = HasMoved members keepers h input now out k
Moves members keepers h input now out (Err end) =
    Steps members (view_in members keepers h) input now (node_of h.tool) out (Err end)

-- ---- a start from what the device tells

-- it is as the file says, with the recipes that its keeper has for a host, and its numbers are those behind the mark;
-- where the file's numbers are bytes, or its messages can be sent, it can make steps
pub record HasBegunOn
    {D K : Type 0} (members : disk.Ghosts D) (keepers : keeper.Ghosts K) (plan : EquipmentPlan) (bytes : List ℕ)
    (out : StepOut) (h : Held D K) : Type 0 where
  pub gone :
      HasGone (starts_with (offered_by keepers h.keeper) plan (file_in bytes)) (view_in members keepers h) out
  pub in_state : All (λ byte. byte < 256) bytes → TellsOffered keepers h.keeper → IsIn members keepers h
  pub can_go : AllCanBeSent (file_in bytes).list → TellsOffered keepers h.keeper → IsIn members keepers h

-- the file as it was, or of version 2, with the old mark, or with the new one
abbrev pub HasMark : SpoolFile → List ℕ → Type 0
HasMark file image =
    StandsFor image file ⊎ (StandsFor image (upgraded file) ⊎ StandsFor image (with_mark_moved (upgraded file)))

-- nothing was written yet
abbrev pub IsUntouched : Story → Story → Type 0
IsUntouched s t = (t ≡ s) ⊎ (t ≡ with_sync s)

-- the first break of bytes that stand for no spool, or that of its setup
abbrev pub IsStartBreak : List ℕ → NotSpool → Type 0
IsStartBreak bytes break =
    IsBreak bytes (spool_break bytes) break
    ⊎ ((spool_break bytes ≡ None) × (setup_break (file_in bytes) ≡ Some break))

-- where it doesn't start nothing is noted
abbrev pub Begins :
    {D K : Type 0} → disk.Ghosts D → keeper.Ghosts K → EquipmentPlan → Story → StepOut
    → Result (Held D K) (Starting D K) → Type 0
Begins members keepers plan s out (Ok h) = HasBegunOn members keepers plan s.now.bytes out h
Begins members keepers plan s out (Err (starting.NotSpool raw break keeper)) =
    IsEmpty out × IsStartBreak s.now.bytes break
    × ((t : Story) → members.told raw.disk ≡ Some t → IsUntouched s t)
Begins members keepers plan s out (Err (starting.NumbersSpent spent keeper)) =
    IsEmpty out × (is_marked_out (file_in s.now.bytes).mark.value ≡ true)
    × ((t : Story) → members.told spent.disk ≡ Some t
    → EachImage (λ image. StandsFor image (upgraded (file_in s.now.bytes))) t.now)
Begins members keepers plan s out (Err (starting.DiskFailed spent keeper)) =
    IsEmpty out
    × ((t : Story) → members.told spent.disk ≡ Some t
    → IsUntouched s t ⊎ EachImage (HasMark (file_in s.now.bytes)) t.now)
Begins members keepers plan s out (Err (starting.NoMemory spent keeper)) =
    (out.line.items ≡ [])
    × ((t : Story) → members.told spent.disk ≡ Some t → EachImage (HasMark (file_in s.now.bytes)) t.now)

-- what it told stands for a spool and its setup where it starts, or lacks numbers; and for a spool where it lacks
-- memory. Of other bytes `Begins` tells the break
abbrev pub FindsFile : {D K : Type 0} → Story → Result (Held D K) (Starting D K) → Type 0
FindsFile s (Ok h) = start_break s.now.bytes ≡ None
FindsFile s (Err (starting.NoMemory spent keeper)) = spool_break s.now.bytes ≡ None
FindsFile s (Err (starting.NumbersSpent spent keeper)) = start_break s.now.bytes ≡ None
FindsFile s (Err (starting.NotSpool raw break keeper)) = Unit {0}
FindsFile s (Err (starting.DiskFailed spent keeper)) = Unit {0}

-- why it doesn't start, where its device gives no spool
abbrev pub starting_by : {D K : Type 0} → K → Recovering D → Starting D K
starting_by keeper (recovering.NotSpool raw break) = starting.NotSpool raw break keeper
starting_by keeper (recovering.Failed spent) = starting.DiskFailed spent keeper

-- with a keeper, which is asked whether a host is to be offered its recipes
abbrev pub kept_by : {D K : Type 0} → keeper.Ghosts K → K → Held D NoRecipes → Held D K
kept_by keepers k h = record {
  tool = record h.tool { own = record h.tool.own { offers = keepers.offers_is k } };
  spool = h.spool;
  keeper = k;
}

abbrev pub unstarted_by : {D K : Type 0} → K → Starting D NoRecipes → Starting D K
unstarted_by keeper (starting.NoMemory spent none) = starting.NoMemory spent keeper
unstarted_by keeper (starting.NotSpool raw break none) = starting.NotSpool raw break keeper
unstarted_by keeper (starting.DiskFailed spent none) = starting.DiskFailed spent keeper
unstarted_by keeper (starting.NumbersSpent spent none) = starting.NumbersSpent spent keeper

-- the keeper that a start holds, or hands back
abbrev pub keeper_started : {D K : Type 0} → Result (Held D K) (Starting D K) → K
keeper_started (Ok h) = h.keeper
keeper_started (Err (starting.NoMemory spent keeper)) = keeper
keeper_started (Err (starting.NotSpool raw break keeper)) = keeper
keeper_started (Err (starting.DiskFailed spent keeper)) = keeper
keeper_started (Err (starting.NumbersSpent spent keeper)) = keeper
