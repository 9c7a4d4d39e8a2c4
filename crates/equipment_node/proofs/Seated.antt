-- That the spool in hand tells its state, and what becomes of it in a step and at a start.
use Rattle.std.proofs.Common.{◌≡◌, refl, sym, ap, subst, ◌∙◌, ℕ, Bool, true, false, [], ◌∷◌, Option, Some}
use Rattle.std.proofs.Common.{if◌then◌else◌}
use Rattle.std.specs.Prelude.{Err}
use Rattle.disk_base.specs.Story.{Story}
use Rattle.disk_base.specs.declared.disk.Disk as disk
use Rattle.gem_spool.specs.declared.spool.GemSpool.{GemSpool}
use Rattle.gem_spool.specs.Standing.{file_told}
use Rattle.message_flow.specs.declared.step.StepOut.{StepOut}
use Rattle.spool_file.specs.File.{SpoolFile, file_in}
use Rattle.spool_slots.specs.Spool.{known_of}
use Rattle.trace_log.specs.declared.commands.ToolCommand.{ToolCommand}
use Rattle.trace_log.specs.Log.{Happening}
use Rattle.message_end.specs.declared.end.Stop.{Stop}
use Rattle.message_end.specs.Core.{Step, Went, at_first}
use Rattle.message_end.specs.Core.Went.{Goes, Spent}
use Rattle.message_end.specs.Ends.{HasGone, HasSpent, HasStarted, Input, IsEmpty, IsNotStopped, Leaves, OnStart, Starts}
use Rattle.message_end.specs.Parts.{Node}
use Rattle.equipment_tables.specs.declared.plan.EquipmentPlan.{EquipmentPlan}
use Rattle.equipment_tables.specs.Plan.{EquipmentPlanFits}
use Rattle.spool_works.specs.declared.ended.Ended.{Ended}
use Rattle.spool_works.specs.declared.ended.Ended.TheVariants as ended
use Rattle.gem_recipes.specs.contracts.no_recipes.NoRecipesRecipeKeeper.TheImpl.{ghosts as no_keepers}
use Rattle.gem_recipes.specs.declared.keeper.RecipeKeeper as keeper
use Rattle.gem_recipes.specs.declared.no_recipes.NoRecipes.{NoRecipes}
use Rattle.equipment_node.specs.declared.equipment.Starting.{Starting}
use Rattle.equipment_node.specs.declared.equipment.Starting.TheVariants as starting
use Rattle.tool_step.specs.declared.kind.Kind.{Kind}
use Rattle.tool_step.specs.Disk.{stops}
use Rattle.tool_step.specs.Equipment.{EquipmentView, act, is_marked_out, started_on, starts, unstarted}
use Rattle.equipment_node.specs.Held.{Begins, HasMoved, Held, IsIn, view_in}
use Rattle.equipment_node.specs.InMemory.{stop_at_start}
use Rattle.equipment_node.specs.Keeping.{TellsOffered, recipes_of}
use Rattle.tool_law.specs.Laws.{DidOf}
use Rattle.tool_law.proofs.LawfulLosses.{equipment_lawful}
use Rattle.tool_core.specs.Node.{node_of}
use Rattle.tool_step.specs.Own.{OwnView}
use Rattle.tool_step.specs.Recipes.{RecipesView, no_recipes}
use Rattle.tool_law.specs.Sound.{AllCanBeSent}
use Rattle.equipment_node.specs.StartOver.{HasStartedOver, StartsFrom}
use Rattle.tool_step.specs.Step.{end_plan}
use Rattle.equipment_node.specs.Stepping.{HasStepped, IsClear, IsMade, IsOn, IsTold, Steps, stop_by, view_of}

module _ {D : Type 0} (members : disk.Ghosts D) where
  -- it is that of this state, of which the disk tells
  pub seen :
      (g : GemSpool D) (node : Node OwnView Kind) (s : EquipmentView) → IsClear members g.spool s
      → IsTold (members.told g.spool.disk) → node ≡ s.node → (kept : RecipesView) → s.recipes ≡ kept
      → s ≡ view_of members node (Some g) kept
  seen g node s clear told same kept kept_is =
      ap (λ (n : Node OwnView Kind). with_parts n s.file s.recipes) (sym same)
      ∙ ap (λ (recipes : RecipesView). with_parts node s.file recipes) kept_is
      ∙ ap (λ (file : SpoolFile). with_parts node file kept)
      ((clear.stands.file told.0 told.1).stands.is
      ∙ ap (λ (tells : Option Story). file_told tells (known_of g.spool)) (sym told.1))
    where
      with_parts : Node OwnView Kind → SpoolFile → RecipesView → EquipmentView
      with_parts n file kept = record { node = n; file = file; recipes = kept }

  -- ---- a step

  pub step-moved :
      {K : Type 0} (keepers : keeper.Ghosts K) (h k : Held D K) (input : Input ToolCommand) (now : ℕ) (out : StepOut)
      → (is : HasStepped members (view_in members keepers h) input now (node_of k.tool) out k.spool)
      → is.step.next.recipes ≡ recipes_of keepers k.keeper → TellsOffered keepers k.keeper
      → HasMoved members keepers h input now out k
  step-moved keepers h k input now out is kept tells =
      let same =
      seen k.spool (node_of k.tool) is.step.next is.on.clear is.told (sym is.node_is) (recipes_of keepers k.keeper)
      kept in
      record {
        gone = record { step = is.step; is = is.is; next_is = same; notes = is.notes; written = is.written };
        in_state = record {
          on = subst (λ (t : EquipmentView). IsOn members k.spool.spool t) same is.on;
          told = is.told;
          kept = tells;
        };
      }

  -- ---- a start

  module _ (plan : EquipmentPlan) (fits : EquipmentPlanFits plan) (file : SpoolFile) (h : Held D NoRecipes)
      (out : StepOut)
      (is : HasStartedOver members plan file h out)
    where
      abbrev step : Step EquipmentView Happening
      step = started_on plan file

      goes : starts plan file ≡ Goes step
      goes = ap (λ (out : Bool). if out then Spent (at_first (unstarted plan file)) else Goes step) is.room

      pub view-is : step.next ≡ view_in members no_keepers h
      view-is = seen h.spool (node_of h.tool) step.next is.clear is.told is.node_is no_recipes refl

      pub start-gone : HasGone (starts plan file) (view_in members no_keepers h) out
      start-gone =
          record { step = step; is = goes; next_is = view-is; notes = is.notes; written = is.quiet }

      made : AllCanBeSent file.list → IsMade step.next
      made can =
          let law = equipment_lawful plan file fits can in
          let start =
          subst
          (λ (went : Went EquipmentView Happening). OnStart (HasStarted (end_plan plan) (DidOf plan) 0) went)
          goes law.starts in
          record {
            plan = plan;
            fits = fits;
            base = start.base;
            doings = start.said;
            did = start.is;
          }

      pub start-in : AllCanBeSent file.list → TellsOffered no_keepers h.keeper → IsIn members no_keepers h
      start-in can tells = record {
        on =
            subst (λ (t : EquipmentView). IsOn members h.spool.spool t) view-is
            (record { clear = is.clear; made = made can });
        told = is.told;
        kept = tells;
      }

-- ---- an end that may have stopped

-- an ending says nothing of what the end is then
pub any-node :
    {D : Type 0} (members : disk.Ghosts D) (s : EquipmentView) (input : Input ToolCommand) (now : ℕ)
    (node other : Node OwnView Kind) (out : StepOut) (end : Ended D) → Steps members s input now node out (Err end)
    → Steps members s input now other out (Err end)
any-node members s input now node other out (ended.NoMemory spent) steps = steps
any-node members s input now node other out (ended.DiskFailed spent) steps = steps
any-node members s input now node other out (ended.NumbersSpent spent) steps = steps

pub stops-by :
    {D : Type 0} (members : disk.Ghosts D) (s : EquipmentView) (input : Input ToolCommand) (now : ℕ)
    (node : Node OwnView Kind) (next : EquipmentView) (out : StepOut) (end : Ended D)
    → Steps members s input now node out (Err end)
    → Leaves (stops s input now) false (act s input now) next out (Err (stop_by end))
stops-by members s input now node next out (ended.NoMemory spent) steps = steps.0
stops-by members s input now node next out (ended.DiskFailed spent) steps = steps.0
stops-by members s input now node next out (ended.NumbersSpent spent) steps = (steps.0, refl)

-- ---- a start of an end

-- no system bytes are left
start-spent :
    (plan : EquipmentPlan) (file : SpoolFile) (out : StepOut) → is_marked_out file.mark.value ≡ true → IsEmpty out
    → HasSpent (starts plan file) out
start-spent plan file out marked empty =
    let unmarked : Step EquipmentView Happening = at_first (unstarted plan file) in
    record {
      step = unmarked;
      is = ap (λ (out : Bool). if out then Spent unmarked else Goes (started_on plan file)) marked;
      notes = empty.notes;
      quiet = empty.line;
    }

module _ {D : Type 0} (members : disk.Ghosts D) (plan : EquipmentPlan) (out : StepOut) where
  -- nothing is noted where it doesn't start, over a spool in hand
  pub started-ends :
      {E : Type 0} (old : D) (file : SpoolFile) (means : E → EquipmentView) (why : Starting D NoRecipes)
      → StartsFrom members plan old file out (Err why) → (told : Stop) → told ≡ stop_at_start why
      → Starts {E = E} ([] ∷ []) (starts plan file) means out (Err told)
  started-ends {E} old file means why is told told_is =
      subst (λ (e : Stop). Starts {E = E} ([] ∷ []) (starts plan file) means out (Err e)) (sym told_is) (go why is)
    where
      go : (why : Starting D NoRecipes) → StartsFrom members plan old file out (Err why)
          → Starts {E = E} ([] ∷ []) (starts plan file) means out (Err (stop_at_start why))
      go (starting.NoMemory spent keeper) is = is.0
      go (starting.NotSpool raw break keeper) is = is.0.line
      go (starting.DiskFailed spent keeper) is = is.0.line
      go (starting.NumbersSpent spent keeper) is = start-spent plan file out is.1.1 is.1.0

  -- nor over a device that tells its bytes
  pub begun-ends :
      (s : Story) (next : EquipmentView) (why : Starting D NoRecipes) → Begins members no_keepers plan s out (Err why)
      → Leaves ([] ∷ []) false (starts plan (file_in s.now.bytes)) next out (Err (stop_at_start why))
  begun-ends s next (starting.NoMemory spent keeper) is = is.0
  begun-ends s next (starting.NotSpool raw break keeper) is = is.0.line
  begun-ends s next (starting.DiskFailed spent keeper) is = is.0.line
  begun-ends s next (starting.NumbersSpent spent keeper) is =
      (start-spent plan (file_in s.now.bytes) out is.1 is.0, refl)

-- nor does its disk stop it
pub start-whole : {D : Type 0} (R : Type 0) (why : Starting D NoRecipes)
    → IsNotStopped {R = R} (Err (stop_at_start why))
start-whole R (starting.NoMemory spent keeper) = tt
start-whole R (starting.NotSpool raw break keeper) = tt
start-whole R (starting.DiskFailed spent keeper) = tt
start-whole R (starting.NumbersSpent spent keeper) = tt
