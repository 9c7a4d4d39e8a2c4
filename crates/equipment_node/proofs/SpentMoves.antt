-- That a step and a start of the program end with their numbers spent where there is a cause.
use Rattle.std.proofs.Common.{◌≡◌, refl, sym, ap, ◌∙◌, ℕ, Bool, true, false, if◌then◌else◌}
use Rattle.std.specs.Prelude.{Result, Ok, Err}
use Rattle.disk_base.specs.Story.{Story}
use Rattle.disk_base.specs.declared.disk.Disk as disk
use Rattle.spool_file.specs.File.{SpoolFile, file_in}
use Rattle.message_flow.specs.declared.step.StepOut.{StepOut}
use Rattle.trace_log.specs.declared.commands.ToolCommand.{ToolCommand}
use Rattle.trace_log.specs.Log.{Happening}
use Rattle.message_end.specs.Core.{Step, Went, at_first}
use Rattle.message_end.specs.Core.Went.{Goes, Spent}
use Rattle.message_end.specs.Ends.{Input}
use Rattle.spool_works.specs.declared.ended.Ended.{Ended}
use Rattle.spool_works.specs.declared.ended.Ended.TheVariants as ended
use Rattle.gem_recipes.specs.contracts.no_recipes.NoRecipesRecipeKeeper.TheImpl.{ghosts as no_keepers}
use Rattle.gem_recipes.specs.declared.keeper.RecipeKeeper as keeper
use Rattle.gem_recipes.specs.declared.no_recipes.NoRecipes.{NoRecipes}
use Rattle.equipment_node.specs.declared.equipment.Starting.{Starting}
use Rattle.equipment_node.specs.declared.equipment.Starting.TheVariants as starting
use Rattle.equipment_tables.specs.declared.plan.EquipmentPlan.{EquipmentPlan}
use Rattle.tool_step.specs.Equipment.{EquipmentView, act, is_marked_out, started_on, starts, unstarted}
use Rattle.equipment_node.specs.Held.{Begins, Held, IsIn, Moves, view_in}
use Rattle.equipment_node.specs.SpentSteps.{IsSpentByCause, IsStartSpentByCause}
use Rattle.tool_law.specs.SpentSteps.{ends_spent, finds_spent}
use Rattle.tool_law.proofs.SpentCauses.{spent-by-cause}

module _ {D K : Type 0} (members : disk.Ghosts D) (keepers : keeper.Ghosts K) (h : Held D K) (input : Input ToolCommand)
    (now : ℕ) (out : StepOut) (in_state : IsIn members keepers h)
  where
    cause : finds_spent (view_in members keepers h) input now ≡ ends_spent (act (view_in members keepers h) input now)
    cause =
        let made = in_state.on.made in
        sym (spent-by-cause made.plan made.base made.doings (view_in members keepers h) input now made.did)

    so : (went : Went EquipmentView Happening) → act (view_in members keepers h) input now ≡ went
        → finds_spent (view_in members keepers h) input now ≡ ends_spent went
    so went is = cause ∙ ap (λ (w : Went EquipmentView Happening). ends_spent w) is

    pub moved-by-cause : (result : Result (Held D K) (Ended D)) → Moves members keepers h input now out result
        → IsSpentByCause members keepers h input now result
    moved-by-cause (Ok k) moved = so _ moved.gone.is
    moved-by-cause (Err (ended.NumbersSpent spent)) moved = so _ moved.0.is
    moved-by-cause (Err (ended.DiskFailed spent)) moved = tt
    moved-by-cause (Err (ended.NoMemory spent)) moved = tt

-- a start goes on where the mark can move on
goes-on :
    (plan : EquipmentPlan) (file : SpoolFile) (step : Step EquipmentView Happening)
    → starts plan file ≡ Goes step → is_marked_out file.mark.value ≡ false
goes-on plan file step = go (is_marked_out file.mark.value)
  where
    go : (out : Bool)
        → (if out then Spent (at_first (unstarted plan file)) else Goes (started_on plan file)) ≡ Goes step
        → out ≡ false
    go true is = absurd (cc)
    go false is = refl

pub begun-by-cause :
    {D : Type 0} (members : disk.Ghosts D) (plan : EquipmentPlan) (s : Story) (out : StepOut)
    (result : Result (Held D NoRecipes) (Starting D NoRecipes))
    → Begins members no_keepers plan s out result → IsStartSpentByCause (file_in s.now.bytes) result
begun-by-cause members plan s out (Ok h) begun =
    goes-on plan (file_in s.now.bytes) begun.gone.step begun.gone.is
begun-by-cause members plan s out (Err (starting.NumbersSpent spent keeper)) begun = begun.1
begun-by-cause members plan s out (Err (starting.NotSpool raw break keeper)) begun = tt
begun-by-cause members plan s out (Err (starting.DiskFailed spent keeper)) begun = tt
begun-by-cause members plan s out (Err (starting.NoMemory spent keeper)) begun = tt
