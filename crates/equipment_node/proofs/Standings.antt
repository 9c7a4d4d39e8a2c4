-- How the spool stands behind some works of a step, and that no call of a sure disk fails.
use Rattle.std.proofs.Common.{◌≡◌, refl, sym, ap, subst, ◌∙◌, arith, ◌-◌, Bool, true, false, ℕ, List, [], ◌∷◌, map}
use Rattle.std.proofs.Common.{Option, Some, if◌then◌else◌}
use Rattle.std.specs.Prelude.{IfOk, Result, Ok, Err}
use Rattle.disk_base.specs.Faults.{DiskHealth, IsUsed}
use Rattle.disk_base.specs.declared.disk.Disk as disk
use Rattle.gem_spool.specs.declared.spool.GemSpool.{GemSpool}
use Rattle.gem_spool.specs.Spool.{ReservesFrom}
use Rattle.message_flow.specs.declared.step.StepOut.{StepOut}
use Rattle.equipment_tables.specs.declared.plan.EquipmentPlan.{EquipmentPlan}
use Rattle.gem_recipes.specs.declared.no_recipes.NoRecipes.{NoRecipes}
use Rattle.equipment_node.specs.declared.equipment.Starting.{Starting}
use Rattle.equipment_node.specs.Held.{Held}
use Rattle.gem_spool.specs.declared.works.Work.{Work}
use Rattle.gem_spool.specs.Standing.{Standing}
use Rattle.gem_spool.specs.Works.{reserved as marked, standing_after, standings_after}
use Rattle.message_end.specs.Core.{at_first}
use Rattle.message_end.specs.Core.Went.{Goes}
use Rattle.equipment_node.specs.Amid.{opened}
use Rattle.setup_store.specs.Entries.{Entry}
use Rattle.spool_works.specs.DiskWorks.{DiskWork, standings_behind}
use Rattle.tool_step.specs.Disk.{reserve_works, standing_in}
use Rattle.spool_works.specs.DiskWorks.DiskWork.{Change, Reserve}
use Rattle.tool_step.specs.Equipment.{EquipmentView, reserving as opening}
use Rattle.equipment_node.specs.StartOver.{IsSureDisk, KeepsSure, StartsWith}
use Rattle.equipment_node.proofs.OnDisk.{is_reserving, opened-standing}

-- a disk of which no call is to fail stays such
pub used-sure : (a b : DiskHealth) (calls bytes : ℕ) → IsUsed a b calls bytes → IsSureDisk a → IsSureDisk b
used-sure a b calls bytes used is = record {
  fails_not = used.fail_left ∙ ap (λ (n : ℕ). n - calls) is.fails_not ∙ none calls;
  stops_not = used.stop_left ∙ ap (λ (n : ℕ). n - calls) is.stops_not ∙ none calls;
  going = used.going ∙ is.going;
}
  where
    none : (n : ℕ) → 0 - n ≡ 0
    none n = omega arith

-- and so by a start
pub start-sure :
    {D : Type 0} (members : disk.Ghosts D) (g h : GemSpool D) (base : ℕ) → ReservesFrom members g h (Some base)
    → (plan : EquipmentPlan) (setup : Option (List Entry)) (sizes : List ℕ) (other : ℕ) (out_old out_new : StepOut)
    (result : Result (Held D NoRecipes) (Starting D NoRecipes))
    → StartsWith plan h setup sizes other out_old out_new result
    → IfOk result (λ (e : Held D NoRecipes). KeepsSure members g.spool.disk e.spool.spool.disk)
start-sure {D} members g h base reserves plan setup sizes other out_old out_new (Ok e) starts =
    subst (λ (k : GemSpool D). KeepsSure members g.spool.disk k.spool.disk) (sym starts.0)
    (used-sure (members.health g.spool.disk) (members.health h.spool.disk) 5 9 reserves.0.0.1.0.cause)
start-sure members g h base reserves plan setup sizes other out_old out_new (Err end) starts = tt

pub changes-stand :
    (st : Standing) (works : List Work) → standings_behind st (map Change works) ≡ standings_after st works
changes-stand st [] = refl
changes-stand st (one ∷ works) = changes-stand (standing_after st one) works

abbrev reserving_by : Bool → List DiskWork
reserving_by is = if is then Reserve ∷ [] else []

pub opened-behind :
    (s : EquipmentView) → opening s ≡ Goes (at_first (opened s))
    → standings_behind (standing_in s) (reserve_works s) ≡ standing_in (opened s)
opened-behind s went = go (is_reserving s) ∙ opened-standing s went
  where
    go : (is : Bool)
        → standings_behind (standing_in s) (reserving_by is) ≡ (if is then marked (standing_in s) else standing_in s)
    go true = refl
    go false = refl
