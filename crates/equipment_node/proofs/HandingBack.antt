-- That each call hands back the device of its spool.
use Rattle.std.proofs.Common.{◌≡◌, ◌≢◌, inl, inr, refl, sym, subst, ◌∙◌, ℕ, List, Option, Some, None}
use Rattle.std.specs.Prelude.{Result, Ok, Err}
use Rattle.disk_base.specs.Calls.{DiskCall}
use Rattle.disk_base.specs.Faults.{Rose}
use Rattle.disk_base.specs.SameDisk.{IsSameDisk}
use Rattle.disk_base.specs.declared.disk.Disk as disk
use Rattle.disk_base.specs.declared.disk.DiskAnswer.TheVariants.{Done, Failed}
use Rattle.disk_base.proofs.Stretches.{same_then}
use Rattle.gem_spool.specs.Oldest.{HasReadSlots}
use Rattle.gem_spool.specs.Spool.{ReservesFrom}
use Rattle.gem_spool.specs.declared.spool.GemSpool.{GemSpool}
use Rattle.gem_spool.specs.declared.works.Work.{Work}
use Rattle.message_flow.specs.declared.step.Note.{Note}
use Rattle.message_flow.specs.declared.step.StepOut.{StepOut}
use Rattle.setup_store.specs.Entries.{Entry}
use Rattle.spool_slots.specs.Changes.{HasRecovered, Recovers, Reserves}
use Rattle.spool_slots.specs.Spool.{SpoolView}
use Rattle.spool_slots.specs.declared.states.Recovering.{Recovering}
use Rattle.spool_slots.specs.declared.states.Recovering.TheVariants as recovering
use Rattle.spool_slots.specs.declared.states.Reserving.TheVariants as reserving
use Rattle.spool_slots.specs.declared.states.Spent.{Spent}
use Rattle.message_end.specs.declared.end.Stop.{Stop}
use Rattle.message_end.specs.declared.end.Stop.TheVariants as stop
use Rattle.message_end.specs.Core.{Went}
use Rattle.message_end.specs.Parts.{Node}
use Rattle.equipment_tables.specs.declared.plan.EquipmentPlan.{EquipmentPlan}
use Rattle.spool_works.specs.declared.ended.Ended.{Ended}
use Rattle.spool_works.specs.declared.ended.Ended.TheVariants as ended
use Rattle.gem_recipes.specs.declared.no_recipes.NoRecipes.{NoRecipes}
use Rattle.equipment_node.specs.declared.equipment.Starting.{Starting}
use Rattle.equipment_node.specs.declared.equipment.Starting.TheVariants as starting
use Rattle.tool_step.specs.declared.kind.Kind.{Kind}
use Rattle.equipment_node.specs.Amid.{Carries, DoesLast, Worked, disk_worked}
use Rattle.tool_core.specs.Calls.{IsReached}
use Rattle.spool_works.proofs.OwedWorks.{owed-back, owed-failed}
use Rattle.spool_works.specs.HandedBack.{HandsBack, HasFailed, IsEnded, IsKept}
use Rattle.equipment_node.specs.HandedBack.{StartHandsBack, WorksHandBack}
use Rattle.equipment_node.specs.Held.{Held, starting_by}
use Rattle.equipment_node.specs.Keeping.{no_keeper}
use Rattle.tool_step.specs.Own.{OwnView, ToolPart}
use Rattle.equipment_node.specs.StartOver.{StartsWith}

-- no part of a step asks the disk
pub reached-not-failed :
    (went : Went (Node OwnView Kind) Note) (new : Node OwnView Kind) (out : StepOut) (why : Stop)
    → IsReached {A = Unit {0}} went new out (Err why) → why ≢ stop.DiskFailed
reached-not-failed went new out stop.Full reached is = absurd reached
reached-not-failed went new out stop.DiskFailed reached is = absurd reached
reached-not-failed went new out stop.NoMemory reached is = cc
reached-not-failed went new out stop.NumbersSpent reached is = cc

module _ {D : Type 0} (members : disk.Ghosts D) where
  abbrev Same : D → D → Type 0
  Same old new = IsSameDisk members old new

  same-still : (a : D) → Same a a
  same-still a = (refl, refl, refl)

  pub kept-still : (a : D) → IsKept members a a
  kept-still a = record { same_disk = same-still a; count = refl }

  pub kept-at : (a b : D) → b ≡ a → IsKept members a b
  kept-at a b is = subst (λ (x : D). IsKept members a x) (sym is) (kept-still a)

  -- ---- one call behind the other

  pub kept-then : (a b c : D) → IsKept members a b → IsKept members b c → IsKept members a c
  kept-then a b c one two =
      record { same_disk = same_then one.same_disk two.same_disk; count = two.count ∙ one.count }

  pub failed-then : (a b c : D) → IsKept members a b → HasFailed members b c → HasFailed members a c
  failed-then a b c one two = record {
    same_disk = same_then one.same_disk two.same_disk;
    rose = subst (λ (n : ℕ). Rose n (members.health c).faults) one.count two.rose;
  }

  pub ended-then : (a b : D) (end : Ended D) → IsKept members a b → IsEnded members b end → IsEnded members a end
  ended-then a b (ended.NoMemory spent) one two = kept-then a b spent.disk one two
  ended-then a b (ended.DiskFailed spent) one two = failed-then a b spent.disk one two
  ended-then a b (ended.NumbersSpent spent) one two = kept-then a b spent.disk one two

  pub handed-then : (a b : D) (result : Result (GemSpool D) (Ended D)) → IsKept members a b
      → HandsBack members b result → HandsBack members a result
  handed-then a b (Ok g) one two = kept-then a b g.spool.disk one two
  handed-then a b (Err end) one two = ended-then a b end one two

  pub worked-then : (a b : D) (result : Result (Worked D) (Ended D)) → IsKept members a b
      → WorksHandBack members b result → WorksHandBack members a result
  worked-then a b (Ok worked) one two = kept-then a b (disk_worked worked) one two
  worked-then a b (Err end) one two = ended-then a b end one two

  -- ---- works

  pub works-back :
      (g : GemSpool D) (works : List Work) (setup : Option (List ℕ)) (out after : StepOut)
      (result : Result (GemSpool D) (Ended D)) → Carries members g works setup out after result
      → HandsBack members g.spool.disk result
  works-back g works setup out after (Ok h) (is, same) = owed-back members g h works setup is
  works-back g works setup out after (Err (ended.DiskFailed spent)) is =
      owed-failed members g works setup (record { at = is.at; spent = spent }) is.undone
  works-back g works setup out after (Err (ended.NumbersSpent spent)) is = absurd is
  works-back g works setup out after (Err (ended.NoMemory spent)) is = absurd is

  -- ---- the other calls

  pub reserved-back : (g h : GemSpool D) (base : Option ℕ) → ReservesFrom members g h base
      → IsKept members g.spool.disk h.spool.disk
  reserved-back g h (Some base) done = record { same_disk = done.0.0.1.0.same_disk; count = done.0.0.1.0.cause.same }
  reserved-back g h None done =
      subst (λ (x : GemSpool D). IsKept members g.spool.disk x.spool.disk) (sym done.0) (kept-still g.spool.disk)

  pub unreserved-back : (g : GemSpool D) (spent : Spent D) → Reserves members g.spool (Err (reserving.Failed spent))
      → HasFailed members g.spool.disk spent.disk
  unreserved-back g spent done = record { same_disk = done.1.0.same_disk; rose = done.1.0.cause.rose }

  pub looked-back : (v w : SpoolView D) (looks : List DiskCall) → HasReadSlots members v w looks Done
      → IsKept members v.disk w.disk
  looked-back v w looks looked = record { same_disk = looked.made.same_disk; count = looked.made.calls.cause.same }

  pub unlooked-back : (v w : SpoolView D) (looks : List DiskCall) → HasReadSlots members v w looks Failed
      → HasFailed members v.disk w.disk
  unlooked-back v w looks looked = record { same_disk = looked.made.same_disk; rose = looked.made.calls.cause.rose }

  -- the last parts ask nothing
  pub last-back :
      (g : GemSpool D) (parts : List ToolPart) (old new : Node OwnView Kind) (out after : StepOut)
      (result : Result (GemSpool D) (Ended D)) → DoesLast members g parts old out new after result
      → HandsBack members g.spool.disk result
  last-back g parts old new out after (Ok h) does =
      subst (λ (x : GemSpool D). IsKept members g.spool.disk x.spool.disk) (sym does.0) (kept-still g.spool.disk)
  last-back g parts old new out after (Err (ended.DiskFailed spent)) does = absurd does
  last-back g parts old new out after (Err (ended.NumbersSpent spent)) does = kept-at g.spool.disk spent.disk does.0
  last-back g parts old new out after (Err (ended.NoMemory spent)) does = kept-at g.spool.disk spent.disk does

  -- ---- a start

  recovered-back : (old new : D) (most : ℕ) → HasRecovered members old new most Done → IsKept members old new
  recovered-back old new most is =
      record { same_disk = is.same_disk; count = is.reads.cause.same ∙ is.cause.same }

  unread-back : (old new : D) (most : ℕ) → HasRecovered members old new most Failed → HasFailed members old new
  unread-back old new most is = record {
    same_disk = is.same_disk;
    rose = subst (λ (n : ℕ). Rose n (members.health new).faults) is.cause.same is.reads.cause.rose;
  }

  pub taken-back : (old : D) (v : SpoolView D) → Recovers members old (Ok v) → IsKept members old v.disk
  taken-back old v is = recovered-back old v.disk _ is.0

  pub untaken-back :
      (old : D) (why : Recovering D) → Recovers members old (Err why)
      → StartHandsBack members old (Err (starting_by no_keeper why))
  untaken-back old (recovering.NotSpool raw break) is = recovered-back old raw.disk _ is.0
  untaken-back old (recovering.Failed spent) (inl is, by) = record { same_disk = is.same_disk; rose = is.cause.rose }
  untaken-back old (recovering.Failed spent) (inr is, by) = unread-back old spent.disk _ is

  pub seated-back :
      (plan : EquipmentPlan) (g : GemSpool D) (setup : Option (List Entry)) (sizes : List ℕ) (base : ℕ)
      (out after : StepOut) (result : Result (Held D NoRecipes) (Starting D NoRecipes))
      → StartsWith plan g setup sizes base out after result
      → StartHandsBack members g.spool.disk result
  seated-back plan g setup sizes base out after (Ok h) starts =
      subst (λ (x : GemSpool D). IsKept members g.spool.disk x.spool.disk) (sym starts.0) (kept-still g.spool.disk)
  seated-back plan g setup sizes base out after (Err (starting.NoMemory spent keeper)) starts =
      kept-at g.spool.disk spent.disk starts
  seated-back plan g setup sizes base out after (Err (starting.NumbersSpent spent keeper)) starts = absurd starts
  seated-back plan g setup sizes base out after (Err (starting.DiskFailed spent keeper)) starts = absurd starts
  seated-back plan g setup sizes base out after (Err (starting.NotSpool raw break keeper)) starts = absurd starts

  pub start-then : (a b : D) (result : Result (Held D NoRecipes) (Starting D NoRecipes)) → IsKept members a b
      → StartHandsBack members b result → StartHandsBack members a result
  start-then a b (Ok h) one two = kept-then a b h.spool.spool.disk one two
  start-then a b (Err (starting.NoMemory spent keeper)) one two = kept-then a b spent.disk one two
  start-then a b (Err (starting.NotSpool raw break keeper)) one two = kept-then a b raw.disk one two
  start-then a b (Err (starting.DiskFailed spent keeper)) one two = failed-then a b spent.disk one two
  start-then a b (Err (starting.NumbersSpent spent keeper)) one two = kept-then a b spent.disk one two
