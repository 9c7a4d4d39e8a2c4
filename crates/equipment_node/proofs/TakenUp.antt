-- That a start from a device comes to the start from what the device tells.
use Rattle.std.proofs.Common.{◌≡◌, sym, ap, subst, ◌∙◌, inl, inr, ℕ, List, Option, Some, None}
use Rattle.std.specs.Option.{option_map, option_or}
use Rattle.std.specs.Prelude.{IfOk, Result, Ok, Err}
use Rattle.disk_base.specs.Story.{Story, with_sync}
use Rattle.disk_base.specs.declared.disk.Disk as disk
use Rattle.gem_spool.specs.Standing.{file_told, standing_of}
use Rattle.message_flow.specs.declared.step.StepOut.{StepOut}
use Rattle.spool_file.specs.File.{SpoolFile, file_in, spool_break}
use Rattle.spool_file.specs.declared.reading.NotSpool.{NotSpool}
use Rattle.spool_slots.specs.Changes.{Recovers}
use Rattle.spool_slots.specs.Spool.{Rests, SpoolView, known_of}
use Rattle.spool_slots.specs.declared.states.Raw.{Raw}
use Rattle.spool_slots.specs.declared.states.Recovering.{Recovering}
use Rattle.spool_slots.specs.declared.states.Recovering.TheVariants as recovering
use Rattle.spool_slots.specs.declared.states.Spent.{Spent as Device}
use Rattle.message_end.specs.Ends.{IsEmpty}
use Rattle.equipment_tables.specs.declared.plan.EquipmentPlan.{EquipmentPlan}
use Rattle.equipment_tables.specs.Plan.{EquipmentPlanFits}
use Rattle.gem_recipes.specs.contracts.no_recipes.NoRecipesRecipeKeeper.TheImpl.{ghosts as no_keepers}
use Rattle.gem_recipes.specs.declared.no_recipes.NoRecipes.{NoRecipes}
use Rattle.equipment_node.specs.Keeping.{TellsOffered, no_keeper}
use Rattle.equipment_node.specs.declared.equipment.Starting.{Starting}
use Rattle.equipment_node.specs.declared.equipment.Starting.TheVariants as starting
use Rattle.spool_works.specs.Found.{first_in}
use Rattle.equipment_node.specs.Held.{Begins, FindsFile, Held, IsIn, starting_by}
use Rattle.tool_law.specs.Sound.{AllCanBeSent}
use Rattle.equipment_node.specs.StartOver.{HasStartedOver, IsFresh, KeepsSure, StartsFrom}
use Rattle.equipment_node.specs.StartSetup.{setup_break, start_break}
use Rattle.equipment_node.proofs.Standings.{used-sure}
use Rattle.equipment_node.proofs.FoundBytes.{found-sent}
use Rattle.equipment_node.proofs.Seated.{start-gone, start-in}

same-story : (a b : Story) → Some a ≡ Some b → a ≡ b
same-story a b same = cc

-- no break of either
none-breaks : (bytes : List ℕ) → spool_break bytes ≡ None → setup_break (file_in bytes) ≡ None
    → start_break bytes ≡ None
none-breaks bytes sound none =
    ap (λ (o : Option ℕ). option_or o (option_map (λ (e : NotSpool). e.at) (setup_break (file_in bytes)))) sound
    ∙ ap (λ (o : Option NotSpool). option_map (λ (e : NotSpool). e.at) o) none

pub not-found : {D : Type 0} (s : Story) (why : Recovering D) → FindsFile s (Err (starting_by no_keeper why))
not-found s (recovering.NotSpool raw break) = tt
not-found s (recovering.Failed spent) = tt

-- a disk that a spool was taken up from is sure still
pub taken-sure :
    {D : Type 0} (members : disk.Ghosts D) (old : D) (v : SpoolView D) → Recovers members old (Ok v)
    → (result : Result (Held D NoRecipes) (Starting D NoRecipes))
    → IfOk result (λ (h : Held D NoRecipes). KeepsSure members v.disk h.spool.spool.disk)
    → IfOk result (λ (h : Held D NoRecipes). KeepsSure members old h.spool.spool.disk)
taken-sure members old v is (Err why) keeps = tt
taken-sure {D} members old v is (Ok h) keeps = λ sure.
    keeps
    (used-sure is.0.synced (members.health v.disk) is.0.reads.made 0 is.0.reads.cause
    (used-sure (members.health old) is.0.synced 1 0 is.0.cause sure))

module _ {D : Type 0} (members : disk.Ghosts D) (old : D) (s : Story) (told : members.told old ≡ Some s) where
  abbrev file : SpoolFile
  file = file_in s.now.bytes

  -- ---- the device stands for no spool, or failed

  pub no-spool :
      (plan : EquipmentPlan) (out : StepOut) (raw : Raw D) (break : NotSpool) → IsEmpty out
      → Recovers members old (Err (recovering.NotSpool raw break))
      → Begins members no_keepers plan s out (Err (starting.NotSpool raw break no_keeper))
  no-spool plan out raw break empty is = (
    empty,
    inl (is.1 s told),
    λ t now. inr (same-story t (with_sync s) (sym now ∙ is.0.told ∙ ap (option_map with_sync) told)),
  )

  pub not-recovered :
      (plan : EquipmentPlan) (out : StepOut) (spent : Device D) → IsEmpty out
      → Recovers members old (Err (recovering.Failed spent))
      → Begins members no_keepers plan s out (Err (starting.DiskFailed spent no_keeper))
  not-recovered plan out spent empty (inl is, by) = (
    empty,
    λ t now. inl (inl (same-story t s (sym now ∙ is.told ∙ told))),
  )
  not-recovered plan out spent empty (inr is, by) = (
    empty,
    λ t now. inl (inr (same-story t (with_sync s) (sym now ∙ is.told ∙ ap (option_map with_sync) told))),
  )

  pub not-taken :
      (plan : EquipmentPlan) (out : StepOut) (why : Recovering D) → IsEmpty out → Recovers members old (Err why)
      → Begins members no_keepers plan s out (Err (starting_by no_keeper why))
  not-taken plan out (recovering.NotSpool raw break) empty is = no-spool plan out raw break empty is
  not-taken plan out (recovering.Failed spent) empty is = not-recovered plan out spent empty is

  -- ---- it is taken up

  module _ (v : SpoolView D) (is : Recovers members old (Ok v)) where
    now-told : members.told v.disk ≡ Some (with_sync s)
    now-told = is.0.told ∙ ap (option_map with_sync) told

    -- what is found is what its bytes hold
    pub file-is : (standing_of members v).file ≡ file
    file-is = ap (λ (tells : Option Story). file_told tells (known_of v)) now-told

    rests : Rests (with_sync s) (known_of v)
    rests = (is.1 s told).0

    pub is-fresh : IsFresh members v
    is-fresh = record {
      told = (with_sync s, now-told);
      first = (is.1 s told).1 ∙ ap (λ (f : SpoolFile). first_in f) (sym file-is);
    }

    -- what its messages want to be sent, they have
    begun-in :
        (plan : EquipmentPlan) → EquipmentPlanFits plan → (out : StepOut) (h : Held D NoRecipes)
        → HasStartedOver members plan file h out → AllCanBeSent file.list → TellsOffered no_keepers h.keeper
        → IsIn members no_keepers h
    begun-in plan fits out h has can tells = start-in members plan fits file h out has can tells

    pub begun-over :
        (plan : EquipmentPlan) → EquipmentPlanFits plan
        → (out : StepOut) (result : Result (Held D NoRecipes) (Starting D NoRecipes))
        → StartsFrom members plan v.disk (standing_of members v).file out result
        → Begins members no_keepers plan s out result
    begun-over plan fits out result over =
        go result (subst (λ (f : SpoolFile). StartsFrom members plan v.disk f out result) file-is over)
      where
        go : (result : Result (Held D NoRecipes) (Starting D NoRecipes))
            → StartsFrom members plan v.disk file out result
            → Begins members no_keepers plan s out result
        go (Ok h) has = record {
          gone = start-gone members plan fits file h out has.1;
          in_state = λ are tells. begun-in plan fits out h has.1 (found-sent s.now.bytes are rests.sound) tells;
          can_go = λ can tells. begun-in plan fits out h has.1 can tells;
        }
        go (Err (starting.NumbersSpent spent keeper)) has = has.1
        go (Err (starting.DiskFailed spent keeper)) has = (has.0, (λ t now. inr (has.1 t now)))
        go (Err (starting.NoMemory spent keeper)) has = has
        go (Err (starting.NotSpool raw break keeper)) has = (
          has.0,
          inr (rests.sound, has.1),
          λ t now. inr (same-story t (with_sync s) (sym now ∙ has.2 ∙ now-told)),
        )

    pub found :
        (plan : EquipmentPlan) (out : StepOut) (result : Result (Held D NoRecipes) (Starting D NoRecipes))
        → StartsFrom members plan v.disk (standing_of members v).file out result → FindsFile s result
    found plan out result over =
        go result (subst (λ (f : SpoolFile). StartsFrom members plan v.disk f out result) file-is over)
      where
        go : (result : Result (Held D NoRecipes) (Starting D NoRecipes))
            → StartsFrom members plan v.disk file out result
            → FindsFile s result
        go (Ok h) has = none-breaks s.now.bytes rests.sound has.0
        go (Err (starting.NoMemory spent keeper)) has = rests.sound
        go (Err (starting.NumbersSpent spent keeper)) has = none-breaks s.now.bytes rests.sound has.0
        go (Err (starting.NotSpool raw break keeper)) has = tt
        go (Err (starting.DiskFailed spent keeper)) has = tt
