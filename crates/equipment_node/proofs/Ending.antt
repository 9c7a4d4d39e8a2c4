-- That what is said of a step over the disk in hand is said of one of the equipment.
use Rattle.std.proofs.Common.{◌≡◌, inl, inr, refl, sym, subst, ◌∙◌, false, true, ℕ, List}
use Rattle.std.specs.Prelude.{Result, Err}
use Rattle.disk_base.specs.declared.disk.Disk as disk
use Rattle.gem_recipes.specs.declared.keeper.RecipeKeeper as keeper
use Rattle.gem_spool.specs.declared.spool.GemSpool.{GemSpool}
use Rattle.message_end.specs.Core.{step_in}
use Rattle.message_end.specs.Ends.{Input}
use Rattle.message_flow.specs.declared.step.Note.{Note}
use Rattle.message_flow.specs.declared.step.StepOut.{StepOut}
use Rattle.spool_works.specs.DiskCalls.{HasCalled, HasMade, all_disk_calls, disk_in}
use Rattle.spool_works.specs.declared.ended.Ended.{Ended}
use Rattle.spool_works.specs.declared.ended.Ended.TheVariants as ended
use Rattle.tool_core.specs.Node.{node_of}
use Rattle.tool_core.specs.Serving.{IsKept as IsRecipes}
use Rattle.tool_step.specs.Disk.{standing_in, works_of}
use Rattle.tool_step.specs.Equipment.{EquipmentView, begun_step}
use Rattle.tool_step.specs.Losses.{losses}
use Rattle.tool_step.specs.Recipes.{recipes_behind}
use Rattle.trace_log.specs.declared.commands.ToolCommand.{ToolCommand}
use Rattle.equipment_node.specs.Breaking.{BreaksBy, Passes}
use Rattle.equipment_node.specs.DiskCalls.{disk_held}
use Rattle.equipment_node.specs.Held.{HasMoved, Held, IsIn, Moves, keeper_of, of_disk, view_in}
use Rattle.equipment_node.specs.Keeping.{ByDisk, CanBeAsked, HandsBoth, HoldsAmid, KeeperStays, KeepsOf, StaysUnasked}
use Rattle.equipment_node.specs.Stepped.{BothBack, BreaksAfter, CallsAfter, KeeperUnasked, RecipesAfter}
use Rattle.equipment_node.specs.Stepping.{HasStepped, Steps}
use Rattle.equipment_node.specs.declared.ended.Ended.{Ended as Ending}
use Rattle.equipment_node.proofs.Offering.{kept-as-told}
use Rattle.equipment_node.proofs.Seated.{step-moved}
use Rattle.equipment_node.proofs.Served.{next-recipes, next-tells}
use Rattle.equipment_node.proofs.StepBreaks.{ended-breaks}
use Rattle.equipment_node.proofs.StepCalls.{ended-called}

-- ---- whatever would have been handed back

module _ {D Q R K : Type 0} (keepers : keeper.Ghosts K) (before after : K) where
  pub by-other :
      (One : Result Q (Ended D) → Type 0) (Other : Result R (Ended D) → Type 0) (Unserved : D → Type 0)
      → ((end : Ended D) → One (Err end) → Other (Err end)) → (end : Ended D)
      → ByDisk keepers before after One Unserved (Err end) → ByDisk keepers before after Other Unserved (Err end)
  by-other One Other Unserved so (ended.NoMemory spent) is = so (ended.NoMemory spent) is
  by-other One Other Unserved so (ended.NumbersSpent spent) is = so (ended.NumbersSpent spent) is
  by-other One Other Unserved so (ended.DiskFailed spent) (inl is) = inl (so (ended.DiskFailed spent) is)
  by-other One Other Unserved so (ended.DiskFailed spent) (inr is) = inr is

  pub hands-other :
      (members : disk.Ghosts D) (one : Q → D) (other : R → D) (old : D) (end : Ended D)
      → HandsBoth members one old keepers before after (Err end)
      → HandsBoth members other old keepers before after (Err end)
  hands-other members one other old (ended.NoMemory spent) is = is
  hands-other members one other old (ended.NumbersSpent spent) is = is
  hands-other members one other old (ended.DiskFailed spent) is = is

-- ---- a step of the equipment

module _ {D K : Type 0} (members : disk.Ghosts D) (keepers : keeper.Ghosts K) (h : Held D K) (input : Input ToolCommand)
    (now : ℕ) (in_state : IsIn members keepers h)
  where
    abbrev s : EquipmentView
    s = view_in members keepers h

    -- its keeper tells the recipes of its state
    pub tells-kept : keepers.offers_is h.keeper ≡ true → IsRecipes keepers h.keeper s.recipes
    tells-kept offers = kept-as-told keepers h.keeper offers in_state.kept

    pub keeps-its : CanBeAsked keepers h.keeper (node_of h.tool).own → KeepsOf keepers h.keeper s
    keeps-its can offers = tells-kept (can.offers ∙ offers)

    -- it goes on
    pub moved-on :
        (out : StepOut) (k : Held D K) → CanBeAsked keepers h.keeper (node_of h.tool).own
        → HasStepped members s input now (node_of k.tool) out k.spool
        → (IsRecipes keepers h.keeper s.recipes
        → IsRecipes keepers k.keeper (recipes_behind (step_in (begun_step s input now)).next.node.own.owed s.recipes))
        → KeeperStays false keepers h.keeper k.keeper → StaysUnasked keepers h.keeper k.keeper
        → HasMoved members keepers h input now out k
    moved-on out k can is recipes stays unasked =
        let holds = holding in
        step-moved members keepers h k input now out is
        (next-recipes keepers h.keeper k.keeper s input now is.step is.is can stays.offers unasked refl holds)
        (next-tells keepers h.keeper k.keeper s input now is.step is.is can stays.offers unasked refl holds)
      where
        holding :
            keepers.offers_is h.keeper ≡ true
            → IsRecipes keepers k.keeper
            (recipes_behind (step_in (begun_step s input now)).next.node.own.owed s.recipes)
        holding offers = recipes (tells-kept offers)

    -- or it stops: this is handed back
    module _ (after : K) (end : Ended D) (why : Ending D K) (disk_is : of_disk why ≡ end)
        (keeper_is : keeper_of why ≡ after)
      where
        pub stops-so :
            (out : StepOut) → Steps members s input now (node_of h.tool) out (Err end)
            → Moves members keepers h input now out (Err (of_disk why))
        stops-so out steps =
            subst (λ (e : Ended D). Steps members s input now (node_of h.tool) out (Err e)) (sym disk_is) steps

        pub stops-recipes :
            HoldsAmid keepers s.recipes (step_in (begun_step s input now)).next.node.own after
            → RecipesAfter members keepers h input now (Err why)
        stops-recipes holds =
            subst
            (λ (k : K). HoldsAmid keepers s.recipes (step_in (begun_step s input now)).next.node.own k)
            (sym keeper_is) holds

        by-held :
            (One : Result (GemSpool D) (Ended D) → Type 0) (Other : Result (Held D K) (Ended D) → Type 0)
            (Unserved : D → Type 0) → ((e : Ended D) → One (Err e) → Other (Err e))
            → ByDisk keepers h.keeper after One Unserved (Err end)
            → ByDisk keepers h.keeper (keeper_of why) Other Unserved (Err (of_disk why))
        by-held One Other Unserved so is =
            subst (λ (e : Ended D). ByDisk keepers h.keeper (keeper_of why) Other Unserved (Err e)) (sym disk_is)
            (subst (λ (k : K). ByDisk keepers h.keeper k Other Unserved (Err end)) (sym keeper_is)
            (by-other keepers h.keeper after One Other Unserved so end is))

        pub stops-calls :
            ByDisk keepers h.keeper after
            (HasCalled members disk_in h.spool.spool.disk (standing_in s) (works_of s input now))
            (λ (new : D). HasMade members h.spool.spool.disk new
            (all_disk_calls (standing_in s) (works_of s input now)))
            (Err end)
            → CallsAfter members keepers h input now (Err why)
        stops-calls is =
            by-held (HasCalled members disk_in h.spool.spool.disk (standing_in s) (works_of s input now))
            (HasCalled members disk_held h.spool.spool.disk (standing_in s) (works_of s input now))
            (λ (new : D). HasMade members h.spool.spool.disk new
            (all_disk_calls (standing_in s) (works_of s input now)))
            (λ (e : Ended D).
            ended-called members disk_in (disk_held {K = K}) h.spool.spool.disk (standing_in s)
            (works_of s input now) e)
            is

        pub stops-breaks :
            (notes : List Note)
            → ByDisk keepers h.keeper after
            (BreaksBy members disk_in h.spool.spool.disk (losses s input now) notes)
            (Passes members h.spool.spool.disk (losses s input now)) (Err end)
            → BreaksAfter members keepers h input now notes (Err why)
        stops-breaks notes is =
            by-held (BreaksBy members disk_in h.spool.spool.disk (losses s input now) notes)
            (BreaksBy members disk_held h.spool.spool.disk (losses s input now) notes)
            (Passes members h.spool.spool.disk (losses s input now))
            (λ (e : Ended D).
            ended-breaks members disk_in (disk_held {K = K}) h.spool.spool.disk (losses s input now) notes e)
            is

-- also of one that isn't known to be in a state
module _ {D K : Type 0} (members : disk.Ghosts D) (keepers : keeper.Ghosts K) (h : Held D K) (after : K) (end : Ended D)
    (why : Ending D K) (disk_is : of_disk why ≡ end) (keeper_is : keeper_of why ≡ after)
  where
    pub stops-back :
        HandsBoth members disk_in h.spool.spool.disk keepers h.keeper after (Err end)
        → BothBack members keepers h (Err why)
    stops-back back =
        subst
        (λ (e : Ended D).
        HandsBoth members (disk_held {K = K}) h.spool.spool.disk keepers h.keeper (keeper_of why) (Err e)) (sym disk_is)
        (subst
        (λ (k : K). HandsBoth members (disk_held {K = K}) h.spool.spool.disk keepers h.keeper k (Err end))
        (sym keeper_is)
        (hands-other keepers h.keeper after members disk_in (disk_held {K = K}) h.spool.spool.disk end back))

    pub stops-unasked : StaysUnasked keepers h.keeper after → KeeperUnasked keepers h (Err why)
    stops-unasked unasked = subst (λ (k : K). StaysUnasked keepers h.keeper k) (sym keeper_is) unasked
