-- What a keeper of recipes makes of a step that asks it, and what comes of it behind that.
use Rattle.std.proofs.Common.{◌≡◌, inl, inr, refl, sym, ap, subst, ◌∙◌, Bool, true, false, List, length, Option}
use Rattle.std.proofs.Common.{Some, None}
use Rattle.std.specs.Prelude.{IfOk, Result, Ok, Err}
use Rattle.disk_base.specs.declared.disk.Disk as disk
use Rattle.gem_recipes.specs.Asking.{after_changes, changes_of}
use Rattle.gem_recipes.specs.History.{RecipeChange}
use Rattle.gem_recipes.specs.Keeper.{HasKeeperCause, IsSoundUnless}
use Rattle.gem_recipes.specs.declared.asking.Unanswered.{Unanswered}
use Rattle.gem_recipes.specs.declared.keeper.RecipeKeeper as keeper
use Rattle.gem_spool.specs.declared.spool.GemSpool.{GemSpool}
use Rattle.message_end.specs.Core.{EndView}
use Rattle.message_end.specs.Parts.{Node}
use Rattle.message_flow.specs.declared.step.StepOut.{StepOut}
use Rattle.spool_slots.specs.Spool.{SpoolView}
use Rattle.spool_works.specs.DiskCalls.{disk_in}
use Rattle.spool_works.specs.HandedBack.{IsEnded, IsKept}
use Rattle.spool_works.specs.declared.ended.Ended.{Ended}
use Rattle.spool_works.specs.declared.ended.Ended.TheVariants as ended
use Rattle.tool_core.specs.Serving.{HasServed, IsKept as IsRecipes, ServesOwed}
use Rattle.tool_law.proofs.Offers.{IsOffered, nothing-answered, offered-then}
use Rattle.tool_step.specs.Equipment.{served_own}
use Rattle.tool_step.specs.Own.{OwnView, ToolPart}
use Rattle.tool_step.specs.Recipes.{RecipesView, owes_recipes, recipes_behind}
use Rattle.tool_step.specs.declared.kind.Kind.{Kind}
use Rattle.tool_step.specs.declared.owed.Owed.{Owed}
use Rattle.tool_step.specs.declared.owed.Owed.TheVariants.{Answered, Keep, Recipes as OfRecipes}
use Rattle.equipment_node.specs.Amid.{DoesLast, IsReady, ServesLast, served_node}
use Rattle.equipment_node.specs.Keeping.{ByDisk, CanBeAsked, HandsBoth, HoldsAmid, HoldsServed, KeeperStays, ServesAt}
use Rattle.equipment_node.proofs.Offering.{asked-on, none-owed-of, stays-still}
use Rattle.equipment_node.proofs.OnDisk.{take-all}

never : ◌≡◌ {A = Bool} false true → ⊥
never is = cc

-- ---- the tool behind it

-- nothing but what is owed changes, and nothing is asked any more
pub served-offers : (own other : OwnView) → HasServed own other → IsOffered own other
served-offers own other is = record {
  same = ap (λ (o : OwnView). o.offers) is.rest;
  keeps = λ offered owes. absurd (never (sym is.asks ∙ owes));
}

with-owed-ready : {D : Type 0} (members : disk.Ghosts D) (v : SpoolView D) (old : Node OwnView Kind)
    (owed : Option Owed)
    (core : EndView Kind) → IsReady members v old
    → IsReady members v (record { own = record old.own { owed = owed }; core = core })
with-owed-ready members v old owed core ready = record {
  counted = ready.counted;
  holds = ready.holds;
  sound = record {
    plan = ready.sound.plan;
    fits = ready.sound.fits;
    sound = record {
      plan_is = ready.sound.sound.plan_is;
      texts = ready.sound.sound.texts;
      traced = ready.sound.sound.traced;
      reports = ready.sound.sound.reports;
      ledger = ready.sound.sound.ledger;
    };
  };
}

pub served-ready : {D : Type 0} (members : disk.Ghosts D) (v : SpoolView D) (old new : Node OwnView Kind)
    → IsReady members v old → HasServed old.own new.own → IsReady members v new
served-ready members v old new ready is =
    subst (λ (o : OwnView). IsReady members v (record { own = o; core = new.core })) (sym is.rest)
    (with-owed-ready members v old new.own.owed new.core ready)

-- where nothing is owed to the recipes, they answer nothing
unserved-own : (own : OwnView) (kept : RecipesView) → owes_recipes own.owed ≡ false → own ≡ served_own kept own
unserved-own own kept none =
    ap (λ (owed : Option Owed). record own { owed = owed }) (sym (nothing-answered kept own.owed none))

module _ {K : Type 0} (keepers : keeper.Ghosts K) (before after : K) (own other : OwnView) (kept : RecipesView)
    (can : CanBeAsked keepers before own) (tells : own.offers ≡ true → IsRecipes keepers before kept)
  where
    pub own-served :
        ((some : RecipesView) → IsRecipes keepers before some → ServesOwed keepers some own other after (Ok tt))
        → (owes_recipes own.owed ≡ false
        → (◌≡◌ {A = Result (Unit {0}) Unanswered} (Ok tt) (Ok tt)) × (other ≡ own) × (after ≡ before))
        → other ≡ served_own kept own
    own-served serves none = go own.offers refl
      where
        go : (offers : Bool) → own.offers ≡ offers → other ≡ served_own kept own
        go true is = (serves kept (tells is)).0
        go false is =
            let owes = none-owed-of keepers before own can is in (none owes).1 ∙ unserved-own own kept owes

pub node-served : (old new : Node OwnView Kind) (kept : RecipesView) → new.own ≡ served_own kept old.own
    → new.core ≡ old.core → new ≡ served_node kept old
node-served old new kept own core =
    ap (λ (o : OwnView). record { own = o; core = new.core }) own
    ∙ ap (λ (e : EndView Kind). record { own = served_own kept old.own; core = e }) core

-- where it has failed, or memory was wanting, it was asked
pub was-asked : (owes : Bool) (why : Unanswered)
    → (owes ≡ false → ◌≡◌ {A = Result (Unit {0}) Unanswered} (Err why) (Ok tt)) → owes ≡ true
was-asked true why none = refl
was-asked false why none = absurd (no (none refl))
  where
    no : ◌≡◌ {A = Result (Unit {0}) Unanswered} (Err why) (Ok tt) → ⊥
    no is = cc

-- ---- the keeper behind it

pub stays-by :
    {K : Type 0} (keepers : keeper.Ghosts K) (before after : K) (failed : Bool)
    → (keepers.slots after ≡ keepers.slots before) × (keepers.offers_is after ≡ keepers.offers_is before)
    → (keepers.sound before → IsSoundUnless failed (keepers.sound after))
    → HasKeeperCause failed (keepers.faults before) (keepers.faults after) → KeeperStays failed keepers before after
stays-by keepers before after failed same sound cause =
    record { slots = same.0; offers = same.1; sound = sound; cause = cause }

pub can-be-if :
    {D K : Type 0} (keepers : keeper.Ghosts K) (before after : K) (one two three : OwnView)
    (result : Result (GemSpool D) (Ended D)) → CanBeAsked keepers before one → KeeperStays false keepers before after
    → IsOffered one two → IfOk result (λ g. IsOffered two three)
    → IfOk result (λ g. CanBeAsked keepers after three)
can-be-if keepers before after one two three (Ok g) can stays first second =
    asked-on keepers before after one three can stays (offered-then one two three first second)
can-be-if keepers before after one two three (Err end) can stays first second = tt

-- ---- the step behind it

module _ {D : Type 0} (members : disk.Ghosts D) where
  pub last-served :
      (kept : RecipesView) (g : GemSpool D) (parts : List ToolPart) (old mid new : Node OwnView Kind)
      (out after : StepOut) (result : Result (GemSpool D) (Ended D)) → mid ≡ served_node kept old
      → DoesLast members g parts mid out new after result
      → ServesLast members kept g parts old out new after result
  last-served kept g parts old mid new out after result same does =
      go result (subst (λ (n : Node OwnView Kind). DoesLast members g parts n out new after result) same does)
    where
      go : (result : Result (GemSpool D) (Ended D))
          → DoesLast members g parts (served_node kept old) out new after result
          → ServesLast members kept g parts old out new after result
      go (Ok h) does = does
      go (Err (ended.NumbersSpent spent)) does = does
      go (Err (ended.DiskFailed spent)) does = absurd does
      go (Err (ended.NoMemory spent)) does = does

  pub last-at :
      {K : Type 0} (keepers : keeper.Ghosts K) (before after : K) (g : GemSpool D) (parts : List ToolPart)
      (old new : Node OwnView Kind) (out later : StepOut) (result : Result (GemSpool D) (Ended D))
      → KeeperStays false keepers before after → DoesLast members g parts old out new later result
      → ServesAt keepers before after g.spool.disk result
  last-at keepers before after g parts old new out later (Ok h) stays does =
      (ap (λ (x : GemSpool D). x.spool.disk) does.0, stays)
  last-at keepers before after g parts old new out later (Err (ended.NumbersSpent spent)) stays does = (does.0, stays)
  last-at keepers before after g parts old new out later (Err (ended.DiskFailed spent)) stays does = absurd does
  last-at keepers before after g parts old new out later (Err (ended.NoMemory spent)) stays does = (does, stays)

-- ---- the recipes behind it

-- with all of the changes
holds-all :
    {K : Type 0} (keepers : keeper.Ghosts K) (kept : RecipesView) (own : OwnView) (k : K)
    → IsRecipes keepers k (recipes_behind own.owed kept) → HoldsAmid keepers kept own k
holds-all keepers kept own k is = go own.owed refl
  where
    still : (owed : Option Owed) → own.owed ≡ owed → recipes_behind owed kept ≡ kept → HoldsAmid keepers kept own k
    still owed same stays =
        inl
        (subst (λ (v : RecipesView). IsRecipes keepers k v)
        (ap (λ (o : Option Owed). recipes_behind o kept) same ∙ stays) is)

    go : (owed : Option Owed) → own.owed ≡ owed → HoldsAmid keepers kept own k
    go None same = still None same refl
    go (Some (Keep primary)) same = still (Some (Keep primary)) same refl
    go (Some (Answered given primary)) same = still (Some (Answered given primary)) same refl
    go (Some (OfRecipes asked primary)) same =
        inr
        (record {
          asked = asked;
          primary = primary;
          owed = same;
          amid = record {
            count = length (changes_of kept.slots asked kept.map);
            is =
                is.map
                ∙ ap (λ (o : Option Owed). Some (recipes_behind o kept).map) same
                ∙ ap (λ (changes : List RecipeChange). Some (after_changes changes kept.map))
                (sym (take-all (changes_of kept.slots asked kept.map)));
          };
        })

pub holds-served :
    {D K : Type 0} (keepers : keeper.Ghosts K) (kept : RecipesView) (own : OwnView) (k : K)
    (result : Result (GemSpool D) (Ended D)) → IsRecipes keepers k (recipes_behind own.owed kept)
    → HoldsServed keepers kept own k result
holds-served keepers kept own k (Ok g) is = is
holds-served keepers kept own k (Err end) is = holds-all keepers kept own k is

-- by what is owed alone
pub holds-owed :
    {D K : Type 0} (keepers : keeper.Ghosts K) (kept : RecipesView) (one other : OwnView) (k : K)
    (result : Result (GemSpool D) (Ended D)) → one.owed ≡ other.owed → HoldsServed keepers kept one k result
    → HoldsServed keepers kept other k result
holds-owed keepers kept one other k (Ok g) same is =
    subst (λ (o : Option Owed). IsRecipes keepers k (recipes_behind o kept)) same is
holds-owed keepers kept one other k (Err end) same (inl is) = inl is
holds-owed keepers kept one other k (Err end) same (inr is) =
    inr (record { asked = is.asked; primary = is.primary; owed = sym same ∙ is.owed; amid = is.amid })

-- ---- a step that was served, and one that has ended before

module _ {D K : Type 0} (members : disk.Ghosts D) (keepers : keeper.Ghosts K) (old at : D) (before after : K) where
  pub served-both : (result : Result (GemSpool D) (Ended D)) → IsKept members old at
      → ServesAt keepers before after at result → HandsBoth members disk_in old keepers before after result
  served-both (Ok g) kept is = (kept-to g.spool.disk is.0, is.1)
    where
      kept-to : (new : D) → new ≡ at → IsKept members old new
      kept-to new same = subst (λ (d : D). IsKept members old d) (sym same) kept
  served-both (Err (ended.NoMemory spent)) kept is =
      (subst (λ (d : D). IsKept members old d) (sym is.0) kept, is.1)
  served-both (Err (ended.NumbersSpent spent)) kept is =
      (subst (λ (d : D). IsKept members old d) (sym is.0) kept, is.1)
  served-both (Err (ended.DiskFailed spent)) kept is =
      inr (subst (λ (d : D). IsKept members old d) (sym is.0) kept, is.1)

module _ {D K : Type 0} (members : disk.Ghosts D) (keepers : keeper.Ghosts K) (old : D) (k : K) where
  pub ended-both : (end : Ended D) → IsEnded members old end → HandsBoth members disk_in old keepers k k (Err end)
  ended-both (ended.NoMemory spent) is = (is, stays-still keepers k)
  ended-both (ended.NumbersSpent spent) is = (is, stays-still keepers k)
  ended-both (ended.DiskFailed spent) is = inl (is, stays-still keepers k)

  pub ended-by : (By : Result (GemSpool D) (Ended D) → Type 0) (Unserved : D → Type 0) (end : Ended D) → By (Err end)
      → ByDisk keepers k k By Unserved (Err end)
  ended-by By Unserved (ended.NoMemory spent) is = is
  ended-by By Unserved (ended.NumbersSpent spent) is = is
  ended-by By Unserved (ended.DiskFailed spent) is = inl is
