-- What the code says of the keeper of recipes that it asks in a step.
use Rattle.std.specs.Prelude.{◌≡◌, ◌⊎◌, ℕ, Bool, true, false, Option, Some, None, Result, Ok, Err, if◌then◌else◌}
use Rattle.std.specs.FinMap.{empty}
use Rattle.std.specs.Option.{unwrap_or}
use Rattle.disk_base.specs.declared.disk.Disk as disk
use Rattle.gem_recipes.specs.Keeper.{HasKeeperCause, IsSoundUnless}
use Rattle.gem_recipes.specs.Recipes.{Recipes}
use Rattle.gem_recipes.specs.declared.keeper.RecipeKeeper as keeper
use Rattle.gem_recipes.specs.declared.no_recipes.NoRecipes.{NoRecipes}
use Rattle.gem_spool.specs.declared.spool.GemSpool.{GemSpool}
use Rattle.gl_base.specs.Faults.{Rose}
use Rattle.message_end.specs.Core.{Went, step_in}
use Rattle.message_end.specs.Core.Went.{Goes, Spent}
use Rattle.message_end.specs.Ends.{Input}
use Rattle.spool_file.specs.File.{SpoolFile}
use Rattle.spool_works.specs.HandedBack.{HasFailed, IsKept}
use Rattle.spool_works.specs.declared.ended.Ended.{Ended}
use Rattle.spool_works.specs.declared.ended.Ended.TheVariants as ended
use Rattle.equipment_tables.specs.declared.plan.EquipmentPlan.{EquipmentPlan}
use Rattle.tool_core.specs.Serving.{IsKept as IsRecipes, IsLeftAmid}
use Rattle.tool_law.proofs.Offers.{AsksOffered}
use Rattle.tool_step.specs.Equipment.{EquipmentView, begun_step, offering, starts}
use Rattle.tool_step.specs.Own.{OwnView}
use Rattle.tool_step.specs.Recipes.{RecipesView, no_recipes, recipes_behind}
use Rattle.trace_log.specs.Log.{Happening}
use Rattle.trace_log.specs.declared.commands.ToolCommand.{ToolCommand}

-- ---- the recipes of an equipment

-- the keeper of one that offers none
abbrev pub no_keeper : NoRecipes
no_keeper = record {}

-- those that a host is offered, if any are, as the keeper tells them
abbrev pub offered_by : {K : Type 0} → keeper.Ghosts K → K → Option RecipesView
offered_by keepers k =
    if keepers.offers_is k then Some (record { slots = keepers.slots k; map = unwrap_or (keepers.told k) empty })
    else None

abbrev pub recipes_of : {K : Type 0} → keeper.Ghosts K → K → RecipesView
recipes_of keepers k = unwrap_or (offered_by keepers k) no_recipes

-- one that is asked tells them
abbrev pub TellsOffered : {K : Type 0} → keeper.Ghosts K → K → Type 0
TellsOffered keepers k = keepers.offers_is k ≡ true → (kept : Recipes) × (keepers.told k ≡ Some kept)

-- a host is offered recipes where the keeper has them for it, which can be asked then; and they are asked nowhere else
pub record CanBeAsked {K : Type 0} (keepers : keeper.Ghosts K) (k : K) (own : OwnView) : Type 0 where
  pub offers : keepers.offers_is k ≡ own.offers
  pub sound : own.offers ≡ true → keepers.sound k
  pub asks : AsksOffered own

-- it tells that it keeps the recipes of this state, if a host is offered any
abbrev pub KeepsOf : {K : Type 0} → keeper.Ghosts K → K → EquipmentView → Type 0
KeepsOf keepers k s = s.node.own.offers ≡ true → IsRecipes keepers k s.recipes

-- a start is one with these recipes, where a host is offered any
abbrev pub offering_went : RecipesView → Went EquipmentView Happening → Went EquipmentView Happening
offering_went kept (Goes step) = Goes (record step { next = offering kept step.next })
offering_went kept (Spent step) = Spent (record step { next = offering kept step.next })

abbrev pub starts_with : Option RecipesView → EquipmentPlan → SpoolFile → Went EquipmentView Happening
starts_with None plan file = starts plan file
starts_with (Some kept) plan file = offering_went kept (starts plan file)

-- ---- a step

-- no call changes the slots, and whether they are offered; a keeper that has failed has counted a fault, and any other
-- can be asked further
pub record KeeperStays {K : Type 0} (failed : Bool) (keepers : keeper.Ghosts K) (before after : K) : Type 0 where
  pub slots : keepers.slots after ≡ keepers.slots before
  pub offers : keepers.offers_is after ≡ keepers.offers_is before
  pub sound : keepers.sound before → IsSoundUnless failed (keepers.sound after)
  pub cause : HasKeeperCause failed (keepers.faults before) (keepers.faults after)

-- one of which a host is offered nothing is as it was
abbrev pub StaysUnasked : {K : Type 0} → keeper.Ghosts K → (before after : K) → Type 0
StaysUnasked keepers before after = keepers.offers_is before ≡ false → after ≡ before

-- the disk and the keeper are handed back, of which one has failed where the answer is `DiskFailed`, and none elsewhere
abbrev pub HandsBoth :
    {D R K : Type 0} → disk.Ghosts D → (R → D) → D → keeper.Ghosts K → (before after : K) → Result R (Ended D) → Type 0
HandsBoth members disk_of old keepers before after (Ok r) =
    IsKept members old (disk_of r) × KeeperStays false keepers before after
HandsBoth members disk_of old keepers before after (Err (ended.NoMemory spent)) =
    IsKept members old spent.disk × KeeperStays false keepers before after
HandsBoth members disk_of old keepers before after (Err (ended.NumbersSpent spent)) =
    IsKept members old spent.disk × KeeperStays false keepers before after
HandsBoth members disk_of old keepers before after (Err (ended.DiskFailed spent)) =
    (HasFailed members old spent.disk × KeeperStays false keepers before after)
    ⊎ (IsKept members old spent.disk × KeeperStays true keepers before after)

-- where the disk has done all, it stays so, whatever becomes of the keeper
abbrev pub ServesAt :
    {D K : Type 0} → keeper.Ghosts K → (before after : K) → D → Result (GemSpool D) (Ended D) → Type 0
ServesAt keepers before after at (Ok g) = (g.spool.disk ≡ at) × KeeperStays false keepers before after
ServesAt keepers before after at (Err (ended.NoMemory spent)) =
    (spent.disk ≡ at) × KeeperStays false keepers before after
ServesAt keepers before after at (Err (ended.NumbersSpent spent)) =
    (spent.disk ≡ at) × KeeperStays false keepers before after
ServesAt keepers before after at (Err (ended.DiskFailed spent)) =
    (spent.disk ≡ at) × KeeperStays true keepers before after

-- it comes to its end so by the disk, unless the keeper has failed, of which this is said
abbrev pub ByDisk :
    {D R K : Type 0} → keeper.Ghosts K → (before after : K) → (Result R (Ended D) → Type 0) → (D → Type 0)
    → Result R (Ended D) → Type 0
ByDisk keepers before after By Unserved (Ok r) = By (Ok r)
ByDisk keepers before after By Unserved (Err (ended.NoMemory spent)) = By (Err (ended.NoMemory spent))
ByDisk keepers before after By Unserved (Err (ended.NumbersSpent spent)) = By (Err (ended.NumbersSpent spent))
ByDisk keepers before after By Unserved (Err (ended.DiskFailed spent)) =
    By (Err (ended.DiskFailed spent)) ⊎ (Rose (keepers.faults before) (keepers.faults after) × Unserved spent.disk)

-- the keeper holds these recipes, or those with some first of the changes that were asked for
abbrev pub HoldsAmid : {K : Type 0} → keeper.Ghosts K → RecipesView → (before : OwnView) → K → Type 0
HoldsAmid keepers kept before k = IsRecipes keepers k kept ⊎ IsLeftAmid keepers kept before k

-- it holds them with all of the changes, unless the step ends early
abbrev pub HoldsServed :
    {D R K : Type 0} → keeper.Ghosts K → RecipesView → (before : OwnView) → K → Result R (Ended D) → Type 0
HoldsServed keepers kept before k (Ok r) = IsRecipes keepers k (recipes_behind before.owed kept)
HoldsServed keepers kept before k (Err end) = HoldsAmid keepers kept before k

-- of a step: what is asked of the recipes is what is owed to them by all that is due and given
abbrev pub LeavesRecipes :
    {D R K : Type 0} → keeper.Ghosts K → EquipmentView → Input ToolCommand → ℕ → K → Result R (Ended D) → Type 0
LeavesRecipes keepers s input now k result =
    HoldsServed keepers s.recipes (step_in (begun_step s input now)).next.node.own k result
