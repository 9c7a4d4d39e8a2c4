-- What the code says of a keeper of recipes that is asked in a step.
use Rattle.std.specs.Prelude.{◌≡◌, false, Some, Result, Ok, Err}
use Rattle.gem_recipes.specs.declared.asking.RecipesAsked.{RecipesAsked}
use Rattle.gem_recipes.specs.declared.asking.Unanswered.{Unanswered}
use Rattle.gem_recipes.specs.declared.asking.Unanswered.TheVariants as unanswered
use Rattle.gem_recipes.specs.declared.keeper.RecipeKeeper as keeper
use Rattle.gem_recipes.specs.Asking.{IsAmid}
use Rattle.message_flow.specs.declared.message.Message.{Message}
use Rattle.tool_step.specs.declared.owed.Owed.TheVariants as owed
use Rattle.tool_step.specs.Equipment.{served_own}
use Rattle.tool_step.specs.Own.{OwnView}
use Rattle.tool_step.specs.Recipes.{RecipesView, owes_recipes, recipes_behind}

-- the keeper tells that it keeps this
pub record IsKept {K : Type 0} (members : keeper.Ghosts K) (k : K) (kept : RecipesView) : Type 0 where
  pub map : members.told k ≡ Some kept.map
  pub slots : members.slots k ≡ kept.slots

-- whatever it tells: what is owed changes alone, and nothing is asked of the recipes any more
pub record HasServed (before after : OwnView) : Type 0 where
  pub rest : after ≡ record before { owed = after.owed }
  pub asks : owes_recipes after.owed ≡ false

-- some first of the changes are made that were asked for
pub record IsLeftAmid {K : Type 0} (members : keeper.Ghosts K) (kept : RecipesView) (before : OwnView) (k : K)
    : Type 0 where
  pub asked : RecipesAsked
  pub primary : Message
  pub owed : before.owed ≡ Some (owed.Recipes asked primary)
  pub amid : IsAmid kept.slots asked (Some kept.map) (members.told k)

abbrev pub ServesOwed :
    {K : Type 0} → keeper.Ghosts K → RecipesView → (before after : OwnView) → K → Result (Unit {0}) Unanswered → Type 0
ServesOwed members kept before after k (Ok done) =
    (after ≡ served_own kept before) × IsKept members k (recipes_behind before.owed kept)
ServesOwed members kept before after k (Err unanswered.Failed) = IsLeftAmid members kept before k
ServesOwed members kept before after k (Err unanswered.NoMemory) = IsKept members k kept
