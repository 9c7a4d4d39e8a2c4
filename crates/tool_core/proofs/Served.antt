-- What a keeper of recipes answers to what is owed to it.
use Rattle.std.proofs.Common.{◌≡◌, refl, sym, ap, subst, ◌∙◌, ℕ, Bool, true, false, Option, None, Some}
use Rattle.std.specs.Prelude.{Ok, Err}
use Rattle.gem_recipes.specs.declared.asking.RecipesAnswer.{RecipesAnswer}
use Rattle.gem_recipes.specs.declared.asking.RecipesAsked.{RecipesAsked}
use Rattle.gem_recipes.specs.declared.asking.Unanswered.{Unanswered}
use Rattle.gem_recipes.specs.declared.asking.Unanswered.TheVariants as unanswered
use Rattle.gem_recipes.specs.declared.keeper.RecipeKeeper as keeper
use Rattle.gem_recipes.specs.Asking.{IsAmid, Serves}
use Rattle.gem_recipes.specs.Recipes.{Recipes}
use Rattle.message_flow.specs.declared.message.Message.{Message}
use Rattle.tool_step.specs.declared.owed.Owed.{Owed}
use Rattle.tool_step.specs.declared.owed.Owed.TheVariants.{Answered, Keep, Recipes as OfRecipes}
use Rattle.tool_step.specs.Own.{OwnView}
use Rattle.tool_step.specs.Recipes.{RecipesView, answered_by, owes_recipes, recipes_behind}
use Rattle.tool_core.specs.Serving.{IsKept, ServesOwed}

-- it is asked, which it isn't where nothing is asked of the recipes
pub asks :
    {A : Type 0} (owed : Option Owed) (asked : RecipesAsked) (primary : Message)
    → owed ≡ Some (OfRecipes asked primary) → owes_recipes owed ≡ false → A
asks owed asked primary is none = absurd (never (sym (ap owes_recipes is) ∙ none))
  where
    never : ◌≡◌ {A = Bool} true false → ⊥
    never is = cc

-- what the keeper says of the slots and recipes that it has is so of those that are kept
of_kept :
    {K : Type 0} (members : keeper.Ghosts K) (kept : RecipesView) (old : K) → IsKept members old kept
    → (Says : ℕ → Option Recipes → Type 0) → Says (members.slots old) (members.told old)
    → Says kept.slots (Some kept.map)
of_kept members kept old is Says said =
    subst (λ n. Says n (Some kept.map)) is.slots
    (subst (λ (told : Option Recipes). Says (members.slots old) told) is.map said)

-- it has answered
pub serves_given :
    {K : Type 0} (members : keeper.Ghosts K) (kept : RecipesView) (before : OwnView) (old new : K)
    (asked : RecipesAsked) (primary : Message) (given : RecipesAnswer)
    → IsKept members old kept → before.owed ≡ Some (OfRecipes asked primary)
    → Serves (members.slots old) asked (members.told old) (members.told new) (Ok given)
    → members.slots new ≡ members.slots old
    → ServesOwed members kept before (record before { owed = Some (Answered given primary) }) new (Ok tt)
serves_given members kept before old new asked primary given is owed serves same =
    let here = of_kept members kept old is (λ n told. Serves n asked told (members.told new) (Ok given)) serves in (
      ap (λ (o : Option Owed). record before { owed = o })
          (ap (λ (a : RecipesAnswer). Some (Answered a primary)) (sym (here.0 kept.map refl))
          ∙ sym (ap (answered_by kept) owed)),
      record {
        map = here.1 ∙ ap (λ (o : Option Owed). Some (recipes_behind o kept).map) (sym owed);
        slots = same ∙ is.slots ∙ ap (λ (o : Option Owed). (recipes_behind o kept).slots) (sym owed);
      },
    )

-- or it hasn't
pub serves_not :
    {K : Type 0} (members : keeper.Ghosts K) (kept : RecipesView) (before after : OwnView) (old new : K)
    (asked : RecipesAsked) (primary : Message) (why : Unanswered)
    → IsKept members old kept → before.owed ≡ Some (OfRecipes asked primary)
    → Serves (members.slots old) asked (members.told old) (members.told new) (Err why)
    → members.slots new ≡ members.slots old → ServesOwed members kept before after new (Err why)
serves_not members kept before after old new asked primary unanswered.Failed is owed serves same = record {
  asked = asked;
  primary = primary;
  owed = owed;
  amid = of_kept members kept old is (λ n told. IsAmid n asked told (members.told new)) serves;
}
serves_not members kept before after old new asked primary unanswered.NoMemory is owed serves same =
    record { map = serves ∙ is.map; slots = same ∙ is.slots }

-- what is owed is owed again
pub stays : (own : OwnView) {owed : Option Owed} → own.owed ≡ owed → record own { owed = owed } ≡ own
stays own is = ap (λ (o : Option Owed). record own { owed = o }) (sym is)

-- where nothing is asked of the recipes, they answer nothing and stay
unasked :
    (kept : RecipesView) (owed : Option Owed) → owes_recipes owed ≡ false
    → (answered_by kept owed ≡ owed) × (recipes_behind owed kept ≡ kept)
unasked kept None none = (refl, refl)
unasked kept (Some (Keep primary)) none = (refl, refl)
unasked kept (Some (Answered given primary)) none = (refl, refl)
unasked kept (Some (OfRecipes asked primary)) none = absurd cc

-- nothing is owed to it
pub serves_nothing :
    {K : Type 0} (members : keeper.Ghosts K) (kept : RecipesView) (before : OwnView) (k : K) (owed : Option Owed)
    → IsKept members k kept → before.owed ≡ owed → owes_recipes owed ≡ false
    → ServesOwed members kept before (record before { owed = owed }) k (Ok tt)
serves_nothing members kept before k owed is owes none =
    let same = unasked kept owed none in (
      ap (λ (o : Option Owed). record before { owed = o }) (sym same.0 ∙ sym (ap (answered_by kept) owes)),
      subst (λ (v : RecipesView). IsKept members k v)
          (sym (ap (λ (o : Option Owed). recipes_behind o kept) owes ∙ same.1))
          is,
    )
