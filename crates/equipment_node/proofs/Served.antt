-- That the recipes of an equipment behind a step are those that its keeper has then.
use Rattle.std.proofs.Common.{◌≡◌, refl, sym, ap, ◌∙◌, Bool, true, false, ℕ}
use Rattle.gem_recipes.specs.declared.keeper.RecipeKeeper as keeper
use Rattle.message_end.specs.Core.{Step, Went, and_then, step_in}
use Rattle.message_end.specs.Core.Went.{Goes, Spent}
use Rattle.message_end.specs.Ends.{Input}
use Rattle.tool_core.specs.Serving.{IsKept as IsRecipes}
use Rattle.tool_law.proofs.Offers.{IsWithout, begun-recipes, parts-recipes, stays-without}
use Rattle.tool_step.specs.Equipment.{EquipmentView, act, begun_step, done_step, ended_step, oldest_of, settled_went}
use Rattle.tool_step.specs.Recipes.{RecipesView, recipes_behind}
use Rattle.tool_step.specs.Step.{last_parts}
use Rattle.trace_log.specs.Log.{Happening}
use Rattle.trace_log.specs.declared.commands.ToolCommand.{ToolCommand}
use Rattle.equipment_node.specs.Keeping.{CanBeAsked, StaysUnasked, TellsOffered, recipes_of}
use Rattle.equipment_node.proofs.Offering.{none-owed-of, none-told, told-as-kept}

-- what a step leaves of the recipes, where it goes on
act-recipes :
    (s : EquipmentView) (input : Input ToolCommand) (now : ℕ) (step : Step EquipmentView Happening)
    → act s input now ≡ Goes step
    → step.next.recipes ≡ recipes_behind (step_in (begun_step s input now)).next.node.own.owed s.recipes
act-recipes s input now step is = go (begun_step s input now) (begun-recipes s input now) is
  where
    none : {A : Type 0} (early : Step EquipmentView Happening) → Spent early ≡ Goes step → A
    none early is = absurd (cc)

    go : (begun : Went EquipmentView Happening) → (step_in begun).next.recipes ≡ s.recipes
        → and_then (settled_went begun) (ended_step now) ≡ Goes step
        → step.next.recipes ≡ recipes_behind (step_in begun).next.node.own.owed s.recipes
    go (Spent early) kept is = none _ is
    go (Goes begun) kept is =
        let done = done_step begun in
        ap (λ (w : Went EquipmentView Happening). (step_in w).next.recipes) (sym is)
        ∙ parts-recipes (last_parts (oldest_of done.next) now) done
        ∙ ap (λ (recipes : RecipesView). recipes_behind begun.next.node.own.owed recipes) kept

module _ {K : Type 0} (keepers : keeper.Ghosts K) (before after : K) (s : EquipmentView) (input : Input ToolCommand)
    (now : ℕ) (step : Step EquipmentView Happening) (is : act s input now ≡ Goes step)
    (can : CanBeAsked keepers before s.node.own) (same : keepers.offers_is after ≡ keepers.offers_is before)
    (unasked : StaysUnasked keepers before after) (recipes : s.recipes ≡ recipes_of keepers before)
  where
    pub next-recipes :
        (keepers.offers_is before ≡ true
        → IsRecipes keepers after (recipes_behind (step_in (begun_step s input now)).next.node.own.owed s.recipes))
        → step.next.recipes ≡ recipes_of keepers after
    next-recipes holds = go (keepers.offers_is before) refl
      where
        go : (offers : Bool) → keepers.offers_is before ≡ offers → step.next.recipes ≡ recipes_of keepers after
        go true offers =
            act-recipes s input now step is
            ∙ told-as-kept keepers after _ (same ∙ offers) (holds offers)
        go false offers =
            let without : IsWithout s = record {
              offers = sym can.offers ∙ offers;
              asks = none-owed-of keepers before s.node.own can (sym can.offers ∙ offers);
              none = recipes ∙ none-told keepers before offers;
            } in
            ap (λ (w : Went EquipmentView Happening). (step_in w).next.recipes) (sym is)
            ∙ (stays-without s input now without).none
            ∙ sym (none-told keepers after (same ∙ offers))

    pub next-tells :
        (keepers.offers_is before ≡ true
        → IsRecipes keepers after (recipes_behind (step_in (begun_step s input now)).next.node.own.owed s.recipes))
        → TellsOffered keepers after
    next-tells holds offers = let kept = holds (sym same ∙ offers) in (_, kept.map)
