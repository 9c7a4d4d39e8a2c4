-- Each request by the function that carries it out.

use Rattle.std.proofs.Common.{List, ℕ, sym, subst}
use Rattle.gem_recipes.specs.declared.asking.RecipesAsked.{RecipesAsked}
use Rattle.gem_recipes.specs.declared.asking.RecipesAsked.TheVariants as asking
use Rattle.gem_recipes.specs.Asking.{Serves}
use Rattle.gem_recipes.proofs.asking.RecipesAsked.answer_by.Goals as goal

pub returns-in-Inquire-clause-serves : goal.returns-in-Inquire-clause-serves
returns-in-Inquire-clause-serves g c =
    subst
    (λ (asked : RecipesAsked).
    Serves (g.K.RecipeKeeper.slots c.args.keeper.now) asked (g.K.RecipeKeeper.told c.args.keeper.now)
    (g.K.RecipeKeeper.told c.inquire.new.keeper) c.inquire.result)
    (sym c.in-Inquire.is) c.inquire.ensures.serves

pub returns-in-Send-clause-serves : goal.returns-in-Send-clause-serves
returns-in-Send-clause-serves g c =
    subst
    (λ (asked : RecipesAsked).
    Serves (g.K.RecipeKeeper.slots c.args.keeper.now) asked (g.K.RecipeKeeper.told c.args.keeper.now)
    (g.K.RecipeKeeper.told c.send.new.keeper) c.send.result)
    (sym c.in-Send.is) c.send.ensures.serves

pub returns-in-Ask-clause-serves : goal.returns-in-Ask-clause-serves
returns-in-Ask-clause-serves g c =
    subst
    (λ (asked : RecipesAsked).
    Serves (g.K.RecipeKeeper.slots c.args.keeper.now) asked (g.K.RecipeKeeper.told c.args.keeper.now)
    (g.K.RecipeKeeper.told c.ask.new.keeper) c.ask.result)
    (sym c.in-Ask.is) c.ask.ensures.serves

pub returns-in-Delete-clause-serves : goal.returns-in-Delete-clause-serves
returns-in-Delete-clause-serves g c =
    subst
    (λ (asked : RecipesAsked).
    Serves (g.K.RecipeKeeper.slots c.args.keeper.now) asked (g.K.RecipeKeeper.told c.args.keeper.now)
    (g.K.RecipeKeeper.told c.delete.new.keeper) c.delete.result)
    (sym c.in-Delete.is)
    (subst
    (λ (names : List (List ℕ)).
    Serves (g.K.RecipeKeeper.slots c.args.keeper.now) (asking.Delete names) (g.K.RecipeKeeper.told c.args.keeper.now)
    (g.K.RecipeKeeper.told c.delete.new.keeper) c.delete.result)
    c.as_slice.ensures c.delete.ensures.serves)

pub returns-in-List-clause-serves : goal.returns-in-List-clause-serves
returns-in-List-clause-serves g c =
    subst
    (λ (asked : RecipesAsked).
    Serves (g.K.RecipeKeeper.slots c.args.keeper.now) asked (g.K.RecipeKeeper.told c.args.keeper.now)
    (g.K.RecipeKeeper.told c.list.new.keeper) c.list.result)
    (sym c.in-List.is) c.list.ensures.serves
