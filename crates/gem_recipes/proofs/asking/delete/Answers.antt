-- The recipes go behind a listing of their names, or the keeper has failed at that.

use Rattle.std.proofs.Common.{sym, ◌∙◌, All, List, ℕ, subst}
use Rattle.gem_recipes.specs.declared.asking.RecipesAsked.TheVariants as asking
use Rattle.gem_recipes.specs.Asking.{has_failed}
use Rattle.gem_recipes.specs.Recipes.{IsPpid}
use Rattle.gem_recipes.proofs.Serving.{none_made, served_behind, stays_on}
use Rattle.gem_recipes.proofs.asking.delete.Goals as goal

pub delete_of-requires-clause-known : goal.delete_of-requires-clause-known
delete_of-requires-clause-known g c =
    subst (λ (names : List (List ℕ)). All IsPpid names) (sym c.as_slice.ensures) c.in-Names.ensures.answer.0

pub returns-in-Names-clause-serves : goal.returns-in-Names-clause-serves
returns-in-Names-clause-serves g c =
    let k = g.K.RecipeKeeper in
    served_behind (k.slots c.args.keeper.now) (k.slots c.names.new.self) (asking.Delete c.args.names.now)
    (k.told c.args.keeper.now) (k.told c.names.new.self) (k.told c.delete_of.new.keeper) c.delete_of.result
    c.in-Names.ensures.same.0 c.in-Names.ensures.told
    (c.delete_of.ensures.serves (λ recipes here.
    c.in-Names.ensures.answer.1 recipes (sym c.in-Names.ensures.told ∙ here) ∙ sym c.as_slice.ensures))

pub returns-in-Names-clause-keeper : goal.returns-in-Names-clause-keeper
returns-in-Names-clause-keeper g c =
    stays_on g.K.RecipeKeeper c.args.keeper.now c.names.new.self c.delete_of.new.keeper (has_failed c.delete_of.result) (
      c.in-Names.ensures.same.0,
      c.in-Names.ensures.same.1,
      c.in-Names.ensures.sound,
      c.in-Names.ensures.cause,
    ) c.delete_of.ensures.keeper

pub returns-in-Failed-clause-serves : goal.returns-in-Failed-clause-serves
returns-in-Failed-clause-serves g c =
    none_made (g.K.RecipeKeeper.slots c.args.keeper.now) (asking.Delete c.args.names.now)
    (g.K.RecipeKeeper.told c.args.keeper.now) (g.K.RecipeKeeper.told c.names.new.self) c.in-Failed.ensures.told
