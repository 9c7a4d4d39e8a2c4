-- All that are named are known, or none of them goes.

use Rattle.std.proofs.Common.{sym}
use Rattle.gem_recipes.specs.Asking.{has_name}
use Rattle.gem_recipes.proofs.Serving.{deleted_named, deleted_none}
use Rattle.gem_recipes.proofs.asking.delete_known.Goals as goal

pub returns-then-has_all-clause-serves : goal.returns-then-has_all-clause-serves
returns-then-has_all-clause-serves g c =
    λ are.
    let k = g.K.RecipeKeeper in
    deleted_named (k.slots c.args.keeper.now) c.args.names.now (k.told c.args.keeper.now)
    (k.told c.drop_each.new.keeper) (has_name (λ one. one.now) c.args.left) c.drop_each.result c.requires.some are
    (sym c.if-has_all.ensures) (c.drop_each.ensures.drops are)

pub returns-else-has_all-clause-serves : goal.returns-else-has_all-clause-serves
returns-else-has_all-clause-serves g c =
    λ are.
    let k = g.K.RecipeKeeper in
    deleted_none (k.slots c.args.keeper.now) c.args.names.now (k.told c.args.keeper.now)
    (has_name (λ one. one.now) c.args.left) are (sym c.if-has_all.ensures)
