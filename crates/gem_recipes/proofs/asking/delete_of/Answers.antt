-- All recipes go where none is named, or those that are named.

use Rattle.std.proofs.Common.{sym, ◌==◌, ◌≡◌, ◌<◌, false, List, ℕ, length, subst, arith}
use Rattle.std.proofs.lemmas.Bool.{eqb-true}
use Rattle.std.proofs.lemmas.Bool.Decides.{nat_tests}
use Rattle.std.proofs.lemmas.List.{nil_from_length}
use Rattle.gem_recipes.specs.declared.asking.RecipesAsked.TheVariants as asking
use Rattle.gem_recipes.specs.Asking.{Serves, has_name}
use Rattle.gem_recipes.proofs.Names.{named_all}
use Rattle.gem_recipes.proofs.Serving.{deleted_all, dropped_fits}
use Rattle.gem_recipes.proofs.asking.delete_of.Goals as goal

pub returns-then-is_empty-clause-serves : goal.returns-then-is_empty-clause-serves
returns-then-is_empty-clause-serves g c =
    λ all.
    let k = g.K.RecipeKeeper in
    let none = nil_from_length c.args.names.now (eqb-true (length c.args.names.now) 0 (sym c.if-is_empty.ensures)) in
    subst (λ (names : List (List ℕ)). Serves (k.slots c.args.keeper.now) (asking.Delete names)
    (k.told c.args.keeper.now) (k.told c.drop_all.new.keeper) c.drop_all.result)
    (sym none)
    (deleted_all (k.slots c.args.keeper.now) c.args.known.now (k.told c.args.keeper.now) (k.told c.drop_all.new.keeper)
    c.drop_all.result all c.drop_all.ensures.drops)

pub returns-then-is_empty-clause-fits : goal.returns-then-is_empty-clause-fits
returns-then-is_empty-clause-fits g c =
    dropped_fits c.args.known.now (g.K.RecipeKeeper.told c.args.keeper.now)
    (g.K.RecipeKeeper.told c.drop_all.new.keeper) c.drop_all.result c.drop_all.ensures.drops

some : (n : ℕ) → (n == 0) ≡ false → 0 < n
some n is = grind (arith, nat_tests)

pub delete_known-requires-clause-some : goal.delete_known-requires-clause-some
delete_known-requires-clause-some g c = some (length c.args.names.now) (sym c.if-is_empty.ensures)

pub returns-in-Ok-clause-serves : goal.returns-in-Ok-clause-serves
returns-in-Ok-clause-serves g c =
    λ all.
    c.delete_known.ensures.serves
    (named_all (g.K.RecipeKeeper.told c.args.keeper.now) c.args.known.now (has_name (λ one. one.now) c.in-Ok.left) all
    c.in-Ok.ensures)
