-- One recipe more is deleted, or a fault at it ends the deletions.

use Rattle.std.proofs.Common.{◌∙◌, ap, arith, false, List, ℕ, refl, sym, take}
use Rattle.std.proofs.lemmas.List.{take_all}
use Rattle.std.proofs.lemmas.Result.{err_from_is_err_and}
use Rattle.std.specs.Option.{option_map}
use Rattle.gem_recipes.specs.Asking.{without_each}
use Rattle.gem_recipes.proofs.Names.{next_name}
use Rattle.gem_recipes.proofs.Serving.{as_told, ends_at, one_more, stays_on}
use Rattle.gem_recipes.proofs.asking.drop_each.Goals as goal

pub loop-name-init : goal.loop-name-init
loop-name-init g c = (
  λ are. (as_told (g.K.RecipeKeeper.told c.args.keeper.now), are),
  (refl, refl, c.requires, refl),
)

pub drop_left-requires : goal.drop_left-requires
drop_left-requires g c = c.loop-name.invariant.1.2

pub loop-name-preserved : goal.loop-name-preserved
loop-name-preserved g c =
    let k = g.K.RecipeKeeper in
    let i = c.loop-name.name-index in
    let first = k.told c.args.keeper.now in
    let name = c.name-item.result in
    let next = next_name c.args.names.now i name name (omega arith) c.name-item.is in (
      λ are.
          let here = c.loop-name.invariant.0 are in (
            one_more first (k.told c.loop-name.keeper) (k.told c.drop_left.new.keeper) (take i c.args.names.now) name
                here.0 (c.in_ok-drop_left.ensures.drops here.1)
                ∙ ap (λ (list : List (List ℕ)). option_map (without_each list) first) (sym next),
            c.in_ok-drop_left.ensures.left here.1,
          ),
      stays_on k c.args.keeper.now c.loop-name.keeper c.drop_left.new.keeper false c.loop-name.invariant.1
          c.in_ok-drop_left.ensures.keeper,
    )

pub returns-in_err-drop_left-clause-drops : goal.returns-in_err-drop_left-clause-drops
returns-in_err-drop_left-clause-drops g c =
    λ are.
    let k = g.K.RecipeKeeper in
    let i = c.loop-name.name-index in
    let name = c.name-item.result in
    let here = c.loop-name.invariant.0 are in
    let p = err_from_is_err_and c.from_residual.result c.from_residual.ensures.1 in
    rw (p.1, p.2)
    (ends_at c.args.names.now i name (k.told c.args.keeper.now) (k.told c.loop-name.keeper)
    (k.told c.drop_left.new.keeper) _ (next_name c.args.names.now i name name (omega arith) c.name-item.is) here.0
    (c.in_err-drop_left.ensures.drops here.1))

pub returns-in_err-drop_left-clause-fits : goal.returns-in_err-drop_left-clause-fits
returns-in_err-drop_left-clause-fits g c =
    rw (err_from_is_err_and c.from_residual.result c.from_residual.ensures.1).1 tt

pub returns-in_err-drop_left-clause-keeper : goal.returns-in_err-drop_left-clause-keeper
returns-in_err-drop_left-clause-keeper g c =
    let p = err_from_is_err_and c.from_residual.result c.from_residual.ensures.1 in
    rw (p.1, p.2)
    (stays_on g.K.RecipeKeeper c.args.keeper.now c.loop-name.keeper c.drop_left.new.keeper _ c.loop-name.invariant.1
    c.in_err-drop_left.ensures.keeper)

pub returns-clause-drops : goal.returns-clause-drops
returns-clause-drops g c =
    λ are. (
      refl,
      (c.loop-name.invariant.0 are).0
          ∙ ap (λ (list : List (List ℕ)). option_map (without_each list) (g.K.RecipeKeeper.told c.args.keeper.now))
          (take_all c.loop-name.name-index c.args.names.now (omega arith)),
    )
