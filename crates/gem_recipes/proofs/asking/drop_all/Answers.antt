-- One recipe more is deleted, or a fault at it ends the deletions.

use Rattle.std.proofs.Common.{◌∙◌, ap, arith, false, List, ℕ, refl, subst, sym, take}
use Rattle.std.proofs.lemmas.List.{take_all}
use Rattle.std.proofs.lemmas.List.Elements.{All-get_or}
use Rattle.std.proofs.lemmas.Result.{err_from_is_err_and}
use Rattle.std.specs.Option.{option_map}
use Rattle.gem_recipes.specs.Asking.{without_each}
use Rattle.gem_recipes.specs.Recipes.{IsPpid}
use Rattle.gem_recipes.proofs.Names.{next_name}
use Rattle.gem_recipes.proofs.Serving.{as_told, ends_at, one_more, stays_on}
use Rattle.gem_recipes.proofs.asking.drop_all.Goals as goal

pub loop-name-init : goal.loop-name-init
loop-name-init g c = (as_told (g.K.RecipeKeeper.told c.args.keeper.now), (refl, refl, c.requires.sound, refl))

pub drop_one-requires-clause-name : goal.drop_one-requires-clause-name
drop_one-requires-clause-name g c =
    subst (λ (name : List ℕ). IsPpid name) (sym (c.as_slice.ensures ∙ c.name-item.is))
    (All-get_or IsPpid c.args.known.now c.loop-name.name-index c.name-item.result (omega arith) c.requires.known)

pub drop_one-requires-clause-sound : goal.drop_one-requires-clause-sound
drop_one-requires-clause-sound g c = c.loop-name.invariant.1.2

pub loop-name-preserved : goal.loop-name-preserved
loop-name-preserved g c =
    let k = g.K.RecipeKeeper in
    let i = c.loop-name.name-index in
    let first = k.told c.args.keeper.now in
    let next = next_name c.args.known.now i c.as_slice.result.now c.name-item.result (omega arith)
    (c.as_slice.ensures ∙ c.name-item.is) in (
      one_more first (k.told c.loop-name.keeper) (k.told c.drop_one.new.keeper) (take i c.args.known.now)
          c.as_slice.result.now c.loop-name.invariant.0 c.in_ok-drop_one.ensures.drops
          ∙ ap (λ (list : List (List ℕ)). option_map (without_each list) first) (sym next),
      stays_on k c.args.keeper.now c.loop-name.keeper c.drop_one.new.keeper false c.loop-name.invariant.1
          c.in_ok-drop_one.ensures.keeper,
    )

pub returns-in_err-drop_one-clause-drops : goal.returns-in_err-drop_one-clause-drops
returns-in_err-drop_one-clause-drops g c =
    let k = g.K.RecipeKeeper in
    let i = c.loop-name.name-index in
    let next = next_name c.args.known.now i c.as_slice.result.now c.name-item.result (omega arith)
    (c.as_slice.ensures ∙ c.name-item.is) in
    let p = err_from_is_err_and c.from_residual.result c.from_residual.ensures.1 in
    rw (p.1, p.2)
    (ends_at c.args.known.now i c.as_slice.result.now (k.told c.args.keeper.now) (k.told c.loop-name.keeper)
    (k.told c.drop_one.new.keeper) _ next c.loop-name.invariant.0 c.in_err-drop_one.ensures.drops)

pub returns-in_err-drop_one-clause-keeper : goal.returns-in_err-drop_one-clause-keeper
returns-in_err-drop_one-clause-keeper g c =
    let p = err_from_is_err_and c.from_residual.result c.from_residual.ensures.1 in
    rw (p.1, p.2)
    (stays_on g.K.RecipeKeeper c.args.keeper.now c.loop-name.keeper c.drop_one.new.keeper _ c.loop-name.invariant.1
    c.in_err-drop_one.ensures.keeper)

pub returns-clause-drops : goal.returns-clause-drops
returns-clause-drops g c = (
  refl,
  c.loop-name.invariant.0
      ∙ ap (λ (list : List (List ℕ)). option_map (without_each list) (g.K.RecipeKeeper.told c.args.keeper.now))
      (take_all c.loop-name.name-index c.args.known.now (omega arith)),
)
