-- One name more is there, or one that isn't ends the search.

use Rattle.std.proofs.Common.{◌∙◌, ◌&&◌, ap, arith, sym}
use Rattle.std.proofs.lemmas.List.{take_all}
use Rattle.std.proofs.lemmas.List.Folds.{list_all_at, list_all_more}
use Rattle.std.specs.List.{list_all}
use Rattle.gem_recipes.specs.Asking.{has_name}
use Rattle.gem_recipes.proofs.asking.has_all.Goals as goal

pub returns-then-not-contains : goal.returns-then-not-contains
returns-then-not-contains c =
    let has = has_name (λ one. one.now) c.args.left.now in
    sym
    (list_all_at has c.args.names.now c.loop-name.name-index c.name-item.result (omega arith)
    (ap has (sym (c.bytes.ensures.bytes ∙ c.name-item.is)) ∙ sym c.contains.ensures ∙ c.if-not-contains.true))

pub loop-name-preserved : goal.loop-name-preserved
loop-name-preserved c =
    let has = has_name (λ one. one.now) c.args.left.now in
    let here =
    ap has (sym (c.bytes.ensures.bytes ∙ c.name-item.is)) ∙ sym c.contains.ensures ∙ c.if-not-contains.false
    in
    list_all_more has c.args.names.now c.loop-name.name-index c.name-item.result (omega arith)
    ∙ (λ j. c.loop-name.invariant j && here j)

pub returns : goal.returns
returns c =
    sym c.loop-name.invariant
    ∙ ap (list_all (has_name (λ one. one.now) c.args.left.now))
    (take_all c.loop-name.name-index c.args.names.now (omega arith))
