-- The recipe is its first item's name with the bytes behind that.

use Rattle.std.proofs.Common.{None, Some, sym, ◌∙◌}
use Rattle.gem_shapes.specs.Requests.{behind_item}
use Rattle.gem_shapes.proofs.Behind.{none_sent, recipe_sent}
use Rattle.gem_shapes.proofs.reading.recipe.Goals as goal

pub returns-in_err-first : goal.returns-in_err-first
returns-in_err-first c =
    c.from_residual.ensures
    ∙ none_sent c.args.part.now.item (behind_item c.args.part.now.content) c.in_err-first.ensures.first

pub returns-in_err-name : goal.returns-in_err-name
returns-in_err-name c =
    c.from_residual-in_err-name.ensures
    ∙ recipe_sent c.args.part.now.item (behind_item c.args.part.now.content) c.in_ok-first.bytes.now
    c.in_ok-first.first.item None c.in_ok-first.ensures.first c.in_ok-first.ensures.bytes
    (sym c.in_err-name.was ∙ c.recipe_name.ensures)

pub returns : goal.returns
returns c =
    recipe_sent c.args.part.now.item (behind_item c.args.part.now.content) c.in_ok-first.bytes.now
    c.in_ok-first.first.item (Some c.in_ok-name.name) c.in_ok-first.ensures.first c.in_ok-first.ensures.bytes
    (sym c.in_ok-name.was ∙ c.recipe_name.ensures)
