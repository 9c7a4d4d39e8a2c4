-- One name more is found.

use Rattle.std.proofs.Common.{◌∙◌, ap, arith, bytes_eq}
use Rattle.std.proofs.lemmas.List.{take_all}
use Rattle.std.specs.List.{list_any}
use Rattle.gem_recipes.specs.Asking.{has_name}
use Rattle.gem_recipes.proofs.Names.{found_more, none_found}
use Rattle.gem_recipes.proofs.asking.names_in.Goals as goal

pub loop-name-init : goal.loop-name-init
loop-name-init c = λ name. none_found (λ one. one.now) c.new-found.result name c.new-found.ensures.empty

pub loop-name-preserved : goal.loop-name-preserved
loop-name-preserved c =
    λ name.
    found_more (has_name (λ one. one.now) c.insert.new.self name) (has_name (λ one. one.now) c.loop-name.found name)
    c.args.names.now c.loop-name.name-index name c.as_slice.result.now c.name-item.result (omega arith)
    (c.as_slice.ensures ∙ c.name-item.is) (c.in-Ok.ensures.updates.0 (record { ref_ptr = (0, 0); now = name }))
    (c.loop-name.invariant name)

pub returns : goal.returns
returns c =
    λ name.
    c.loop-name.invariant name
    ∙ ap (list_any (bytes_eq name)) (take_all c.loop-name.name-index c.args.names.now (omega arith))
