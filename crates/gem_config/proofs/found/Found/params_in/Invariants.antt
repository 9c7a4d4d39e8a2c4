-- Those so far, with those that are left, are all.

use Rattle.std.proofs.Common.{◌≡◌, [], drop}
use Rattle.toml.specs.View.{items_view}
use Rattle.gem_config.specs.Found.{found_view}
use Rattle.gem_config.specs.Sections.{param}
use Rattle.gem_config.specs.Values.{each_from}
use Rattle.gem_config.proofs.found.Found.params_in.Given as goal

abbrev pub invariant-loop-value : goal.invariant-loop-value
invariant-loop-value l =
    let read = param (found_view l.self).key in
    each_from read l.params (items_view (drop l.value-index l.value-items))
    ≡ each_from read [] (items_view l.value-items)
