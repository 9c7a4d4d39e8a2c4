-- Those so far, with those that are left, are all.

use Rattle.std.proofs.Common.{◌≡◌, [], drop}
use Rattle.toml.specs.View.{items_view}
use Rattle.gem_config.specs.Rows.{rows_from}
use Rattle.gem_config.proofs.rows.rows.Given as goal

abbrev pub invariant-loop-value : goal.invariant-loop-value
invariant-loop-value g l =
    let from = rows_from g.T.Element.row_of l.name l.key l.least in
    from l.taken.keys l.rows (items_view (drop l.value-index l.values)) ≡ from [] [] (items_view l.values)
