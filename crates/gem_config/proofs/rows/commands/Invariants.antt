-- Those so far, with those that are left, are all.

use Rattle.std.proofs.Common.{◌≡◌, [], drop}
use Rattle.toml.specs.View.{items_view}
use Rattle.gem_config.specs.Rows.{commands_from}
use Rattle.gem_config.proofs.rows.commands.Given as goal

abbrev pub invariant-loop-value : goal.invariant-loop-value
invariant-loop-value l =
    commands_from l.name l.commands (items_view (drop l.value-index l.values))
    ≡ commands_from l.name [] (items_view l.values)
