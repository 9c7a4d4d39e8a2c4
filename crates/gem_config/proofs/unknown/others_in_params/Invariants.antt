-- The least so far, with those that are left, is the least of all.

use Rattle.std.proofs.Common.{◌≡◌, drop}
use Rattle.toml.specs.View.{items_view}
use Rattle.gem_config.specs.Others.{least_of, others_in_params}
use Rattle.gem_config.proofs.unknown.others_in_params.Given as goal

abbrev pub invariant-loop-command : goal.invariant-loop-command
invariant-loop-command l =
    least_of l.least (others_in_params (items_view (drop l.command-index l.commands)))
    ≡ least_of l.fn.before (others_in_params (items_view l.commands))
