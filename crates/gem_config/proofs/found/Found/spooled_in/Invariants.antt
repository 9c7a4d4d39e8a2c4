-- Those so far, with those that are left, are all.

use Rattle.std.proofs.Common.{◌≡◌, [], drop}
use Rattle.toml.specs.View.{items_view}
use Rattle.gem_config.specs.Found.{found_view}
use Rattle.gem_config.specs.Values.{each_from, word}
use Rattle.gem_config.specs.Words.{spooled_named}
use Rattle.gem_config.proofs.found.Found.spooled_in.Given as goal

abbrev pub invariant-loop-name : goal.invariant-loop-name
invariant-loop-name l =
    let read = word spooled_named (found_view l.self).key in
    each_from read l.entries (items_view (drop l.name-index l.name-items)) ≡ each_from read [] (items_view l.name-items)
