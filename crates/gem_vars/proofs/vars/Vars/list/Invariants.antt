-- The items so far.

use Rattle.std.proofs.Common.{◌≡◌, map, take}
use Rattle.gem_vars.specs.Listing.{ids_of, item_of}
use Rattle.gem_vars.proofs.vars.Vars.list.Given as goal

abbrev pub invariant-loop-place : goal.invariant-loop-place
invariant-loop-place l = l.items ≡ map (item_of l.self l.listing) (take l.place (ids_of l.self l.listing l.ids))
