-- The length of the items so far.

use Rattle.std.proofs.Common.{◌≡◌, map, take}
use Rattle.secs_items.specs.Measures.{capped}
use Rattle.secs_items.proofs.SpelledLengths.{together}
use Rattle.gem_vars.specs.Listing.{ids_of, item_of}
use Rattle.gem_vars.proofs.vars.Vars.list_len.Given as goal

abbrev pub invariant-loop-place : goal.invariant-loop-place
invariant-loop-place l =
    l.len ≡ capped (together (map (item_of l.self l.listing) (take l.place (ids_of l.self l.listing l.ids))))
