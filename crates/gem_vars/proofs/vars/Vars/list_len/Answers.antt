-- With all measured the length is that of the list.

use Rattle.std.proofs.Common.{sym, ◌∙◌, ap, map, List, ℕ, arith}
use Rattle.std.proofs.lemmas.List.{length-map, take_all}
use Rattle.secs_items.specs.Measures.{capped}
use Rattle.secs_items.proofs.SpelledLengths.{together}
use Rattle.gem_vars.specs.Listing.{ids_of, item_of, items_of}
use Rattle.gem_vars.proofs.vars.Vars.list_len.Goals as goal

pub returns : goal.returns
returns c =
    let table = c.args.self.now in
    let listing = c.args.listing in
    let ids = ids_of table listing c.args.ids.now in
    c.list_len.ensures (items_of table listing c.args.ids.now)
    (length-map ids (item_of table listing) ∙ sym c.count-count.ensures)
    (c.loop-place.invariant
    ∙ ap (λ (xs : List ℕ). capped (together (map (item_of table listing) xs)))
    (take_all c.loop-place.place ids (omega (arith, c.count-count.ensures))))
