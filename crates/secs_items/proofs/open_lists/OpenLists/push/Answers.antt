-- Behind one list more all are 0 still.

use Rattle.std.proofs.Common.{◌<◌, ◌+◌, length, ap, ◌∙◌, arith}
use Rattle.std.proofs.lemmas.List.{drop-set-lt, length-set}
use Rattle.secs_items.specs.OpenLists.{same_depth}
use Rattle.secs_items.proofs.OpenLists.{clear_less}
use Rattle.secs_items.proofs.open_lists.OpenLists.push.Goals as goal

pub invariant_of-self : goal.invariant_of-self
invariant_of-self c =
    let left = c.self.inside.left in
    let depth = c.self.inside.depth in
    let long = c.self.invariant.1 in
    let shallow : depth < 64 = omega (arith, c.requires, ap length c.self.view_is, same_depth left depth c.self.invariant.0 long) in
    (omega (arith, shallow), length-set left depth c.args.count ∙ long, drop-set-lt (depth + 1) left depth c.args.count (omega arith) ∙ clear_less left depth shallow long c.self.invariant.2)
