-- A body that is an item is nothing exactly where that is an empty list.

use Rattle.gem_shapes.proofs.Asking.{nothing_is}
use Rattle.gem_shapes.proofs.reading.is_nothing.Goals as goal

pub returns-in-Some : goal.returns-in-Some
returns-in-Some c = nothing_is c.in-Some.part.item c.args.body.now c.is_empty_list.result c.in-Some.ensures.found c.is_empty_list.ensures
