-- What is left of the list, and what was read of it.

use Rattle.secs_items.specs.declared.item.Item.{out-Item}
use Rattle.gem_shapes.specs.Elements.{list_of}
use Rattle.gem_shapes.proofs.Lists.{AreLeft}
use Rattle.gem_shapes.proofs.form.EachForm.read.Given as goal

abbrev pub invariant-loop : goal.invariant-loop
invariant-loop g l = AreLeft g.F.Form.value_of (list_of (out-Item l.part.item)) l.count l.counter l.row l.rest
