-- The content of a list of two begins with the first item, behind which stand the bytes of the second one.

use Rattle.std.proofs.Common.{arith}
use Rattle.secs_items.specs.declared.item.Item.{out-Item}
use Rattle.gem_shapes.specs.Elements.{list_of}
use Rattle.gem_shapes.proofs.Lists.{begins, first_found}
use Rattle.gem_shapes.proofs.part.first_and_bytes.Goals as goal

pub front_of-requires : goal.front_of-requires
front_of-requires c =
    begins (list_of (out-Item c.args.part.now.item)) c.in_ok-count.count c.in_ok-count.bytes.now
    c.in_ok-count.ensures.spelled (omega (arith, c.if-count-ne2.false))

pub returns-clause-first : goal.returns-clause-first
returns-clause-first c =
    first_found (list_of (out-Item c.args.part.now.item)) c.in_ok-count.count c.in_ok-count.bytes.now _ _
    c.in_ok-count.ensures.spelled c.if-count-ne2.false c.front_of.ensures.items
