-- The content of a list of two begins with the first item, and goes on with the second.

use Rattle.std.proofs.Common.{arith}
use Rattle.secs_items.specs.declared.item.Item.{out-Item}
use Rattle.gem_shapes.specs.Elements.{list_of}
use Rattle.gem_shapes.proofs.Lists.{begins, begins_second, two_found}
use Rattle.gem_shapes.proofs.part.two_of.Goals as goal

pub front_of-first-requires : goal.front_of-first-requires
front_of-first-requires c =
    begins (list_of (out-Item c.args.part.now.item)) c.in_ok-count.count c.in_ok-count.bytes.now
    c.in_ok-count.ensures.spelled (omega (arith, c.if-count-ne2.false))

pub front_of-second-requires : goal.front_of-second-requires
front_of-second-requires c =
    begins_second (list_of (out-Item c.args.part.now.item)) c.in_ok-count.count c.in_ok-count.bytes.now _ _
    c.in_ok-count.ensures.spelled c.if-count-ne2.false c.front_of-first.ensures.items

pub returns : goal.returns
returns c =
    two_found (list_of (out-Item c.args.part.now.item)) c.in_ok-count.count c.in_ok-count.bytes.now _ _ _ _
    c.in_ok-count.ensures.spelled c.if-count-ne2.false c.front_of-first.ensures.items c.front_of-second.ensures.items
