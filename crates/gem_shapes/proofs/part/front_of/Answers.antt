-- The item at the front is found, and what is found is the first of those that stand there.

use Rattle.std.proofs.Common.{sym, subst}
use Rattle.secs_items.specs.Spelling.{Spells, SpellsEach}
use Rattle.gem_shapes.proofs.Behind.{item_left}
use Rattle.gem_shapes.proofs.Contents.{front_filled}
use Rattle.gem_shapes.proofs.Lists.{first_front}
use Rattle.gem_shapes.proofs.part.front_of.Goals as goal

pub unreachable-requires : goal.unreachable-requires
unreachable-requires c =
    let b = c.requires in
    c.in_default.ensures.only b.first b.spelled.1 (first_front b.first b.others c.args.bytes.now b.spelled)

pub invariant_of-result : goal.invariant_of-result
invariant_of-result c =
    front_filled c.args.bytes.now c.in-Ok.rest.now c.in-Ok.view c.in-Ok.ensures.found c.in-Ok.ensures.shown

pub returns-clause-items : goal.returns-clause-items
returns-clause-items c item items spelled =
    let found = c.in-Ok.ensures.only item spelled.1 (first_front item items c.args.bytes.now spelled) in
    (found.0, subst (SpellsEach Spells items) (sym found.1) spelled.4)

pub returns-clause-rest : goal.returns-clause-rest
returns-clause-rest c = item_left c.args.bytes.now c.in-Ok.view.item c.in-Ok.rest.now c.in-Ok.ensures.found
