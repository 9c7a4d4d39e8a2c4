-- One item more is read off the front of what is left, or breaks the form.

use Rattle.std.proofs.Common.{sym, ◌∙◌}
use Rattle.secs_items.specs.declared.item.Item.{out-Item}
use Rattle.gem_shapes.specs.Elements.{list_of}
use Rattle.gem_shapes.proofs.Lists.{breaks, goes_on, steps}
use Rattle.gem_shapes.proofs.form.EachForm.read.Goals as goal

pub front_of-front-requires : goal.front_of-front-requires
front_of-front-requires g c =
    goes_on g.F.Form.value_of (list_of (out-Item c.args.part.now.item)) c.in-Some.count c.loop.counter c.loop.row
    c.loop.rest.now c.loop.invariant c.loop-test.true

pub returns-in_default-2 : goal.returns-in_default-2
returns-in_default-2 g c =
    breaks g.F.Form.value_of (list_of (out-Item c.args.part.now.item)) c.in-Some.count c.loop.counter c.loop.row
    c.loop.rest.now _ _ c.loop.invariant c.loop-test.true c.front_of-front.ensures.items
    (sym c.in_ok-value.ensures ∙ c.in_default-2.is)

pub loop-preserved : goal.loop-preserved
loop-preserved g c =
    rw c.in_ok-push.ensures.ok
    (steps g.F.Form.value_of (list_of (out-Item c.args.part.now.item)) c.in-Some.count c.loop.counter c.loop.row
    c.loop.rest.now _ c.in-Some-2.value _ c.loop.invariant c.loop-test.true c.front_of-front.ensures.items
    (sym c.in_ok-value.ensures ∙ c.in-Some-2.is))
