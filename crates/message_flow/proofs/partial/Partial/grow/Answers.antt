-- The check goes on from that of the text so far, which has room for a block more.

use Rattle.std.proofs.Common.{refl, ap, ◌∙◌, arith, length}
use Rattle.secs_items.specs.Checking.{Checking}
use Rattle.secs_items.proofs.CheckLaws.{fed_is}
use Rattle.message_flow.proofs.Growing.{grown}
use Rattle.message_flow.proofs.partial.Partial.grow.Goals as goal

pub feed-requires : goal.feed-requires
feed-requires c =
    let fed = ap (λ (check : Checking). check.fed) c.requires.checked ∙ fed_is c.args.self.now.body in
    let text = ap length c.body-text.ensures.value in
    omega (arith, fed, text, c.requires.few)

pub returns-clause-ok : goal.returns-clause-ok
returns-clause-ok c =
    grown c.args.self.now _ c.args.block.now c.args.deadline c.body-text.result.now c.body-text.ensures.value
    c.header-self.ensures.value refl c.in_ok-extend.ensures.ok
    (c.feed.ensures.stands c.args.self.now.body c.requires.checked)
