-- The check of a text that comes in one piece.

use Rattle.std.proofs.Common.{ap, ◌∙◌, arith, [], length}
use Rattle.secs_items.specs.Checking.{Checking, check_of}
use Rattle.secs_items.proofs.CheckLaws.{fed_is}
use Rattle.message_flow.proofs.partial.check_of.Goals as goal

pub feed-requires : goal.feed-requires
feed-requires c =
    let fed = ap (λ (check : Checking). check.fed) c.new-check.ensures ∙ fed_is [] in
    let text = ap length c.body-text.ensures.value in
    omega (arith, fed, text, c.body-text.ensures.is_block.at_most_244)

pub returns : goal.returns
returns c = c.feed.ensures.stands [] c.new-check.ensures ∙ ap check_of c.body-text.ensures.value
