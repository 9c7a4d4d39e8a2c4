-- The item of a text is there exactly where its check found it whole.

use Rattle.std.proofs.Common.{sym, ap, ◌∙◌, Some}
use Rattle.secs_items.specs.declared.item.Item.{Item}
use Rattle.tool_core.proofs.Reading.{no_item, spelled_item}
use Rattle.tool_core.proofs.replies.item_of.Goals as goal

pub view-requires-clause-whole : goal.view-requires-clause-whole
view-requires-clause-whole c = sym (c.verdict.ensures.stands c.args.body.now c.requires) ∙ c.in-Whole.is

pub returns-in_ok-item-in-Whole : goal.returns-in_ok-item-in-Whole
returns-in_ok-item-in-Whole c =
    ap (λ (item : Item). Some item) c.in_ok-item-in-Whole.ensures
    ∙ sym (spelled_item c.view.result.item c.args.body.now c.view.ensures.found)

pub returns-in_default : goal.returns-in_default
returns-in_default c =
    sym (no_item c.args.body.now (λ whole. c.in_default.not-Whole
    (c.verdict.ensures.stands c.args.body.now c.requires ∙ whole)))
