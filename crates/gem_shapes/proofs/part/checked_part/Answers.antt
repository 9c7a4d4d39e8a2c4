-- Bytes that their check found whole are the one item that the view shows; others are none.

use Rattle.std.proofs.Common.{sym, ◌∙◌}
use Rattle.secs_items.proofs.SpellLaws.{one_value}
use Rattle.secs_items.proofs.Verdicts.{spelled_whole}
use Rattle.gem_shapes.proofs.Behind.{head_left}
use Rattle.gem_shapes.proofs.Contents.{filled}
use Rattle.gem_shapes.proofs.part.checked_part.Goals as goal

pub view-requires-clause-whole : goal.view-requires-clause-whole
view-requires-clause-whole c = sym (c.verdict.ensures.stands c.args.bytes.now c.requires) ∙ c.in-Whole.is

pub invariant_of-result : goal.invariant_of-result
invariant_of-result c = filled c.args.bytes.now c.view.result c.view.ensures.found c.view.ensures.shown

pub returns-in-Whole-clause-only : goal.returns-in-Whole-clause-only
returns-in-Whole-clause-only c =
    λ item spelled. one_value c.view.result.item item c.args.bytes.now c.view.ensures.found spelled

pub returns-in-Whole-clause-content : goal.returns-in-Whole-clause-content
returns-in-Whole-clause-content c = head_left c.args.bytes.now c.view.result c.view.ensures.shown

pub returns-in_default-clause-only : goal.returns-in_default-clause-only
returns-in_default-clause-only c =
    λ item spelled. absurd (c.in_default.not-Whole
    (c.verdict.ensures.stands c.args.bytes.now c.requires ∙ spelled_whole item c.args.bytes.now spelled))
