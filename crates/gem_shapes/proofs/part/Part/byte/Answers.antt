-- The bytes of the view are those of its item, so both show the same byte.

use Rattle.std.proofs.Common.{sym, ap, ◌∙◌}
use Rattle.secs_items.specs.declared.item.Item.{out-Item}
use Rattle.secs_items.specs.Spelling.{Spells, SpellsEach}
use Rattle.secs_items.specs.Views.{Viewed}
use Rattle.gem_shapes.specs.Elements.{byte_of, one_of}
use Rattle.gem_shapes.proofs.Raw.{raw}
use Rattle.gem_shapes.proofs.part.Part.byte.Goals as goal

pub returns-in-B : goal.returns-in-B
returns-in-B c =
    let v = c.self.inside.view in
    let r = raw (SpellsEach Spells) (out-Item v.item) v.content c.self.invariant in
    c.one_of.ensures ∙ ap one_of c.bytes.ensures ∙ sym (r.byte (sym c.kind.ensures ∙ c.in-B.is)) ∙ ap (λ (w : Viewed). byte_of (out-Item w.item)) c.self.view_is
