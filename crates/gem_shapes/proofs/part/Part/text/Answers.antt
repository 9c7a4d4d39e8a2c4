-- The bytes of the view are those of its item, so both show the same text.

use Rattle.std.proofs.Common.{Some, sym, ap, ◌∙◌}
use Rattle.secs_items.specs.declared.item.Item.{out-Item}
use Rattle.secs_items.specs.Spelling.{Spells, SpellsEach}
use Rattle.secs_items.specs.Views.{Viewed}
use Rattle.gem_shapes.specs.Elements.{text_of}
use Rattle.gem_shapes.proofs.Raw.{raw}
use Rattle.gem_shapes.proofs.part.Part.text.Goals as goal

pub returns-in-A : goal.returns-in-A
returns-in-A c =
    let v = c.self.inside.view in
    let r = raw (SpellsEach Spells) (out-Item v.item) v.content c.self.invariant in
    ap Some c.bytes.ensures ∙ sym (r.text (sym c.kind.ensures ∙ c.in-A.is)) ∙ ap (λ (w : Viewed). text_of (out-Item w.item)) c.self.view_is
