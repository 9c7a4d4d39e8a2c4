-- The bytes of the view are those of its item, so both show the same flag.

use Rattle.std.proofs.Common.{sym, ap, ◌∙◌}
use Rattle.secs_items.specs.declared.item.Item.{out-Item}
use Rattle.secs_items.specs.Spelling.{Spells, SpellsEach}
use Rattle.secs_items.specs.Views.{Viewed}
use Rattle.gem_shapes.specs.Elements.{flag_of, one_flag_of}
use Rattle.gem_shapes.proofs.Raw.{raw}
use Rattle.gem_shapes.proofs.part.Part.flag.Goals as goal

pub returns-in-Bool : goal.returns-in-Bool
returns-in-Bool c =
    let v = c.self.inside.view in
    let r = raw (SpellsEach Spells) (out-Item v.item) v.content c.self.invariant in
    c.one_flag_of.ensures ∙ ap one_flag_of c.bytes.ensures ∙ sym (r.flag (sym c.kind.ensures ∙ c.in-Bool.is)) ∙ ap (λ (w : Viewed). flag_of (out-Item w.item)) c.self.view_is
