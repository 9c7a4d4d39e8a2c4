-- A place within a list has its item, and no other place has one.

use Rattle.std.proofs.Common.{List, length, sym, ap, ◌∙◌, arith}
use Rattle.std.specs.Prelude.{slice_get}
use Rattle.std.proofs.lemmas.Option.{slice_get_past}
use Rattle.secs_items.specs.declared.item.Item.{Item, out-Item}
use Rattle.secs_items.specs.Layers.{items_of}
use Rattle.secs_items.specs.Views.{Viewed}
use Rattle.secs_items.proofs.Viewing.{list_long, no_items_in}
use Rattle.secs_items.proofs.item_view.ItemView.child.Goals as goal
use Rattle.secs_items.proofs.item_view.ItemView.child.Goals.{then-not-is_list-via-then-not-is_list, then-not-is_list-via-else-not-is_list+then-place-self}

pub returns-then-not-is_list-clause-item : goal.returns-then-not-is_list-clause-item
returns-then-not-is_list-clause-item c =
    let v = c.self.inside in
    let shown = ap (λ (w : Viewed). items_of (out-Item w.item)) c.self.view_is in
    elim c.then-not-is_list.branch [
      | then-not-is_list-via-then-not-is_list w ↦ ap (λ (items : List Item). slice_get items c.args.place) (sym shown ∙ no_items_in v.kind v.count v.depth v.content.now (sym c.is_list.ensures ∙ w.if-not-is_list.true))
      | then-not-is_list-via-else-not-is_list+then-place-self w ↦ slice_get_past (items_of (out-Item c.args.self.now.item)) c.args.place (omega (arith, sym (ap length shown) ∙ list_long v.kind v.count v.depth v.content.now (sym c.is_list.ensures ∙ w.if-not-is_list.false) c.self.invariant, w.if-place-self.true))
    ]

pub child_at-requires : goal.child_at-requires
child_at-requires c =
    let v = c.self.inside in
    let shown = ap (λ (w : Viewed). items_of (out-Item w.item)) c.self.view_is in
    record {
      same = ap (λ (w : Viewed). w.content) c.self.view_is;
      within = omega (arith, sym (ap length shown) ∙ list_long v.kind v.count v.depth v.content.now (sym c.is_list.ensures ∙ c.if-not-is_list.false) c.self.invariant, c.if-place-self.false);
    }
