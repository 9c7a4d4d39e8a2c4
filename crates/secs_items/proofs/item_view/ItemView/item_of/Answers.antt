-- The items of a list read off its content make the item that is shown.

use Rattle.std.proofs.Common.{sym, ◌∙◌, length, arith}
use Rattle.secs_items.proofs.ViewSteps.{item_whole}
use Rattle.secs_items.proofs.item_view.ItemView.item_of.Goals as goal

pub returns-in-Ok : goal.returns-in-Ok
returns-in-Ok c =
    let v = c.self.inside in
    item_whole v.kind v.count v.depth (length c.args.content.now) v.content.now c.args.content.now c.in-Ok.field-0-1.now c.in-Ok.items
    c.args.self.now c.self.view_is c.self.invariant (sym c.is_list.ensures ∙ c.if-not-is_list.false) c.requires
    (λ i. omega (arith, c.type_inv.content i)) c.in-Ok.ensures.gives
