-- The count of the view is that of the item that it shows.

use Rattle.std.proofs.Common.{sym, ap, ◌∙◌}
use Rattle.secs_items.specs.declared.item.Item.{out-Item}
use Rattle.secs_items.specs.Layers.{count_of}
use Rattle.secs_items.specs.Views.{Viewed}
use Rattle.secs_items.proofs.Viewing.{count_in}
use Rattle.secs_items.proofs.item_view.ItemView.len.Goals as goal

pub returns : goal.returns
returns c =
    let v = c.self.inside in
    sym (count_in v.kind v.count v.depth v.content.now c.self.invariant) ∙ ap (λ (w : Viewed). count_of (out-Item w.item)) c.self.view_is
