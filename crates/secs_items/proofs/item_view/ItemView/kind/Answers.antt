-- The kind of the view is that of the item that it shows.

use Rattle.std.proofs.Common.{sym, ap, ◌∙◌}
use Rattle.secs_items.specs.declared.item.Item.{out-Item}
use Rattle.secs_items.specs.Layers.{kind_of}
use Rattle.secs_items.specs.Views.{Viewed}
use Rattle.secs_items.proofs.Viewing.{kind_in}
use Rattle.secs_items.proofs.item_view.ItemView.kind.Goals as goal

pub returns : goal.returns
returns c =
    let v = c.self.inside in
    sym (kind_in v.kind v.count v.depth v.content.now) ∙ ap (λ (w : Viewed). kind_of (out-Item w.item)) c.self.view_is
