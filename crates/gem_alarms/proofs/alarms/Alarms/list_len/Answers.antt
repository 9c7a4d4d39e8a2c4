-- The list of all alarms, and that of the named ones, from the lengths of their items.

use Rattle.std.proofs.Common.{sym, ◌∙◌, ap, length, map, List}
use Rattle.std.proofs.lemmas.List.{length-map}
use Rattle.secs_items.specs.declared.item.Item.{Item}
use Rattle.secs_items.specs.declared.item.Item.TheVariants as item
use Rattle.secs_items.specs.Measures.{capped}
use Rattle.secs_items.specs.Spelling.{shortest_spelling}
use Rattle.gem_alarms.specs.Alarms.{AlarmTable, body_of, entry_item}
use Rattle.gem_alarms.proofs.Spelled.{all_listed, some_listed}
use Rattle.gem_alarms.proofs.alarms.Alarms.list_len.Goals as goal

pub returns-then-is_empty : goal.returns-then-is_empty
returns-then-is_empty c =
    let table = c.args.self.now in
    let count =
    c.len.ensures.len ∙ ap (λ (t : AlarmTable). length t) c.self.view_is ∙ sym (length-map table entry_item) in
    c.list_len.ensures (map entry_item table) (sym count) c.entries_len.ensures
    ∙ ap (λ (items : List Item). capped (length (shortest_spelling (item.L items))))
    (sym (all_listed table c.args.ids.now c.if-is_empty.ensures))

pub returns-else-is_empty : goal.returns-else-is_empty
returns-else-is_empty c =
    let table = c.args.self.now in
    let ids = c.args.ids.now in
    c.list_len-else-is_empty.ensures (map (body_of table) ids) (length-map ids (body_of table)) c.bodies_len.ensures
    ∙ ap (λ (items : List Item). capped (length (shortest_spelling (item.L items))))
    (sym (some_listed table ids c.if-is_empty.ensures))
