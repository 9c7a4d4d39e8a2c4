-- Floats are equal exactly where their bytes are.

use Rattle.secs_items.specs.declared.item.Item.TheVariants as item
use Rattle.secs_items.proofs.Rows.{raw_equal, rows_F4, rows_F8}
use Rattle.secs_items.proofs.+comparing.Goals as goal

pub item::Item::equals-returns-in-F4-F4 : goal.item::Item::equals-returns-in-F4-F4
item::Item::equals-returns-in-F4-F4 t c =
    raw_equal item.F4 c.args.self.now c.args.other.now c.in-F4-F4.floats c.in-F4-F4.others c.as_slice-in-F4-F4.result.now c.as_slice-in-F4-F4-2.result.now c.eq-in-F4-F4.result (rows_F4 c.in-F4-F4.floats c.in-F4-F4.others) c.in-F4-F4.is-0 c.in-F4-F4.is-1 c.as_slice-in-F4-F4.ensures c.as_slice-in-F4-F4-2.ensures c.eq-in-F4-F4.ensures

pub item::Item::equals-returns-in-F8-F8 : goal.item::Item::equals-returns-in-F8-F8
item::Item::equals-returns-in-F8-F8 t c =
    raw_equal item.F8 c.args.self.now c.args.other.now c.in-F8-F8.floats c.in-F8-F8.others c.as_slice-in-F8-F8.result.now c.as_slice-in-F8-F8-2.result.now c.eq-in-F8-F8.result (rows_F8 c.in-F8-F8.floats c.in-F8-F8.others) c.in-F8-F8.is-0 c.in-F8-F8.is-1 c.as_slice-in-F8-F8.ensures c.as_slice-in-F8-F8-2.ensures c.eq-in-F8-F8.ensures
