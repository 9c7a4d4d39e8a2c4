-- What is put is the text of the item, and the item is in range, kind by kind.

use Rattle.std.proofs.Common.{refl, sym, ◌∙◌}
use Rattle.secs_items.specs.declared.item.Item.TheOpen.{Item-F}
use Rattle.secs_items.specs.declared.item.Item.TheVariants.{rolls-L, rolls-B, rolls-Bool, rolls-A, rolls-J, rolls-I1, rolls-I2, rolls-I4, rolls-I8, rolls-U1, rolls-U2, rolls-U4, rolls-U8, rolls-F4, rolls-F8}
use Rattle.secs_items.proofs.RangeLaws.{leaf_in_range, list_in_range}
use Rattle.secs_text.proofs.Printed.{text_L}
use Rattle.secs_text.proofs.printing.+printing.Goals as goal

pub put_item-returns-in-L-clause-puts : goal.put_item-returns-in-L-clause-puts
put_item-returns-in-L-clause-puts t c = rw (c.in-L.is, text_L c.in-L.items) (rw (← c.as_slice.ensures) c.put_list.ensures.puts)

pub put_item-returns-in-L-clause-ranges : goal.put_item-returns-in-L-clause-ranges
put_item-returns-in-L-clause-ranges t c =
    list_in_range c.put_list.result c.in-L.items c.args.item.now (rolls-L c.in-L.items ∙ sym c.in-L.is)
    (rw (← c.as_slice.ensures) c.put_list.ensures.ranges)

pub put_item-returns-in-B-clause-ranges : goal.put_item-returns-in-B-clause-ranges
put_item-returns-in-B-clause-ranges t c =
    leaf_in_range c.put_elements.result (Item-F.B c.in-B.bytes) c.args.item.now
    (rolls-B c.in-B.bytes ∙ sym c.in-B.is) refl c.put_elements.ensures.ranges

pub put_item-returns-in-Bool-clause-ranges : goal.put_item-returns-in-Bool-clause-ranges
put_item-returns-in-Bool-clause-ranges t c =
    leaf_in_range c.put_elements-in-Bool.result (Item-F.Bool c.in-Bool.bytes) c.args.item.now
    (rolls-Bool c.in-Bool.bytes ∙ sym c.in-Bool.is) refl c.put_elements-in-Bool.ensures.ranges

pub put_item-returns-in-A-clause-ranges : goal.put_item-returns-in-A-clause-ranges
put_item-returns-in-A-clause-ranges t c =
    leaf_in_range c.put_text.result (Item-F.A c.in-A.bytes) c.args.item.now (rolls-A c.in-A.bytes ∙ sym c.in-A.is) refl
    (rw (← c.as_slice-in-A.ensures) c.put_text.ensures.ranges)

pub put_item-returns-in-J-clause-ranges : goal.put_item-returns-in-J-clause-ranges
put_item-returns-in-J-clause-ranges t c =
    leaf_in_range c.put_elements-in-J.result (Item-F.J c.in-J.bytes) c.args.item.now
    (rolls-J c.in-J.bytes ∙ sym c.in-J.is) refl c.put_elements-in-J.ensures.ranges

pub put_item-returns-in-I1-clause-ranges : goal.put_item-returns-in-I1-clause-ranges
put_item-returns-in-I1-clause-ranges t c =
    leaf_in_range c.put_elements-in-I1.result (Item-F.I1 c.in-I1.numbers) c.args.item.now
    (rolls-I1 c.in-I1.numbers ∙ sym c.in-I1.is) refl c.put_elements-in-I1.ensures.ranges

pub put_item-returns-in-I2-clause-ranges : goal.put_item-returns-in-I2-clause-ranges
put_item-returns-in-I2-clause-ranges t c =
    leaf_in_range c.put_elements-in-I2.result (Item-F.I2 c.in-I2.numbers) c.args.item.now
    (rolls-I2 c.in-I2.numbers ∙ sym c.in-I2.is) refl c.put_elements-in-I2.ensures.ranges

pub put_item-returns-in-I4-clause-ranges : goal.put_item-returns-in-I4-clause-ranges
put_item-returns-in-I4-clause-ranges t c =
    leaf_in_range c.put_elements-in-I4.result (Item-F.I4 c.in-I4.numbers) c.args.item.now
    (rolls-I4 c.in-I4.numbers ∙ sym c.in-I4.is) refl c.put_elements-in-I4.ensures.ranges

pub put_item-returns-in-I8-clause-ranges : goal.put_item-returns-in-I8-clause-ranges
put_item-returns-in-I8-clause-ranges t c =
    leaf_in_range c.put_elements-in-I8.result (Item-F.I8 c.in-I8.numbers) c.args.item.now
    (rolls-I8 c.in-I8.numbers ∙ sym c.in-I8.is) refl c.put_elements-in-I8.ensures.ranges

pub put_item-returns-in-U1-clause-ranges : goal.put_item-returns-in-U1-clause-ranges
put_item-returns-in-U1-clause-ranges t c =
    leaf_in_range c.put_elements-in-U1.result (Item-F.U1 c.in-U1.numbers) c.args.item.now
    (rolls-U1 c.in-U1.numbers ∙ sym c.in-U1.is) refl c.put_elements-in-U1.ensures.ranges

pub put_item-returns-in-U2-clause-ranges : goal.put_item-returns-in-U2-clause-ranges
put_item-returns-in-U2-clause-ranges t c =
    leaf_in_range c.put_elements-in-U2.result (Item-F.U2 c.in-U2.numbers) c.args.item.now
    (rolls-U2 c.in-U2.numbers ∙ sym c.in-U2.is) refl c.put_elements-in-U2.ensures.ranges

pub put_item-returns-in-U4-clause-ranges : goal.put_item-returns-in-U4-clause-ranges
put_item-returns-in-U4-clause-ranges t c =
    leaf_in_range c.put_elements-in-U4.result (Item-F.U4 c.in-U4.numbers) c.args.item.now
    (rolls-U4 c.in-U4.numbers ∙ sym c.in-U4.is) refl c.put_elements-in-U4.ensures.ranges

pub put_item-returns-in-U8-clause-ranges : goal.put_item-returns-in-U8-clause-ranges
put_item-returns-in-U8-clause-ranges t c =
    leaf_in_range c.put_elements-in-U8.result (Item-F.U8 c.in-U8.numbers) c.args.item.now
    (rolls-U8 c.in-U8.numbers ∙ sym c.in-U8.is) refl c.put_elements-in-U8.ensures.ranges

pub put_item-returns-in-F4-clause-ranges : goal.put_item-returns-in-F4-clause-ranges
put_item-returns-in-F4-clause-ranges t c =
    leaf_in_range c.put_elements-in-F4.result (Item-F.F4 c.in-F4.floats) c.args.item.now
    (rolls-F4 c.in-F4.floats ∙ sym c.in-F4.is) refl c.put_elements-in-F4.ensures.ranges

pub put_item-returns-in-F8-clause-ranges : goal.put_item-returns-in-F8-clause-ranges
put_item-returns-in-F8-clause-ranges t c =
    leaf_in_range c.put_elements-in-F8.result (Item-F.F8 c.in-F8.floats) c.args.item.now
    (rolls-F8 c.in-F8.floats ∙ sym c.in-F8.is) refl c.put_elements-in-F8.ensures.ranges
