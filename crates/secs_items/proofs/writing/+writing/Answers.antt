-- What each kind's arm has written.
use Rattle.std.proofs.Common.{◌-◌, refl, sym, ◌∙◌}
use Rattle.std.proofs.lemmas.Result.{err_from_is_err_and}
use Rattle.secs_items.specs.declared.item.Item.TheOpen.{Item-F}
use Rattle.secs_items.specs.declared.item.Item.TheVariants.{rolls-L, rolls-B, rolls-Bool, rolls-A, rolls-J, rolls-I1, rolls-I2, rolls-I4, rolls-I8, rolls-U1, rolls-U2, rolls-U4, rolls-U8, rolls-F4, rolls-F8}
use Rattle.secs_items.proofs.RangeLaws.{list_in_range}
use Rattle.secs_items.proofs.Written.{puts_leaf, puts_list, puts_no_head}
use Rattle.secs_items.proofs.writing.+writing.Goals as goal

pub put_item-returns-in_err-put_head-in-L-clause-puts : goal.put_item-returns-in_err-put_head-in-L-clause-puts
put_item-returns-in_err-put_head-in-L-clause-puts t c =
    let p = err_from_is_err_and c.from_residual.result c.from_residual.ensures.1 in
    rw (p.1, p.2, c.in-L.is, ← c.len.ensures) (puts_no_head c.in-L.items c.args.depth (c.len.result - c.args.start) c.args.into.now c.put_head.new.into c.in_err-put_head-in-L.field-0.0 c.if-depth-eq0.false (rw (← c.len-in-L.ensures) c.in_err-put_head-in-L.ensures))

pub put_item-returns-in_ok-put_head-in-L-clause-puts : goal.put_item-returns-in_ok-put_head-in-L-clause-puts
put_item-returns-in_ok-put_head-in-L-clause-puts t c =
    let head = c.in_ok-put_head-in-L.ensures in
    rw c.in-L.is (puts_list c.in-L.items c.args.depth c.args.start c.len.result c.args.into.now c.put_head.new.into c.put_items.new.into c.put_items.result c.if-depth-eq0.false c.requires c.len.ensures (rw (← c.len-in-L.ensures) head.0) (rw (← c.len-in-L.ensures) head.1) (rw (← c.as_slice.ensures) c.put_items.ensures.puts))

pub put_item-returns-in_ok-put_head-in-L-clause-ranges : goal.put_item-returns-in_ok-put_head-in-L-clause-ranges
put_item-returns-in_ok-put_head-in-L-clause-ranges t c =
    list_in_range c.put_items.result c.in-L.items c.args.item.now (rolls-L c.in-L.items ∙ sym c.in-L.is) (rw (← c.as_slice.ensures) c.put_items.ensures.ranges)

pub put_item-returns-in-B : goal.put_item-returns-in-B
put_item-returns-in-B t c =
    puts_leaf (Item-F.B c.in-B.bytes) c.args.item.now _ c.args.depth c.len.result c.args.start c.args.into.now c.put_bytes.new.into c.put_bytes.result (rolls-B c.in-B.bytes ∙ sym c.in-B.is) refl refl refl c.len.ensures c.put_bytes.ensures

pub put_item-returns-in-Bool : goal.put_item-returns-in-Bool
put_item-returns-in-Bool t c =
    puts_leaf (Item-F.Bool c.in-Bool.bytes) c.args.item.now _ c.args.depth c.len.result c.args.start c.args.into.now c.put_bytes-in-Bool.new.into c.put_bytes-in-Bool.result (rolls-Bool c.in-Bool.bytes ∙ sym c.in-Bool.is) refl refl refl c.len.ensures c.put_bytes-in-Bool.ensures

pub put_item-returns-in-A : goal.put_item-returns-in-A
put_item-returns-in-A t c =
    puts_leaf (Item-F.A c.in-A.bytes) c.args.item.now _ c.args.depth c.len.result c.args.start c.args.into.now c.put_bytes-in-A.new.into c.put_bytes-in-A.result (rolls-A c.in-A.bytes ∙ sym c.in-A.is) refl refl refl c.len.ensures c.put_bytes-in-A.ensures

pub put_item-returns-in-J : goal.put_item-returns-in-J
put_item-returns-in-J t c =
    puts_leaf (Item-F.J c.in-J.bytes) c.args.item.now _ c.args.depth c.len.result c.args.start c.args.into.now c.put_bytes-in-J.new.into c.put_bytes-in-J.result (rolls-J c.in-J.bytes ∙ sym c.in-J.is) refl refl refl c.len.ensures c.put_bytes-in-J.ensures

pub put_item-returns-in-I1 : goal.put_item-returns-in-I1
put_item-returns-in-I1 t c =
    puts_leaf (Item-F.I1 c.in-I1.numbers) c.args.item.now _ c.args.depth c.len.result c.args.start c.args.into.now c.put_elements.new.into c.put_elements.result (rolls-I1 c.in-I1.numbers ∙ sym c.in-I1.is) refl refl refl c.len.ensures c.put_elements.ensures

pub put_item-returns-in-I2 : goal.put_item-returns-in-I2
put_item-returns-in-I2 t c =
    puts_leaf (Item-F.I2 c.in-I2.numbers) c.args.item.now _ c.args.depth c.len.result c.args.start c.args.into.now c.put_elements-in-I2.new.into c.put_elements-in-I2.result (rolls-I2 c.in-I2.numbers ∙ sym c.in-I2.is) refl refl refl c.len.ensures c.put_elements-in-I2.ensures

pub put_item-returns-in-I4 : goal.put_item-returns-in-I4
put_item-returns-in-I4 t c =
    puts_leaf (Item-F.I4 c.in-I4.numbers) c.args.item.now _ c.args.depth c.len.result c.args.start c.args.into.now c.put_elements-in-I4.new.into c.put_elements-in-I4.result (rolls-I4 c.in-I4.numbers ∙ sym c.in-I4.is) refl refl refl c.len.ensures c.put_elements-in-I4.ensures

pub put_item-returns-in-I8 : goal.put_item-returns-in-I8
put_item-returns-in-I8 t c =
    puts_leaf (Item-F.I8 c.in-I8.numbers) c.args.item.now _ c.args.depth c.len.result c.args.start c.args.into.now c.put_elements-in-I8.new.into c.put_elements-in-I8.result (rolls-I8 c.in-I8.numbers ∙ sym c.in-I8.is) refl refl refl c.len.ensures c.put_elements-in-I8.ensures

pub put_item-returns-in-U1 : goal.put_item-returns-in-U1
put_item-returns-in-U1 t c =
    puts_leaf (Item-F.U1 c.in-U1.numbers) c.args.item.now _ c.args.depth c.len.result c.args.start c.args.into.now c.put_bytes-in-U1.new.into c.put_bytes-in-U1.result (rolls-U1 c.in-U1.numbers ∙ sym c.in-U1.is) refl refl refl c.len.ensures c.put_bytes-in-U1.ensures

pub put_item-returns-in-U2 : goal.put_item-returns-in-U2
put_item-returns-in-U2 t c =
    puts_leaf (Item-F.U2 c.in-U2.numbers) c.args.item.now _ c.args.depth c.len.result c.args.start c.args.into.now c.put_elements-in-U2.new.into c.put_elements-in-U2.result (rolls-U2 c.in-U2.numbers ∙ sym c.in-U2.is) refl refl refl c.len.ensures c.put_elements-in-U2.ensures

pub put_item-returns-in-U4 : goal.put_item-returns-in-U4
put_item-returns-in-U4 t c =
    puts_leaf (Item-F.U4 c.in-U4.numbers) c.args.item.now _ c.args.depth c.len.result c.args.start c.args.into.now c.put_elements-in-U4.new.into c.put_elements-in-U4.result (rolls-U4 c.in-U4.numbers ∙ sym c.in-U4.is) refl refl refl c.len.ensures c.put_elements-in-U4.ensures

pub put_item-returns-in-U8 : goal.put_item-returns-in-U8
put_item-returns-in-U8 t c =
    puts_leaf (Item-F.U8 c.in-U8.numbers) c.args.item.now _ c.args.depth c.len.result c.args.start c.args.into.now c.put_elements-in-U8.new.into c.put_elements-in-U8.result (rolls-U8 c.in-U8.numbers ∙ sym c.in-U8.is) refl refl refl c.len.ensures c.put_elements-in-U8.ensures

pub put_item-returns-in-F4 : goal.put_item-returns-in-F4
put_item-returns-in-F4 t c =
    puts_leaf (Item-F.F4 c.in-F4.floats) c.args.item.now _ c.args.depth c.len.result c.args.start c.args.into.now c.put_elements-in-F4.new.into c.put_elements-in-F4.result (rolls-F4 c.in-F4.floats ∙ sym c.in-F4.is) refl refl refl c.len.ensures c.put_elements-in-F4.ensures

pub put_item-returns-in-F8 : goal.put_item-returns-in-F8
put_item-returns-in-F8 t c =
    puts_leaf (Item-F.F8 c.in-F8.floats) c.args.item.now _ c.args.depth c.len.result c.args.start c.args.into.now c.put_elements-in-F8.new.into c.put_elements-in-F8.result (rolls-F8 c.in-F8.floats ∙ sym c.in-F8.is) refl refl refl c.len.ensures c.put_elements-in-F8.ensures
