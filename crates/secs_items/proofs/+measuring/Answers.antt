-- What each kind's arm has measured.
use Rattle.std.proofs.Common.{length, refl, sym, ap, ◌∙◌}
use Rattle.std.specs.List.{flat_map}
use Rattle.std.specs.Int.{w8, w16, w32, w64, to_be_bytes}
use Rattle.secs_items.specs.declared.item.Item.TheOpen.{Item-F}
use Rattle.secs_items.specs.declared.item.Item.TheVariants.{rolls-I1, rolls-I2, rolls-I4, rolls-I8, rolls-U2, rolls-U4, rolls-U8}
use Rattle.secs_items.specs.Elements.{signed_bytes}
use Rattle.secs_items.specs.Measures.{capped}
use Rattle.secs_items.specs.Spelling.{shortest_spelling}
use Rattle.secs_items.proofs.Lengths.{elements_long, leaf_measured}
use Rattle.secs_items.proofs.+measuring.Goals as goal

pub item::Item::spelled_len-returns-in-L : goal.item::Item::spelled_len-returns-in-L
item::Item::spelled_len-returns-in-L t c =
    let items = c.in-L.items in
    let same = c.as_slice.ensures in
    c.list_len.ensures items (sym c.len.ensures) (rw (← same) c.spelled_len_of_all.ensures)
    ∙ ap (λ i. capped (length (shortest_spelling i))) (sym c.in-L.is)

pub item::Item::spelled_len-returns-in-I1 : goal.item::Item::spelled_len-returns-in-I1
item::Item::spelled_len-returns-in-I1 t c =
    let xs = c.in-I1.numbers in
    leaf_measured (Item-F.I1 xs) c.args.self.now (flat_map (signed_bytes w8) xs) c.len-in-I1.result c.leaf_len-in-I1.result (rolls-I1 xs ∙ sym c.in-I1.is) refl (elements_long (signed_bytes w8) 1 (λ x. refl) xs) c.len-in-I1.ensures c.leaf_len-in-I1.ensures

pub item::Item::spelled_len-returns-in-I2 : goal.item::Item::spelled_len-returns-in-I2
item::Item::spelled_len-returns-in-I2 t c =
    let xs = c.in-I2.numbers in
    leaf_measured (Item-F.I2 xs) c.args.self.now (flat_map (signed_bytes w16) xs) c.len-in-I2.result c.leaf_len-in-I2.result (rolls-I2 xs ∙ sym c.in-I2.is) refl (elements_long (signed_bytes w16) 2 (λ x. refl) xs) c.len-in-I2.ensures c.leaf_len-in-I2.ensures

pub item::Item::spelled_len-returns-in-I4 : goal.item::Item::spelled_len-returns-in-I4
item::Item::spelled_len-returns-in-I4 t c =
    let xs = c.in-I4.numbers in
    leaf_measured (Item-F.I4 xs) c.args.self.now (flat_map (signed_bytes w32) xs) c.len-in-I4.result c.leaf_len-in-I4.result (rolls-I4 xs ∙ sym c.in-I4.is) refl (elements_long (signed_bytes w32) 4 (λ x. refl) xs) c.len-in-I4.ensures c.leaf_len-in-I4.ensures

pub item::Item::spelled_len-returns-in-I8 : goal.item::Item::spelled_len-returns-in-I8
item::Item::spelled_len-returns-in-I8 t c =
    let xs = c.in-I8.numbers in
    leaf_measured (Item-F.I8 xs) c.args.self.now (flat_map (signed_bytes w64) xs) c.len-in-I8.result c.leaf_len-in-I8.result (rolls-I8 xs ∙ sym c.in-I8.is) refl (elements_long (signed_bytes w64) 8 (λ x. refl) xs) c.len-in-I8.ensures c.leaf_len-in-I8.ensures

pub item::Item::spelled_len-returns-in-U2 : goal.item::Item::spelled_len-returns-in-U2
item::Item::spelled_len-returns-in-U2 t c =
    let xs = c.in-U2.numbers in
    leaf_measured (Item-F.U2 xs) c.args.self.now (flat_map (to_be_bytes w16) xs) c.len-in-U2.result c.leaf_len-in-U2.result (rolls-U2 xs ∙ sym c.in-U2.is) refl (elements_long (to_be_bytes w16) 2 (λ x. refl) xs) c.len-in-U2.ensures c.leaf_len-in-U2.ensures

pub item::Item::spelled_len-returns-in-U4 : goal.item::Item::spelled_len-returns-in-U4
item::Item::spelled_len-returns-in-U4 t c =
    let xs = c.in-U4.numbers in
    leaf_measured (Item-F.U4 xs) c.args.self.now (flat_map (to_be_bytes w32) xs) c.len-in-U4.result c.leaf_len-in-U4.result (rolls-U4 xs ∙ sym c.in-U4.is) refl (elements_long (to_be_bytes w32) 4 (λ x. refl) xs) c.len-in-U4.ensures c.leaf_len-in-U4.ensures

pub item::Item::spelled_len-returns-in-U8 : goal.item::Item::spelled_len-returns-in-U8
item::Item::spelled_len-returns-in-U8 t c =
    let xs = c.in-U8.numbers in
    leaf_measured (Item-F.U8 xs) c.args.self.now (flat_map (to_be_bytes w64) xs) c.len-in-U8.result c.leaf_len-in-U8.result (rolls-U8 xs ∙ sym c.in-U8.is) refl (elements_long (to_be_bytes w64) 8 (λ x. refl) xs) c.len-in-U8.ensures c.leaf_len-in-U8.ensures
