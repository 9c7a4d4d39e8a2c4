-- Whether two items are equal, as a truth value.
use Rattle.std.specs.Prelude.{ℕ, ℤ, pos, negsuc, Bool, true, false, ◌&&◌, ◌==◌, List, [], ◌∷◌, map, nat_eq}
use Rattle.std.specs.Cmp.Lexicographic.{pointwise}
use Rattle.secs_items.specs.declared.item.Item.{Item, out-Item}
use Rattle.secs_items.specs.declared.item.Item.TheOpen.{Item-F}
use Rattle.secs_items.specs.declared.item.Item.TheFolds.{fold-Item}
use Rattle.secs_items.specs.Kinds.{code_of}
use Rattle.secs_items.specs.Layers.{items_of, kind_of}

-- a signed number, told apart from every other one
abbrev pub signed_row : ℤ → List ℕ
signed_row (pos n) = n ∷ []
signed_row (negsuc n) = n ∷ 0 ∷ []

-- the elements of an item that is no list, as rows that tell those of one kind apart
abbrev pub element_rows : {A : Type 0} → Item-F A → List (List ℕ)
element_rows (Item-F.L items) = []
element_rows (Item-F.B bytes) = bytes ∷ []
element_rows (Item-F.Bool bytes) = bytes ∷ []
element_rows (Item-F.A bytes) = bytes ∷ []
element_rows (Item-F.J bytes) = bytes ∷ []
element_rows (Item-F.I1 numbers) = map signed_row numbers
element_rows (Item-F.I2 numbers) = map signed_row numbers
element_rows (Item-F.I4 numbers) = map signed_row numbers
element_rows (Item-F.I8 numbers) = map signed_row numbers
element_rows (Item-F.U1 numbers) = numbers ∷ []
element_rows (Item-F.U2 numbers) = numbers ∷ []
element_rows (Item-F.U4 numbers) = numbers ∷ []
element_rows (Item-F.U8 numbers) = numbers ∷ []
element_rows (Item-F.F4 floats) = floats
element_rows (Item-F.F8 floats) = floats

-- there is a test for each item, and it passes
abbrev pub each_passes : List (Item → Bool) → List Item → Bool
each_passes [] [] = true
each_passes [] (item ∷ items) = false
each_passes (test ∷ tests) [] = false
each_passes (test ∷ tests) (item ∷ items) = test item && each_passes tests items

-- of one kind, with equal elements, and with items that pass the tests in the places of a list's items
abbrev pub same_layer : Item-F (Item → Bool) → Item → Bool
same_layer x other =
    let y = out-Item other in
    code_of (kind_of x) == code_of (kind_of y) && pointwise (pointwise nat_eq) (element_rows x) (element_rows y)
    && each_passes (items_of x) (items_of y)

-- two items are equal: of one kind, with equal elements in one order (SEMI E5, items)
abbrev pub is_same_item : Item → Item → Bool
is_same_item = fold-Item (Item → Bool) same_layer
