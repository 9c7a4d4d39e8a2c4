-- One item, with whatever stands in the places of the items of a list.
use Rattle.std.specs.Prelude.{ℕ, ◌*◌, List, [], length}
use Rattle.std.specs.Int.{w8, w16, w32, w64, to_be_bytes}
use Rattle.std.specs.List.{flat_map}
use Rattle.secs_items.specs.declared.kind.Kind.{Kind}
use Rattle.secs_items.specs.declared.kind.Kind.TheVariants as kind
use Rattle.secs_items.specs.declared.item.Item.TheOpen.{Item-F}
use Rattle.secs_items.specs.Elements.{signed_bytes}
use Rattle.secs_items.specs.Kinds.{unit_of}

abbrev pub kind_of : {A : Type 0} → Item-F A → Kind
kind_of (Item-F.L items) = kind.L
kind_of (Item-F.B bytes) = kind.B
kind_of (Item-F.Bool bytes) = kind.Bool
kind_of (Item-F.A bytes) = kind.A
kind_of (Item-F.J bytes) = kind.J
kind_of (Item-F.I1 numbers) = kind.I1
kind_of (Item-F.I2 numbers) = kind.I2
kind_of (Item-F.I4 numbers) = kind.I4
kind_of (Item-F.I8 numbers) = kind.I8
kind_of (Item-F.U1 numbers) = kind.U1
kind_of (Item-F.U2 numbers) = kind.U2
kind_of (Item-F.U4 numbers) = kind.U4
kind_of (Item-F.U8 numbers) = kind.U8
kind_of (Item-F.F4 floats) = kind.F4
kind_of (Item-F.F8 floats) = kind.F8

-- how many items or elements
abbrev pub count_of : {A : Type 0} → Item-F A → ℕ
count_of (Item-F.L items) = length items
count_of (Item-F.B bytes) = length bytes
count_of (Item-F.Bool bytes) = length bytes
count_of (Item-F.A bytes) = length bytes
count_of (Item-F.J bytes) = length bytes
count_of (Item-F.I1 numbers) = length numbers
count_of (Item-F.I2 numbers) = length numbers
count_of (Item-F.I4 numbers) = length numbers
count_of (Item-F.I8 numbers) = length numbers
count_of (Item-F.U1 numbers) = length numbers
count_of (Item-F.U2 numbers) = length numbers
count_of (Item-F.U4 numbers) = length numbers
count_of (Item-F.U8 numbers) = length numbers
count_of (Item-F.F4 floats) = length floats
count_of (Item-F.F8 floats) = length floats

-- the length that stands in the head: items for a list, bytes for another kind
abbrev pub length_of : {A : Type 0} → Item-F A → ℕ
length_of x = unit_of (kind_of x) * count_of x

-- the items of a list; another kind has none
abbrev pub items_of : {A : Type 0} → Item-F A → List A
items_of (Item-F.L items) = items
items_of _ = []

-- The content: for a list what stands in its items' places, one after another, for another kind its elements, high
-- byte first.
abbrev pub content_of : Item-F (List ℕ) → List ℕ
content_of (Item-F.L spellings) = flat_map (λ spelling. spelling) spellings
content_of (Item-F.B bytes) = bytes
content_of (Item-F.Bool bytes) = bytes
content_of (Item-F.A bytes) = bytes
content_of (Item-F.J bytes) = bytes
content_of (Item-F.I1 numbers) = flat_map (signed_bytes w8) numbers
content_of (Item-F.I2 numbers) = flat_map (signed_bytes w16) numbers
content_of (Item-F.I4 numbers) = flat_map (signed_bytes w32) numbers
content_of (Item-F.I8 numbers) = flat_map (signed_bytes w64) numbers
content_of (Item-F.U1 numbers) = numbers
content_of (Item-F.U2 numbers) = flat_map (to_be_bytes w16) numbers
content_of (Item-F.U4 numbers) = flat_map (to_be_bytes w32) numbers
content_of (Item-F.U8 numbers) = flat_map (to_be_bytes w64) numbers
content_of (Item-F.F4 floats) = flat_map (λ bytes. bytes) floats
content_of (Item-F.F8 floats) = flat_map (λ bytes. bytes) floats
