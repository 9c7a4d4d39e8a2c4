-- The one-line text of an item (this profile).
use Rattle.std.specs.Prelude.{ℕ, List, [], ◌∷◌, ◌++◌, decimal}
use Rattle.std.specs.Fmt.{signed_decimal}
use Rattle.std.specs.List.{flat_map}
use Rattle.secs_items.specs.declared.item.Item.{Item}
use Rattle.secs_items.specs.declared.item.Item.TheOpen.{Item-F}
use Rattle.secs_items.specs.declared.item.Item.TheFolds.{fold-Item}
use Rattle.secs_items.specs.Layers.{kind_of}
use Rattle.secs_text.specs.Names.{name_of}
use Rattle.short_text.specs.Shown.{hex_byte, shown_text}

abbrev pub hex_bytes : List ℕ → List ℕ
hex_bytes = flat_map hex_byte

-- a text in quotes
abbrev pub quoted_text : List ℕ → List ℕ
quoted_text bytes = 34 ∷ flat_map shown_text bytes ++ 34 ∷ []

-- each element after one space
abbrev pub spaced_texts : {T : Type 0} → (T → List ℕ) → List T → List ℕ
spaced_texts text elements = flat_map (λ element. 32 ∷ text element) elements

-- the elements of one item, where the texts of a list's items stand in their places
abbrev pub elements_text : Item-F (List ℕ) → List ℕ
elements_text (Item-F.L texts) = spaced_texts (λ text. text) texts
elements_text (Item-F.B bytes) = spaced_texts hex_byte bytes
elements_text (Item-F.Bool bytes) = spaced_texts hex_byte bytes
elements_text (Item-F.A bytes) = spaced_texts quoted_text (bytes ∷ [])
elements_text (Item-F.J bytes) = spaced_texts hex_byte bytes
elements_text (Item-F.I1 numbers) = spaced_texts signed_decimal numbers
elements_text (Item-F.I2 numbers) = spaced_texts signed_decimal numbers
elements_text (Item-F.I4 numbers) = spaced_texts signed_decimal numbers
elements_text (Item-F.I8 numbers) = spaced_texts signed_decimal numbers
elements_text (Item-F.U1 numbers) = spaced_texts decimal numbers
elements_text (Item-F.U2 numbers) = spaced_texts decimal numbers
elements_text (Item-F.U4 numbers) = spaced_texts decimal numbers
elements_text (Item-F.U8 numbers) = spaced_texts decimal numbers
elements_text (Item-F.F4 floats) = spaced_texts hex_bytes floats
elements_text (Item-F.F8 floats) = spaced_texts hex_bytes floats

-- `<`, the name, the elements, `>`
abbrev pub text_layer : Item-F (List ℕ) → List ℕ
text_layer x = 60 ∷ name_of (kind_of x) ++ elements_text x ++ 62 ∷ []

-- the text of an item on one line
abbrev pub text_of : Item → List ℕ
text_of = fold-Item (List ℕ) text_layer
