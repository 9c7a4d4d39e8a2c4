-- Items and bodies of a line, found by functions that compute (this profile).
use Rattle.std.specs.Prelude.{ℕ, List, [], bytes_eq, codes, Option, Some, None, Result, Ok, Err, if◌then◌else◌}
use Rattle.std.specs.Option.{option_and_then}
use Rattle.secs_items.specs.declared.encode_fault.EncodeFault.{EncodeFault}
use Rattle.secs_items.specs.declared.item.Item.{Item, out-Item}
use Rattle.secs_items.specs.declared.item.Item.TheOpen.{Item-F}
use Rattle.secs_items.specs.Encoding.{encode_fault}
use Rattle.secs_items.specs.Spelling.{shortest_spelling}
use Rattle.secs_text.specs.declared.text_fault.TextFault.{TextFault}
use Rattle.secs_text.specs.Reading.{read_text}

abbrev pub found : Result Item TextFault → Option Item
found (Ok item) = Some item
found (Err e) = None

-- the item that all of the text reads as
abbrev pub item_in : List ℕ → Option Item
item_in text = found (read_text text)

abbrev pub bytes_of_layer : Item-F Item → Option (List ℕ)
bytes_of_layer (Item-F.A bytes) = Some bytes
bytes_of_layer _ = None

-- the bytes of an A
abbrev pub bytes_of : Item → Option (List ℕ)
bytes_of item = bytes_of_layer (out-Item item)

-- the bytes of the A that all of the text reads as
abbrev pub text_in : List ℕ → Option (List ℕ)
text_in text = option_and_then bytes_of (item_in text)

abbrev pub unless_fault : Option EncodeFault → List ℕ → Option (List ℕ)
unless_fault None bytes = Some bytes
unless_fault (Some e) bytes = None

-- the shortest spelling of an item, where it has one
abbrev pub spelling_of : Item → Option (List ℕ)
spelling_of item = unless_fault (encode_fault item) (shortest_spelling item)

-- no bytes for a hyphen, else those that the item of the text spells
abbrev pub body_in : List ℕ → Option (List ℕ)
body_in text = if bytes_eq text (codes "-") then Some [] else option_and_then spelling_of (item_in text)
