-- What `spell` reads and writes (this profile).
use Rattle.std.specs.Prelude.{ℕ, List, ◌++◌, codes}
use Rattle.hex.specs.Hex.{encode_upper}
use Rattle.secs_items.specs.declared.item.Item.{Item}
use Rattle.secs_items.specs.Spelling.{Spells, shortest_spelling}
use Rattle.secs_text.specs.declared.text_fault.TextFault.{TextFault}
use Rattle.secs_text.specs.declared.text_fault.TextFault.TheVariants.{Syntax, Range, TooDeep, NoMemory}
use Rattle.secs_text.specs.Text.{text_of}
use Rattle.gemline_app.specs.HexInput.{HexMeans}
use Rattle.gemline_app.specs.declared.hex_input.HexFault.{HexFault}
use Rattle.gemline_app.specs.declared.hex_input.HexFault.TheVariants as hex_fault
use Rattle.gemline_app.specs.declared.hex_input.HexFault.TheVariants.{Break}
use Rattle.gemline_app.specs.declared.outcome.Outcome.{Outcome}
use Rattle.gemline_app.specs.declared.outcome.Outcome.TheVariants as outcome
use Rattle.gemline_app.specs.declared.outcome.Outcome.TheVariants.{BadHex}

-- the shortest spelling of an item in hex, and a newline
abbrev pub spelled_line : Item → List ℕ
spelled_line item = encode_upper (shortest_spelling item) ++ codes "\n"

-- the text of an item, and a newline
abbrev pub text_line : Item → List ℕ
text_line item = text_of item ++ codes "\n"

-- the input is the hex of bytes that spell the item
abbrev pub HexSpells : Item → List ℕ → Type 0
HexSpells item input = (bytes : List ℕ) × HexMeans bytes input × Spells item bytes

-- the place of a fault in a text. No text lacks memory
abbrev pub text_place : TextFault → ℕ
text_place (Syntax at) = at
text_place (Range at) = at
text_place (TooDeep at) = at
text_place NoMemory = 0

-- the refusal of an input of hex digits
abbrev pub refusal_of : HexFault → Outcome
refusal_of (Break at) = BadHex at
refusal_of hex_fault.NoMemory = outcome.NoMemory
