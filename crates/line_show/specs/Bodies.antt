-- What is written of a message's text.
use Rattle.std.specs.Prelude.{ℕ, List, [], ◌∷◌, ◌++◌, ◌-◌, length, codes, decimal, Result, Ok, Err}
use Rattle.secs_items.specs.declared.item.Item.{Item}
use Rattle.secs_items.specs.declared.item_fault.ItemFault.{ItemFault}
use Rattle.secs_items.specs.declared.item_fault.ItemFault.TheVariants as fault
use Rattle.secs_items.specs.Reading.{item_at}
use Rattle.secs_text.specs.Text.{text_of}

-- the item that bytes are to be, with what follows it: nothing may
abbrev pub all_of : ℕ → Result (Item × List ℕ) ItemFault → Result Item ItemFault
all_of total (Err e) = Err e
all_of total (Ok (item, [])) = Ok item
all_of total (Ok (item, b ∷ rest)) = Err (fault.Trailing (total - length (b ∷ rest)))

-- the one item that bytes spell, or their first fault
abbrev pub item_of : List ℕ → Result Item ItemFault
item_of bytes = all_of (length bytes) (item_at (length bytes) 64 bytes)

-- the name and the place of a fault. No bytes lack memory
abbrev pub fault_text : ItemFault → List ℕ
fault_text (fault.Short at) = codes "Short at " ++ decimal at
fault_text (fault.BadCode at) = codes "BadCode at " ++ decimal at
fault_text (fault.NoLengthBytes at) = codes "NoLengthBytes at " ++ decimal at
fault_text (fault.Uneven at) = codes "Uneven at " ++ decimal at
fault_text (fault.TooDeep at) = codes "TooDeep at " ++ decimal at
fault_text (fault.Trailing at) = codes "Trailing at " ++ decimal at
fault_text fault.NoMemory = []

abbrev pub read_text : Result Item ItemFault → List ℕ
read_text (Ok item) = text_of item
read_text (Err e) = codes "bad " ++ fault_text e

-- the text of the item, `bad` and the first fault, or a stroke for a message without a text (this profile)
abbrev pub body_text : List ℕ → List ℕ
body_text [] = codes "-"
body_text (b ∷ bytes) = read_text (item_of (b ∷ bytes))
