-- Where the first fault of bytes stands, in words of spellings alone.
use Rattle.std.specs.Prelude.{◌≡◌, ◌≢◌, ℕ, ◌+◌, ◌%◌, ◌<◌, ◌≤◌, List, [], ◌++◌, length, take, slice_index}
use Rattle.secs_items.specs.declared.item.Item.{Item}
use Rattle.secs_items.specs.declared.item_fault.ItemFault.{ItemFault}
use Rattle.secs_items.specs.declared.item_fault.ItemFault.TheVariants as fault
use Rattle.secs_items.specs.Spelling.{Spells}

-- the spelling of some item begins so
abbrev pub Begins : List ℕ → Type 0
Begins front = (more : List ℕ) × (item : Item) × Spells item (front ++ more)

-- the spelling of some item begins so, and is longer
abbrev pub IsCutShort : List ℕ → Type 0
IsCutShort bytes = (more : List ℕ) × (item : Item) × (more ≢ []) × Spells item (bytes ++ more)

-- What stands before the place begins a spelling. With so many bytes more nothing does.
pub record BreaksAt (at count : ℕ) (bytes : List ℕ) : Type 0 where
  pub within : at + count ≤ length bytes
  pub front : Begins (take at bytes)
  pub broken : Begins (take (at + count) bytes) → ⊥

-- an item is spelled up to the place, and further bytes follow
pub record EndsAt (at : ℕ) (bytes : List ℕ) : Type 0 where
  pub item : Item
  pub spelled : Spells item (take at bytes)
  pub further : at < length bytes

-- Where each fault stands: where the bytes end, or the item ends; else at the item's format byte, and the item breaks
-- with this byte, or with the length bytes that it announces.
abbrev pub FaultStands : List ℕ → ItemFault → Type 0
FaultStands bytes (fault.Short at) = (at ≡ length bytes) × IsCutShort bytes
FaultStands bytes (fault.BadCode at) = BreaksAt at 1 bytes
FaultStands bytes (fault.NoLengthBytes at) = BreaksAt at 1 bytes
FaultStands bytes (fault.TooDeep at) = BreaksAt at 1 bytes
FaultStands bytes (fault.Uneven at) = BreaksAt at (1 + slice_index bytes at % 4) bytes
FaultStands bytes (fault.Trailing at) = EndsAt at bytes
FaultStands bytes fault.NoMemory = ⊥
