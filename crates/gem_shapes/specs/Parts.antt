-- Items in their bytes, one after another.
use Rattle.std.specs.Prelude.{◌≡◌, ℕ, List, ◌∷◌, length, Option, Some, None}
use Rattle.secs_items.specs.declared.item.Item.{Item, out-Item}
use Rattle.secs_items.specs.Spelling.{HasContent, Spells, SpellsEach}
use Rattle.secs_items.specs.Views.{Viewed}

-- the content of the viewed item is what stands behind its head
abbrev pub IsFilled : Viewed → Type 0
IsFilled v = HasContent (SpellsEach Spells) (out-Item v.item) v.content

-- these items are spelled, one after another, with at least one of them
pub record Begins (bytes : List ℕ) : Type 0 where
  pub first : Item
  pub others : List Item
  pub spelled : SpellsEach Spells (first ∷ others) bytes

-- what was found are so many items in their bytes, and nothing where this is no list
abbrev pub AreSpelled : Option (List Item) → Option (ℕ × List ℕ) → Type 0
AreSpelled (Some items) (Some found) = (found.0 ≡ length items) × SpellsEach Spells items found.1
AreSpelled None None = Unit {0}
AreSpelled _ _ = ⊥
