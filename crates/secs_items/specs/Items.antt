-- The items that most messages are made of.
use Rattle.std.specs.Prelude.{ℕ, [], ◌∷◌}
use Rattle.secs_items.specs.declared.item.Item.{Item}
use Rattle.secs_items.specs.declared.item.Item.TheVariants as item

-- one number of four bytes
abbrev pub number_item : ℕ → Item
number_item n = item.U4 (n ∷ [])
