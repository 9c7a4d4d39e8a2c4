-- How deep an item is, and what a number is where it may pass a machine's word.
use Rattle.std.specs.Prelude.{ℕ, suc, ◌+◌, ◌-◌, ◌*◌, ◌^◌, List, length, fold, max, min}
use Rattle.secs_items.specs.declared.item.Item.{Item}
use Rattle.secs_items.specs.declared.item.Item.TheOpen.{Item-F}
use Rattle.secs_items.specs.declared.item.Item.TheFolds.{fold-Item}
use Rattle.secs_items.specs.declared.kind.Kind.{Kind}
use Rattle.secs_items.specs.Kinds.{unit_of}
use Rattle.secs_items.specs.Spelling.{shortest_head}

-- the greatest of them, 0 where there is none
abbrev pub deepest : List ℕ → ℕ
deepest = fold max 0

-- one item, with the depths of a list's items in their places
abbrev pub layer_depth : Item-F ℕ → ℕ
layer_depth (Item-F.L depths) = suc (deepest depths)
layer_depth _ = 0

-- how many lists stand one in another: none in an item that is no list, one in a list without lists
abbrev pub depth_of : Item → ℕ
depth_of = fold-Item ℕ layer_depth

-- the length of the shortest spelling of an item that has so many elements and so many bytes of content
abbrev pub leaf_length : Kind → ℕ → ℕ → ℕ
leaf_length kind count content = length (shortest_head kind (unit_of kind * count)) + content

-- the number, or the greatest that 64 bits hold
abbrev pub capped : ℕ → ℕ
capped n = min n (2 ^ 64 - 1)
