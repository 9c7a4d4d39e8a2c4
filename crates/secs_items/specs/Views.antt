-- What a view of checked bytes shows.
use Rattle.std.specs.Prelude.{◌≡◌, ℕ, ◌*◌, true, false, if◌then◌else◌, List, [], ◌∷◌, ◌++◌, length, take, slice_get, Option, Some, None, Result, Ok, Err}
use Rattle.secs_items.specs.declared.item.Item.{Item, out-Item}
use Rattle.secs_items.specs.declared.item.Item.TheOpen.{Item-F}
use Rattle.secs_items.specs.declared.item.Item.TheVariants as item
use Rattle.secs_items.specs.declared.item_fault.ItemFault.{ItemFault}
use Rattle.secs_items.specs.declared.kind.Kind.{Kind}
use Rattle.secs_items.specs.Kinds.{is_list, unit_of}
use Rattle.secs_items.specs.Layers.{kind_of, length_of, items_of}
use Rattle.secs_items.specs.Reading.{after_each, after_item, item_at, items_at, leaf_of}
use Rattle.secs_items.specs.Spelling.{IsHead, SpellsEach, SpellsWithin}

-- an item, and the bytes after its head
pub record Viewed : Type 0 where
  pub item : Item
  pub content : List ℕ

-- the items that so much content has, where lists may nest so deep in them
abbrev pub items_read : Result (List Item × List ℕ) ItemFault → List Item
items_read (Ok x) = x.0
items_read (Err e) = []

abbrev pub item_in : Kind → ℕ → ℕ → List ℕ → Item
item_in kind count depth content =
    if is_list kind then item.L (items_read (items_at (item_at 0 depth) count content))
    else leaf_of kind content

-- Such content is whole: so many items, or as many bytes as so many elements have.
pub record IsWhole (kind : Kind) (count depth : ℕ) (content : List ℕ) : Type 0 where
  pub items : is_list kind ≡ true → after_each (after_item 0 depth) count content ≡ Ok []
  pub elements : is_list kind ≡ false → length content ≡ unit_of kind * count

-- the bytes are the head of the viewed item, its content and what is left
pub record ShowsFront (bytes : List ℕ) (v : Viewed) (rest : List ℕ) : Type 0 where
  pub head : List ℕ
  pub is_head : IsHead (kind_of (out-Item v.item)) (length_of (out-Item v.item)) head
  pub parts : bytes ≡ head ++ (v.content ++ rest)

-- The view at a place of a list shows the item that stands there. Its head and content follow the items before it.
pub record ShowsChild (parent : Viewed) (place : ℕ) (child : Viewed) : Type 0 where
  pub before : List ℕ
  pub after : List ℕ
  pub front : List ℕ
  pub items_before : (depth : ℕ) × SpellsEach (SpellsWithin depth) (take place (items_of (out-Item parent.item))) before
  pub shown : ShowsFront front child after
  pub parts : parent.content ≡ before ++ front

-- the item at a place of the viewed list
abbrev pub child_in : Viewed → ℕ → Option Item
child_in v place = slice_get (items_of (out-Item v.item)) place

-- the number that is the one element of U1, U2, U4 or U8
abbrev pub number_of : {A : Type 0} → Item-F A → Option ℕ
number_of (Item-F.U1 (n ∷ [])) = Some n
number_of (Item-F.U2 (n ∷ [])) = Some n
number_of (Item-F.U4 (n ∷ [])) = Some n
number_of (Item-F.U8 (n ∷ [])) = Some n
number_of _ = None

-- the view that was given shows this item
abbrev pub ChecksOnly : Item → Result Viewed ItemFault → Type 0
ChecksOnly item (Ok view) = view.item ≡ item
ChecksOnly item (Err e) = ⊥
