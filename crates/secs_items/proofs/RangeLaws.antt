-- An item is in range exactly where its elements and the items in it are.
use Rattle.std.proofs.Common.{◌≡◌, List, [], ◌∷◌, map, Result, Ok, Err, refl, sym, ap, subst, ◌∙◌}
use Rattle.std.specs.Prelude.{OnOk}
use Rattle.std.specs.List.{AllByRecursion}
use Rattle.secs_items.specs.declared.item.Item.{Item, out-Item}
use Rattle.secs_items.specs.declared.item.Item.TheOpen.{Item-F}
use Rattle.secs_items.specs.declared.item.Item.TheViews.{roll-Item}
use Rattle.secs_items.specs.declared.item.Item.TheFolds.{every_held-Item, every_made-Item, map-Item}
use Rattle.secs_items.specs.Layers.{items_of}
use Rattle.secs_items.specs.Ranges.{HasRanges, InRange}

paired : (items : List Item) → AllByRecursion InRange items → List ((i : Item) × InRange i)
paired [] all = []
paired (i ∷ items) all = (i, all.0) ∷ paired items all.1

paired_are : (items : List Item) (all : AllByRecursion InRange items) → map (λ (e : (i : Item) × InRange i). e.0) (paired items all) ≡ items
unfolding paired
paired_are [] all = refl
paired_are (i ∷ items) all = ap (λ (is : List Item). i ∷ is) (paired_are items all.1)

pub layer_in_range : (x : Item-F Item) → HasRanges x → AllByRecursion InRange (items_of x) → InRange (roll-Item x)
layer_in_range (Item-F.L items) ranges all =
    every_made-Item HasRanges (Item-F.L items) (Item-F.L (paired items all)) (ap (λ (is : List Item). Item-F.L is) (paired_are items all)) tt
layer_in_range (Item-F.B ys) ranges all = every_made-Item HasRanges (Item-F.B ys) (Item-F.B ys) refl ranges
layer_in_range (Item-F.Bool ys) ranges all = every_made-Item HasRanges (Item-F.Bool ys) (Item-F.Bool ys) refl ranges
layer_in_range (Item-F.A ys) ranges all = every_made-Item HasRanges (Item-F.A ys) (Item-F.A ys) refl ranges
layer_in_range (Item-F.J ys) ranges all = every_made-Item HasRanges (Item-F.J ys) (Item-F.J ys) refl ranges
layer_in_range (Item-F.I1 ys) ranges all = every_made-Item HasRanges (Item-F.I1 ys) (Item-F.I1 ys) refl ranges
layer_in_range (Item-F.I2 ys) ranges all = every_made-Item HasRanges (Item-F.I2 ys) (Item-F.I2 ys) refl ranges
layer_in_range (Item-F.I4 ys) ranges all = every_made-Item HasRanges (Item-F.I4 ys) (Item-F.I4 ys) refl ranges
layer_in_range (Item-F.I8 ys) ranges all = every_made-Item HasRanges (Item-F.I8 ys) (Item-F.I8 ys) refl ranges
layer_in_range (Item-F.U1 ys) ranges all = every_made-Item HasRanges (Item-F.U1 ys) (Item-F.U1 ys) refl ranges
layer_in_range (Item-F.U2 ys) ranges all = every_made-Item HasRanges (Item-F.U2 ys) (Item-F.U2 ys) refl ranges
layer_in_range (Item-F.U4 ys) ranges all = every_made-Item HasRanges (Item-F.U4 ys) (Item-F.U4 ys) refl ranges
layer_in_range (Item-F.U8 ys) ranges all = every_made-Item HasRanges (Item-F.U8 ys) (Item-F.U8 ys) refl ranges
layer_in_range (Item-F.F4 ys) ranges all = every_made-Item HasRanges (Item-F.F4 ys) (Item-F.F4 ys) refl ranges
layer_in_range (Item-F.F8 ys) ranges all = every_made-Item HasRanges (Item-F.F8 ys) (Item-F.F8 ys) refl ranges

-- the items in an item are in range where it is
each_kept : (es : List ((i : Item) × InRange i)) → AllByRecursion InRange (map (λ (e : (i : Item) × InRange i). e.0) es)
each_kept [] = tt
each_kept (e ∷ es) = (e.1, each_kept es)

items_kept : (y : Item-F ((i : Item) × InRange i))
    → items_of (map-Item ((i : Item) × InRange i) Item (λ e. e.0) y) ≡ map (λ (e : (i : Item) × InRange i). e.0) (items_of y)
items_kept (Item-F.L xs) = refl
items_kept (Item-F.B xs) = refl
items_kept (Item-F.Bool xs) = refl
items_kept (Item-F.A xs) = refl
items_kept (Item-F.J xs) = refl
items_kept (Item-F.I1 xs) = refl
items_kept (Item-F.I2 xs) = refl
items_kept (Item-F.I4 xs) = refl
items_kept (Item-F.I8 xs) = refl
items_kept (Item-F.U1 xs) = refl
items_kept (Item-F.U2 xs) = refl
items_kept (Item-F.U4 xs) = refl
items_kept (Item-F.U8 xs) = refl
items_kept (Item-F.F4 xs) = refl
items_kept (Item-F.F8 xs) = refl

pub items_in_range : (i : Item) → InRange i → AllByRecursion InRange (items_of (out-Item i))
items_in_range i ranges =
    let h = every_held-Item HasRanges i ranges in
    subst (AllByRecursion InRange) (sym (items_kept h.0) ∙ ap items_of h.1) (each_kept (items_of h.0))

-- an item that holds none, where a call that went well shows the ranges of its elements
pub leaf_in_range : {E : Type 0} (r : Result (Unit {0}) E) (x : Item-F Item) (i : Item) → roll-Item x ≡ i → items_of x ≡ [] → OnOk r (HasRanges x)
    → OnOk r (InRange i)
leaf_in_range (Ok u) x i rolls none ranges = subst InRange rolls (layer_in_range x ranges (subst (AllByRecursion InRange) (sym none) tt))
leaf_in_range (Err e) x i rolls none ranges = tt

-- a list, where it shows those of its items
pub list_in_range : {E : Type 0} (r : Result (Unit {0}) E) (items : List Item) (i : Item) → roll-Item (Item-F.L items) ≡ i
    → OnOk r (AllByRecursion InRange items) → OnOk r (InRange i)
list_in_range (Ok u) items i rolls all = subst InRange rolls (layer_in_range (Item-F.L items) tt all)
list_in_range (Err e) items i rolls all = tt
