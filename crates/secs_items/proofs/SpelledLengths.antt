-- How long an item's shortest spelling is, by its parts.
use Rattle.std.specs.Prelude.{min}
use Rattle.std.proofs.Common.{◌≡◌, sym, ◌∙◌, ap, ℕ, ◌+◌, ◌-◌, ◌*◌, ◌^◌, ◌<◌, List, [], ◌∷◌, ◌++◌, length, map, take, get_or, length-append, arith}
use Rattle.std.proofs.lemmas.Grind.{flat_map-append}
use Rattle.std.proofs.lemmas.List.{map-append, take_more}
use Rattle.std.specs.List.{flat_map}
use Rattle.secs_items.specs.declared.item.Item.{Item}
use Rattle.secs_items.specs.declared.item.Item.TheOpen.{Item-F}
use Rattle.secs_items.specs.declared.item.Item.TheFolds.{fold-roll-Item}
use Rattle.secs_items.specs.declared.item.Item.TheVariants as item
use Rattle.secs_items.specs.declared.item.Item.TheVariants.{rolls-A, rolls-B, rolls-L, rolls-U4}
use Rattle.secs_items.specs.declared.kind.Kind.TheVariants as kind
use Rattle.secs_items.specs.Items.{number_item}
use Rattle.secs_items.specs.Measures.{capped}
use Rattle.secs_items.specs.Spelling.{shortest_head, shortest_layer, shortest_spelling}
use Rattle.secs_items.proofs.Written.{layer_L}

-- how many bytes items have together
abbrev pub together : List Item → ℕ
together items = length (flat_map shortest_spelling items)

pub together-cons :
    (item : Item) (items : List Item) → together (item ∷ items) ≡ length (shortest_spelling item) + together items
together-cons item items = length-append (shortest_spelling item) (flat_map shortest_spelling items)

pub together-append : (xs ys : List Item) → together (xs ++ ys) ≡ together xs + together ys
together-append xs ys =
    ap (λ (s : List ℕ). length s) (flat_map-append shortest_spelling xs ys)
    ∙ length-append (flat_map shortest_spelling xs) (flat_map shortest_spelling ys)

pub length-number : (n : ℕ) → length (shortest_spelling (number_item n)) ≡ 6
length-number n =
    ap (λ i. length (shortest_spelling i)) (sym (rolls-U4 (n ∷ [])))
    ∙ ap length (fold-roll-Item (List ℕ) shortest_layer (Item-F.U4 (n ∷ [])))

-- one byte
pub length-byte : (n : ℕ) → length (shortest_spelling (item.B (n ∷ []))) ≡ 3
length-byte n =
    ap (λ i. length (shortest_spelling i)) (sym (rolls-B (n ∷ [])))
    ∙ ap length (fold-roll-Item (List ℕ) shortest_layer (Item-F.B (n ∷ [])))

pub length-no_bytes : length (shortest_spelling (item.B [])) ≡ 2
length-no_bytes =
    ap (λ i. length (shortest_spelling i)) (sym (rolls-B []))
    ∙ ap length (fold-roll-Item (List ℕ) shortest_layer (Item-F.B []))

pub length-text :
    (text : List ℕ)
    → length (shortest_spelling (item.A text)) ≡ length (shortest_head kind.A (1 * length text)) + length text
length-text text =
    ap (λ i. length (shortest_spelling i)) (sym (rolls-A text))
    ∙ ap length (fold-roll-Item (List ℕ) shortest_layer (Item-F.A text))
    ∙ length-append (shortest_head kind.A (1 * length text)) text

pub length-list :
    (items : List Item)
    → length (shortest_spelling (item.L items)) ≡ length (shortest_head kind.L (1 * length items)) + together items
length-list items =
    ap (λ i. length (shortest_spelling i)) (sym (rolls-L items))
    ∙ ap length (fold-roll-Item (List ℕ) shortest_layer (Item-F.L items) ∙ layer_L items)
    ∙ length-append (shortest_head kind.L (1 * length items)) (flat_map shortest_spelling items)

-- one item more, at the end of those so far
pub one_item_more :
    (f : ℕ → Item) (ids : List ℕ) (i d : ℕ) (so_far one now : ℕ) → i < length ids
    → now ≡ min (so_far + one) (2 ^ 64 - 1) → so_far ≡ capped (together (map f (take i ids)))
    → one ≡ capped (length (shortest_spelling (f (get_or ids i d))))
    → now ≡ capped (together (map f (take (i + 1) ids)))
one_item_more f ids i d so_far one now within added is each =
    let x = get_or ids i d in
    let parts = ap (λ xs. together (map f xs)) (take_more ids i d within)
    ∙ ap together (map-append f (take i ids) (x ∷ [])) ∙ together-append (map f (take i ids)) (f x ∷ []) in
    let last = together-cons (f x) [] in
    omega (arith, parts, last, added, is, each)
