-- The length of the shortest spelling, kind by kind.
use Rattle.std.proofs.Common.{◌≡◌, ℕ, ◌+◌, ◌*◌, List, [], ◌∷◌, ◌++◌, length, sym, ap, ◌∙◌, length-append, arith}
use Rattle.std.specs.List.{flat_map}
use Rattle.secs_items.specs.declared.item.Item.{Item}
use Rattle.secs_items.specs.declared.item.Item.TheOpen.{Item-F}
use Rattle.secs_items.specs.declared.item.Item.TheViews.{roll-Item}
use Rattle.secs_items.specs.declared.item.Item.TheFolds.{fold-roll-Item, map-Item}
use Rattle.secs_items.specs.Kinds.{unit_of}
use Rattle.secs_items.specs.Layers.{count_of, kind_of, length_of}
use Rattle.secs_items.specs.Measures.{capped, leaf_length}
use Rattle.secs_items.specs.Spelling.{shortest_head, shortest_layer, shortest_spelling}

-- elements of one size
pub elements_long : {T : Type 0} (put : T → List ℕ) (size : ℕ) → ((x : T) → length (put x) ≡ size) → (xs : List T)
    → length (flat_map put xs) ≡ size * length xs
elements_long put size each [] = omega arith
elements_long put size each (x ∷ xs) = omega (arith, length-append (put x) (flat_map put xs), each x, elements_long put size each xs)

-- an item of which the head and the content are known
pub item_long : (x : Item-F Item) (i : Item) (head content : List ℕ) (n : ℕ) → roll-Item x ≡ i
    → shortest_layer (map-Item Item (List ℕ) shortest_spelling x) ≡ head ++ content → length content ≡ n
    → capped (length head + n) ≡ capped (length (shortest_spelling i))
item_long x i head content n rolls layer long =
    let whole : shortest_spelling i ≡ head ++ content = ap shortest_spelling (sym rolls) ∙ fold-roll-Item (List ℕ) shortest_layer x ∙ layer in
    let sum : length head + n ≡ length (shortest_spelling i) = omega (arith, ap length whole, length-append head content, long) in
    ap capped sum

-- what is measured of an item that is no list
pub leaf_measured : (x : Item-F Item) (i : Item) (content : List ℕ) (count result : ℕ) → roll-Item x ≡ i
    → shortest_layer (map-Item Item (List ℕ) shortest_spelling x) ≡ shortest_head (kind_of x) (length_of x) ++ content
    → length content ≡ length_of x → count ≡ count_of x → result ≡ capped (leaf_length (kind_of x) count (unit_of (kind_of x) * count))
    → result ≡ capped (length (shortest_spelling i))
leaf_measured x i content count result rolls layer long counted measured =
    measured ∙ ap (λ (n : ℕ). capped (leaf_length (kind_of x) n (unit_of (kind_of x) * n))) counted
    ∙ item_long x i (shortest_head (kind_of x) (length_of x)) content (length_of x) rolls layer long
