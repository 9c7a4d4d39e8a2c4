-- A spelling is no shorter than the shortest, and its item no deeper than lists may nest; what nests too deep is deeper.
use Rattle.std.proofs.Common.{◌≡◌, ℕ, zero, suc, ◌+◌, ◌*◌, ◌/◌, ◌%◌, ◌<◌, ◌≤◌, Bool, true, false, cond, ltb, List, [], ◌∷◌, ◌++◌, map, fold, length, ◌⊎◌, inl, inr, Option, Some, None, refl, sym, ap, subst, ◌∙◌, length-append, arith}
use Rattle.std.specs.Prelude.{⊤, max}
use Rattle.std.specs.Option.{option_or}
use Rattle.std.specs.List.{AllByRecursion, flat_map}
use Rattle.std.proofs.lemmas.Bool.{ltb-false}
use Rattle.secs_items.specs.declared.encode_fault.EncodeFault.{EncodeFault}
use Rattle.secs_items.specs.declared.encode_fault.EncodeFault.TheVariants as fault
use Rattle.secs_items.specs.declared.item.Item.{Item, out-Item}
use Rattle.secs_items.specs.declared.item.Item.TheOpen.{Item-F}
use Rattle.secs_items.specs.declared.item.Item.TheViews.{roll-out-Item}
use Rattle.secs_items.specs.declared.item.Item.TheFolds.{fold-roll-Item, map-Item}
use Rattle.secs_items.specs.declared.kind.Kind.{Kind}
use Rattle.secs_items.specs.Encoding.{encode_fault, fault_within, first_of, long_fault}
use Rattle.secs_items.specs.Kinds.{is_list}
use Rattle.secs_items.specs.Layers.{kind_of, length_of, items_of}
use Rattle.secs_items.specs.Measures.{deepest, depth_of, layer_depth}
use Rattle.secs_items.specs.Spelling.{HasContent, HoldsLength, IsHead, IsSpelled, Spells, SpellsEach, SpellsWithin, shortest_head, shortest_layer, shortest_lengths, shortest_spelling}
use Rattle.secs_items.proofs.Written.{layer_L}

-- ---- the length

lengths_by : (n k : ℕ) (one two : Bool) → ltb n 256 ≡ one → ltb n 65536 ≡ two → 0 < k → (k < 2 → n < 256) → (k < 3 → n < 65536)
    → length (cond one (n ∷ []) (cond two (n / 256 ∷ n % 256 ∷ []) (n / 65536 ∷ n / 256 % 256 ∷ n % 256 ∷ []))) ≤ k
lengths_by n k true two e f some one_byte two_bytes = omega (arith, some)
lengths_by n k false true e f some one_byte two_bytes = by_k k some one_byte (ltb-false n 256 e)
  where
    by_k : (k : ℕ) → 0 < k → (k < 2 → n < 256) → 256 ≤ n → 2 ≤ k
    by_k zero some one_byte large = absurd (omega (arith, some))
    by_k (suc zero) some one_byte large = absurd (omega (arith, one_byte (omega arith), large))
    by_k (suc (suc k)) some one_byte large = omega arith
lengths_by n k false false e f some one_byte two_bytes = by_k k some two_bytes (ltb-false n 65536 f)
  where
    by_k : (k : ℕ) → 0 < k → (k < 3 → n < 65536) → 65536 ≤ n → 3 ≤ k
    by_k zero some two_bytes large = absurd (omega (arith, some))
    by_k (suc zero) some two_bytes large = absurd (omega (arith, two_bytes (omega arith), large))
    by_k (suc (suc zero)) some two_bytes large = absurd (omega (arith, two_bytes (omega arith), large))
    by_k (suc (suc (suc k))) some two_bytes large = omega arith

lengths_least : (n : ℕ) (lengths : List ℕ) → HoldsLength n lengths → length (shortest_lengths n) ≤ length lengths
lengths_least n [] h = absurd h
lengths_least n (a ∷ []) h =
    lengths_by n 1 (ltb n 256) (ltb n 65536) refl refl (omega arith) (λ less. omega (arith, h.0, h.1)) (λ less. omega (arith, h.0, h.1))
lengths_least n (a ∷ b ∷ []) h =
    lengths_by n 2 (ltb n 256) (ltb n 65536) refl refl (omega arith) (λ less. omega (arith, less)) (λ less. omega (arith, h.0, h.1, h.2))
lengths_least n (a ∷ b ∷ c ∷ []) h =
    lengths_by n 3 (ltb n 256) (ltb n 65536) refl refl (omega arith) (λ less. omega (arith, less)) (λ less. omega (arith, less))
lengths_least n (a ∷ b ∷ c ∷ d ∷ lengths) h = absurd h

head_least : (k : Kind) (n : ℕ) (head : List ℕ) → IsHead k n head → length (shortest_head k n) ≤ length head
head_least k n head is = omega (arith, lengths_least n is.lengths is.holds, ap length is.placed)

each_least : (Spelled : Item → List ℕ → Type 0) → ((i : Item) (bytes : List ℕ) → Spelled i bytes → length (shortest_spelling i) ≤ length bytes)
    → (items : List Item) (content : List ℕ) → SpellsEach Spelled items content
    → length (flat_map shortest_spelling items) ≤ length content
each_least Spelled each [] content s = omega (arith, ap length s)
each_least Spelled each (i ∷ items) content s =
    omega (arith, each i s.0 s.3, each_least Spelled each items s.1 s.4, ap length s.2, length-append s.0 s.1, length-append (shortest_spelling i) (flat_map shortest_spelling items))

-- one item, where a list's content is no shorter than its items' shortest spellings
abbrev LeastIn : (List Item → List ℕ → Type 0) → Type 0
LeastIn InTurn = (items : List Item) (content : List ℕ) → InTurn items content → length (flat_map shortest_spelling items) ≤ length content

placed_least : (x : Item-F Item) (head bytes content : List ℕ) → IsHead (kind_of x) (length_of x) head → content ≡ bytes
    → shortest_layer (map-Item Item (List ℕ) shortest_spelling x) ≡ shortest_head (kind_of x) (length_of x) ++ bytes
    → length (shortest_layer (map-Item Item (List ℕ) shortest_spelling x)) ≤ length (head ++ content)
placed_least x head bytes content is placed layer =
    omega (arith, ap length layer, length-append (shortest_head (kind_of x) (length_of x)) bytes, head_least (kind_of x) (length_of x) head is, ap length placed, length-append head content)

layer_least : (InTurn : List Item → List ℕ → Type 0) → LeastIn InTurn → (x : Item-F Item) (head content : List ℕ) → IsHead (kind_of x) (length_of x) head
    → HasContent InTurn x content
    → length (shortest_layer (map-Item Item (List ℕ) shortest_spelling x)) ≤ length (head ++ content)
layer_least InTurn least (Item-F.L items) head content is holds =
    omega (arith, ap length (layer_L items), length-append (shortest_head (kind_of (Item-F.L items)) (1 * length items)) (flat_map shortest_spelling items), head_least (kind_of (Item-F.L items)) (1 * length items) head is, least items content holds, length-append head content)
layer_least InTurn least (Item-F.B xs) head content is holds = placed_least (Item-F.B xs) head xs content is holds.placed refl
layer_least InTurn least (Item-F.Bool xs) head content is holds = placed_least (Item-F.Bool xs) head xs content is holds.placed refl
layer_least InTurn least (Item-F.A xs) head content is holds = placed_least (Item-F.A xs) head xs content is holds.placed refl
layer_least InTurn least (Item-F.J xs) head content is holds = placed_least (Item-F.J xs) head xs content is holds.placed refl
layer_least InTurn least (Item-F.I1 xs) head content is holds = placed_least (Item-F.I1 xs) head _ content is holds.placed refl
layer_least InTurn least (Item-F.I2 xs) head content is holds = placed_least (Item-F.I2 xs) head _ content is holds.placed refl
layer_least InTurn least (Item-F.I4 xs) head content is holds = placed_least (Item-F.I4 xs) head _ content is holds.placed refl
layer_least InTurn least (Item-F.I8 xs) head content is holds = placed_least (Item-F.I8 xs) head _ content is holds.placed refl
layer_least InTurn least (Item-F.U1 xs) head content is holds = placed_least (Item-F.U1 xs) head xs content is holds.placed refl
layer_least InTurn least (Item-F.U2 xs) head content is holds = placed_least (Item-F.U2 xs) head _ content is holds.placed refl
layer_least InTurn least (Item-F.U4 xs) head content is holds = placed_least (Item-F.U4 xs) head _ content is holds.placed refl
layer_least InTurn least (Item-F.U8 xs) head content is holds = placed_least (Item-F.U8 xs) head _ content is holds.placed refl
layer_least InTurn least (Item-F.F4 xs) head content is holds = placed_least (Item-F.F4 xs) head _ content is holds.placed refl
layer_least InTurn least (Item-F.F8 xs) head content is holds = placed_least (Item-F.F8 xs) head _ content is holds.placed refl

item_least : (InTurn : List Item → List ℕ → Type 0) (i : Item) (bytes : List ℕ) → LeastIn InTurn → IsSpelled InTurn (out-Item i) bytes
    → length (shortest_spelling i) ≤ length bytes
item_least InTurn i bytes least s =
    let x = out-Item i in
    let opened : shortest_spelling i ≡ shortest_layer (map-Item Item (List ℕ) shortest_spelling x) =
    ap shortest_spelling (sym (roll-out-Item i)) ∙ fold-roll-Item (List ℕ) shortest_layer x in
    omega (arith, ap length opened, layer_least InTurn least x s.head s.content s.begins s.holds, ap length s.placed)

within_least : (depth : ℕ) (i : Item) (bytes : List ℕ) → SpellsWithin depth i bytes → length (shortest_spelling i) ≤ length bytes
within_least zero i bytes s = item_least (λ _ _. ⊥) i bytes (λ items content none. absurd none) s
within_least (suc depth) i bytes s =
    item_least (SpellsEach (SpellsWithin depth)) i bytes (each_least (SpellsWithin depth) (within_least depth)) s

pub none_shorter : (i : Item) (bytes : List ℕ) → Spells i bytes → length (shortest_spelling i) ≤ length bytes
unfolding Spells
none_shorter i bytes s = within_least 64 i bytes s

-- ---- the depth

deepest_by : (depths : List ℕ) (most depth : ℕ) → most ≤ depth → AllByRecursion (λ d. d ≤ depth) depths → fold max most depths ≤ depth
deepest_by [] most depth le each = le
deepest_by (d ∷ depths) most depth le each = deepest_by depths (max most d) depth (omega (arith, le, each.0)) each.1

each_shallow : (Spelled : Item → List ℕ → Type 0) (depth : ℕ) → ((i : Item) (bytes : List ℕ) → Spelled i bytes → depth_of i ≤ depth)
    → (items : List Item) (content : List ℕ) → SpellsEach Spelled items content → AllByRecursion (λ d. d ≤ depth) (map depth_of items)
each_shallow Spelled depth each [] content s = tt
each_shallow Spelled depth each (i ∷ items) content s = (each i s.0 s.3, each_shallow Spelled depth each items s.1 s.4)

layer_shallow : (InTurn : List Item → List ℕ → Type 0) (depth : ℕ)
    → ((items : List Item) (content : List ℕ) → InTurn items content → deepest (map depth_of items) < depth)
    → (x : Item-F Item) (content : List ℕ) → HasContent InTurn x content → layer_depth (map-Item Item ℕ depth_of x) ≤ depth
layer_shallow InTurn depth each (Item-F.L items) content holds = omega (arith, each items content holds)
layer_shallow InTurn depth each (Item-F.B xs) content holds = omega arith
layer_shallow InTurn depth each (Item-F.Bool xs) content holds = omega arith
layer_shallow InTurn depth each (Item-F.A xs) content holds = omega arith
layer_shallow InTurn depth each (Item-F.J xs) content holds = omega arith
layer_shallow InTurn depth each (Item-F.I1 xs) content holds = omega arith
layer_shallow InTurn depth each (Item-F.I2 xs) content holds = omega arith
layer_shallow InTurn depth each (Item-F.I4 xs) content holds = omega arith
layer_shallow InTurn depth each (Item-F.I8 xs) content holds = omega arith
layer_shallow InTurn depth each (Item-F.U1 xs) content holds = omega arith
layer_shallow InTurn depth each (Item-F.U2 xs) content holds = omega arith
layer_shallow InTurn depth each (Item-F.U4 xs) content holds = omega arith
layer_shallow InTurn depth each (Item-F.U8 xs) content holds = omega arith
layer_shallow InTurn depth each (Item-F.F4 xs) content holds = omega arith
layer_shallow InTurn depth each (Item-F.F8 xs) content holds = omega arith

depth_opened : (i : Item) → depth_of i ≡ layer_depth (map-Item Item ℕ depth_of (out-Item i))
depth_opened i = ap depth_of (sym (roll-out-Item i)) ∙ fold-roll-Item ℕ layer_depth (out-Item i)

within_shallow : (depth : ℕ) (i : Item) (bytes : List ℕ) → SpellsWithin depth i bytes → depth_of i ≤ depth
within_shallow zero i bytes s =
    omega (arith, depth_opened i, layer_shallow (λ _ _. ⊥) 0 (λ items content none. absurd none) (out-Item i) s.content s.holds)
within_shallow (suc depth) i bytes s =
    omega (arith, depth_opened i, layer_shallow (SpellsEach (SpellsWithin depth)) (suc depth) (λ items content each. shallow depth items content each (within_shallow depth)) (out-Item i) s.content s.holds)
  where
    shallow : (depth : ℕ) (items : List Item) (content : List ℕ) → SpellsEach (SpellsWithin depth) items content
        → ((i : Item) (bytes : List ℕ) → SpellsWithin depth i bytes → depth_of i ≤ depth) → deepest (map depth_of items) < suc depth
    shallow depth items content each one =
        omega (arith, deepest_by (map depth_of items) 0 depth (omega arith) (each_shallow (SpellsWithin depth) depth one items content each))

pub none_deeper : (i : Item) (bytes : List ℕ) → Spells i bytes → depth_of i ≤ 64
unfolding Spells
none_deeper i bytes s = within_shallow 64 i bytes s

-- ---- what has no spelling since lists nest too deep in it

fold_over : (depths : List ℕ) (most : ℕ) → most ≤ fold max most depths
fold_over [] most = omega arith
fold_over (d ∷ depths) most = omega (arith, fold_over depths (max most d))

fold_grows : (depths : List ℕ) (less most : ℕ) → less ≤ most → fold max less depths ≤ fold max most depths
fold_grows [] less most le = le
fold_grows (d ∷ depths) less most le = fold_grows depths (max less d) (max most d) (omega (arith, le))

abbrev IsTooDeep : Option EncodeFault → Type 0
IsTooDeep (Some (fault.TooDeep at)) = ⊤
IsTooDeep _ = ⊥

long_not_deep : (at n : ℕ) (b : Bool) → IsTooDeep (cond b (Some (fault.TooLong at)) None) → ⊥
long_not_deep at n true deep = deep
long_not_deep at n false deep = deep

second_deep : (a b : Option EncodeFault) → (IsTooDeep a → ⊥) → IsTooDeep (option_or a b) → IsTooDeep b
second_deep None b not_first deep = deep
second_deep (Some e) b not_first deep = absurd (not_first deep)

either_deep : (a b : Option EncodeFault) → IsTooDeep (option_or a b) → IsTooDeep a ⊎ IsTooDeep b
either_deep None b deep = inr deep
either_deep (Some e) b deep = inl deep

first_deep : (faulty : ℕ → Item → Option EncodeFault) (depth : ℕ) → ((at : ℕ) (i : Item) → IsTooDeep (faulty at i) → depth < depth_of i)
    → (at : ℕ) (items : List Item) → IsTooDeep (first_of faulty at items) → depth < deepest (map depth_of items)
first_deep faulty depth each at [] deep = absurd deep
first_deep faulty depth each at (i ∷ items) deep =
    elim (either_deep (faulty at i) (first_of faulty (at + length (shortest_spelling i)) items) deep) [
      | inl here ↦ omega (arith, each at i here, fold_over (map depth_of items) (max 0 (depth_of i)))
      | inr later ↦ omega (arith, first_deep faulty depth each (at + length (shortest_spelling i)) items later, fold_grows (map depth_of items) 0 (max 0 (depth_of i)) (omega arith))
    ]

list_deep : (x : Item-F Item) (depth at : ℕ) → IsTooDeep (cond (is_list (kind_of x)) (Some (fault.TooDeep at)) (long_fault at (length_of x)))
    → 0 < layer_depth (map-Item Item ℕ depth_of x)
list_deep (Item-F.L items) depth at deep = omega arith
list_deep (Item-F.B xs) depth at deep = absurd (long_not_deep at 0 (ltb 16777215 (1 * length xs)) deep)
list_deep (Item-F.Bool xs) depth at deep = absurd (long_not_deep at 0 (ltb 16777215 (1 * length xs)) deep)
list_deep (Item-F.A xs) depth at deep = absurd (long_not_deep at 0 (ltb 16777215 (1 * length xs)) deep)
list_deep (Item-F.J xs) depth at deep = absurd (long_not_deep at 0 (ltb 16777215 (1 * length xs)) deep)
list_deep (Item-F.I1 xs) depth at deep = absurd (long_not_deep at 0 (ltb 16777215 (1 * length xs)) deep)
list_deep (Item-F.I2 xs) depth at deep = absurd (long_not_deep at 0 (ltb 16777215 (2 * length xs)) deep)
list_deep (Item-F.I4 xs) depth at deep = absurd (long_not_deep at 0 (ltb 16777215 (4 * length xs)) deep)
list_deep (Item-F.I8 xs) depth at deep = absurd (long_not_deep at 0 (ltb 16777215 (8 * length xs)) deep)
list_deep (Item-F.U1 xs) depth at deep = absurd (long_not_deep at 0 (ltb 16777215 (1 * length xs)) deep)
list_deep (Item-F.U2 xs) depth at deep = absurd (long_not_deep at 0 (ltb 16777215 (2 * length xs)) deep)
list_deep (Item-F.U4 xs) depth at deep = absurd (long_not_deep at 0 (ltb 16777215 (4 * length xs)) deep)
list_deep (Item-F.U8 xs) depth at deep = absurd (long_not_deep at 0 (ltb 16777215 (8 * length xs)) deep)
list_deep (Item-F.F4 xs) depth at deep = absurd (long_not_deep at 0 (ltb 16777215 (4 * length xs)) deep)
list_deep (Item-F.F8 xs) depth at deep = absurd (long_not_deep at 0 (ltb 16777215 (8 * length xs)) deep)

items_deep : (x : Item-F Item) (depth : ℕ) → depth < deepest (map depth_of (items_of x)) → suc depth < layer_depth (map-Item Item ℕ depth_of x)
items_deep (Item-F.L items) depth lt = omega (arith, lt)
items_deep (Item-F.B xs) depth lt = absurd (omega (arith, lt))
items_deep (Item-F.Bool xs) depth lt = absurd (omega (arith, lt))
items_deep (Item-F.A xs) depth lt = absurd (omega (arith, lt))
items_deep (Item-F.J xs) depth lt = absurd (omega (arith, lt))
items_deep (Item-F.I1 xs) depth lt = absurd (omega (arith, lt))
items_deep (Item-F.I2 xs) depth lt = absurd (omega (arith, lt))
items_deep (Item-F.I4 xs) depth lt = absurd (omega (arith, lt))
items_deep (Item-F.I8 xs) depth lt = absurd (omega (arith, lt))
items_deep (Item-F.U1 xs) depth lt = absurd (omega (arith, lt))
items_deep (Item-F.U2 xs) depth lt = absurd (omega (arith, lt))
items_deep (Item-F.U4 xs) depth lt = absurd (omega (arith, lt))
items_deep (Item-F.U8 xs) depth lt = absurd (omega (arith, lt))
items_deep (Item-F.F4 xs) depth lt = absurd (omega (arith, lt))
items_deep (Item-F.F8 xs) depth lt = absurd (omega (arith, lt))

within_deep : (depth at : ℕ) (i : Item) → IsTooDeep (fault_within depth at i) → depth < depth_of i
within_deep zero at i deep = omega (arith, depth_opened i, list_deep (out-Item i) 0 at deep)
within_deep (suc depth) at i deep =
    let x = out-Item i in
    let after = at + length (shortest_head (kind_of x) (length_of x)) in
    let later =
    second_deep (long_fault at (length_of x)) (first_of (fault_within depth) after (items_of x)) (long_not_deep at 0 (ltb 16777215 (length_of x))) deep in
    omega (arith, depth_opened i, items_deep x depth (first_deep (fault_within depth) depth (within_deep depth) after (items_of x) later))

pub too_deep : (i : Item) (at : ℕ) → encode_fault i ≡ Some (fault.TooDeep at) → 64 < depth_of i
unfolding encode_fault
too_deep i at e = within_deep 64 0 i (subst IsTooDeep (sym e) tt)
