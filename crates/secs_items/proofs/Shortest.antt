-- The shortest spelling is one.
use Rattle.std.proofs.Common.{◌≡◌, ℕ, zero, suc, ◌+◌, ◌/◌, ◌%◌, ◌≤◌, Bool, true, false, cond, ltb, List, [], ◌∷◌, ◌++◌, length, Option, Some, None, refl, sym, ap, ◌∙◌, arith}
use Rattle.std.specs.Int.{w8, w16, w32, w64, to_be_bytes}
use Rattle.std.specs.List.{flat_map, AllByRecursion}
use Rattle.std.specs.Option.{option_or}
use Rattle.std.proofs.lemmas.Bool.{ltb-true, ltb-false}
use Rattle.secs_items.specs.declared.encode_fault.EncodeFault.{EncodeFault}
use Rattle.secs_items.specs.declared.encode_fault.EncodeFault.TheVariants as fault
use Rattle.secs_items.specs.declared.item.Item.{Item, out-Item}
use Rattle.secs_items.specs.declared.item.Item.TheOpen.{Item-F}
use Rattle.secs_items.specs.declared.item.Item.TheViews.{roll-Item, roll-out-Item}
use Rattle.secs_items.specs.declared.item.Item.TheFolds.{every_here-Item, fold-roll-Item, map-Item}
use Rattle.secs_items.specs.declared.kind.Kind.{Kind}
use Rattle.secs_items.specs.Elements.{signed_bytes}
use Rattle.secs_items.specs.Encoding.{fault_within, first_of, long_fault}
use Rattle.secs_items.specs.Kinds.{is_list}
use Rattle.secs_items.specs.Layers.{kind_of, length_of, items_of}
use Rattle.secs_items.specs.Ranges.{HasRanges, InRange}
use Rattle.secs_items.specs.Spelling.{HasContent, HoldsLength, IsHead, IsSpelled, SpellsEach, SpellsWithin, shortest_head, shortest_layer, shortest_lengths, shortest_spelling}
use Rattle.secs_items.proofs.RangeLaws.{items_in_range}
use Rattle.secs_items.proofs.Written.{layer_L}

holds_by : (n : ℕ) (one two : Bool) → ltb n 256 ≡ one → ltb n 65536 ≡ two → n ≤ 16777215
    → HoldsLength n (cond one (n ∷ []) (cond two (n / 256 ∷ n % 256 ∷ []) (n / 65536 ∷ n / 256 % 256 ∷ n % 256 ∷ [])))
holds_by n true two e f le = (ltb-true n 256 e, refl)
holds_by n false true e f le = let lt = ltb-true n 65536 f in (omega arith, omega arith, omega arith)
holds_by n false false e f le = (omega arith, omega arith, omega arith, omega arith)

holds_length : (n : ℕ) → n ≤ 16777215 → HoldsLength n (shortest_lengths n)
holds_length n le = holds_by n (ltb n 256) (ltb n 65536) refl refl le

head_is : (k : Kind) (n : ℕ) → n ≤ 16777215 → IsHead k n (shortest_head k n)
head_is k n le = record { lengths = shortest_lengths n; holds = holds_length n le; placed = refl }

fits_when : (b : Bool) (n at : ℕ) → ltb 16777215 n ≡ b → cond b (Some (fault.TooLong at)) None ≡ None → n ≤ 16777215
fits_when true n at h e = absurd cc
fits_when false n at h e = ltb-false 16777215 n h

fits_long : (at n : ℕ) → long_fault at n ≡ None → n ≤ 16777215
fits_long at n e = fits_when (ltb 16777215 n) n at refl e

none_left : (a b : Option EncodeFault) → option_or a b ≡ None → a ≡ None
none_left None b e = refl
none_left (Some f) b e = absurd cc

none_right : (a b : Option EncodeFault) → option_or a b ≡ None → b ≡ None
none_right None b e = e
none_right (Some f) b e = absurd cc

-- the content of one item behind its head, where a list's items are spelled in turn
layer_content : (InTurn : List Item → List ℕ → Type 0) (x : Item-F Item) → HasRanges x
    → (is_list (kind_of x) ≡ true → InTurn (items_of x) (flat_map shortest_spelling (items_of x)))
    → (content : List ℕ) × HasContent InTurn x content × (shortest_layer (map-Item Item (List ℕ) shortest_spelling x) ≡ shortest_head (kind_of x) (length_of x) ++ content)
layer_content InTurn (Item-F.L items) ranges turn = (flat_map shortest_spelling items, turn refl, layer_L items)
layer_content InTurn (Item-F.B xs) ranges turn = (xs, record { fit = ranges; placed = refl }, refl)
layer_content InTurn (Item-F.Bool xs) ranges turn = (xs, record { fit = ranges; placed = refl }, refl)
layer_content InTurn (Item-F.A xs) ranges turn = (xs, record { fit = ranges; placed = refl }, refl)
layer_content InTurn (Item-F.J xs) ranges turn = (xs, record { fit = ranges; placed = refl }, refl)
layer_content InTurn (Item-F.I1 xs) ranges turn = (flat_map (signed_bytes w8) xs, record { fit = ranges; placed = refl }, refl)
layer_content InTurn (Item-F.I2 xs) ranges turn = (flat_map (signed_bytes w16) xs, record { fit = ranges; placed = refl }, refl)
layer_content InTurn (Item-F.I4 xs) ranges turn = (flat_map (signed_bytes w32) xs, record { fit = ranges; placed = refl }, refl)
layer_content InTurn (Item-F.I8 xs) ranges turn = (flat_map (signed_bytes w64) xs, record { fit = ranges; placed = refl }, refl)
layer_content InTurn (Item-F.U1 xs) ranges turn = (xs, record { fit = ranges; placed = refl }, refl)
layer_content InTurn (Item-F.U2 xs) ranges turn = (flat_map (to_be_bytes w16) xs, record { fit = ranges; placed = refl }, refl)
layer_content InTurn (Item-F.U4 xs) ranges turn = (flat_map (to_be_bytes w32) xs, record { fit = ranges; placed = refl }, refl)
layer_content InTurn (Item-F.U8 xs) ranges turn = (flat_map (to_be_bytes w64) xs, record { fit = ranges; placed = refl }, refl)
layer_content InTurn (Item-F.F4 xs) ranges turn = (flat_map (λ (bytes : List ℕ). bytes) xs, record { fit = ranges; placed = refl }, refl)
layer_content InTurn (Item-F.F8 xs) ranges turn = (flat_map (λ (bytes : List ℕ). bytes) xs, record { fit = ranges; placed = refl }, refl)

spelled : (InTurn : List Item → List ℕ → Type 0) (x : Item-F Item) (i : Item) → roll-Item x ≡ i → HasRanges x
    → (is_list (kind_of x) ≡ true → InTurn (items_of x) (flat_map shortest_spelling (items_of x)))
    → length_of x ≤ 16777215 → IsSpelled InTurn x (shortest_spelling i)
spelled InTurn x i rolls ranges turn le =
    let c = layer_content InTurn x ranges turn in
    record {
      head = shortest_head (kind_of x) (length_of x);
      content = c.0;
      begins = head_is (kind_of x) (length_of x) le;
      holds = c.1;
      placed = ap shortest_spelling (sym rolls) ∙ fold-roll-Item (List ℕ) shortest_layer x ∙ c.2;
    }

each_spelling : (faulty : ℕ → Item → Option EncodeFault) (Spelled : Item → List ℕ → Type 0)
    → ((at : ℕ) (i : Item) → InRange i → faulty at i ≡ None → Spelled i (shortest_spelling i))
    → (at : ℕ) (items : List Item) → AllByRecursion InRange items → first_of faulty at items ≡ None
    → SpellsEach Spelled items (flat_map shortest_spelling items)
each_spelling faulty Spelled each at [] ranges e = refl
each_spelling faulty Spelled each at (i ∷ items) ranges e =
    let others = first_of faulty (at + length (shortest_spelling i)) items in
    (shortest_spelling i, flat_map shortest_spelling items, refl, each at i ranges.0 (none_left (faulty at i) others e), each_spelling faulty Spelled each (at + length (shortest_spelling i)) items ranges.1 (none_right (faulty at i) others e))

none_true : (b : Bool) → b ≡ false → b ≡ true → ⊥
none_true b e f = cc

none_deep : (at : ℕ) (x : Item-F Item) (i : Item) (b : Bool) → roll-Item x ≡ i → is_list (kind_of x) ≡ b → HasRanges x
    → cond b (Some (fault.TooDeep at)) (long_fault at (length_of x)) ≡ None → IsSpelled (λ _ _. ⊥) x (shortest_spelling i)
none_deep at x i true rolls listed ranges e = absurd cc
none_deep at x i false rolls leaf ranges e = spelled (λ _ _. ⊥) x i rolls ranges (none_true (is_list (kind_of x)) leaf) (fits_long at (length_of x) e)

pub shortest_spells : (depth at : ℕ) (i : Item) → InRange i → fault_within depth at i ≡ None → SpellsWithin depth i (shortest_spelling i)
shortest_spells zero at i ranges e =
    none_deep at (out-Item i) i (is_list (kind_of (out-Item i))) (roll-out-Item i) refl (every_here-Item HasRanges i ranges) e
shortest_spells (suc depth) at i ranges e =
    let x = out-Item i in
    let after = at + length (shortest_head (kind_of x) (length_of x)) in
    let fault = long_fault at (length_of x) in
    let others = first_of (fault_within depth) after (items_of x) in
    spelled (SpellsEach (SpellsWithin depth)) x i (roll-out-Item i) (every_here-Item HasRanges i ranges)
    (λ listed. each_spelling (fault_within depth) (SpellsWithin depth) (shortest_spells depth) after (items_of x) (items_in_range i ranges) (none_right fault others e))
    (fits_long at (length_of x) (none_left fault others e))
