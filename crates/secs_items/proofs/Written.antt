-- What writing one item does, from what its parts do.
use Rattle.std.proofs.Common.{◌≡◌, ◌≢◌, ℕ, zero, suc, ◌+◌, ◌-◌, ◌*◌, ◌≤◌, false, List, [], ◌∷◌, ◌++◌, map, length, Option, Some, None, Result, Ok, Err, refl, sym, ap, subst, ◌∙◌, append_assoc, length-append, arith}
use Rattle.std.proofs.lemmas.List.{length-map}
use Rattle.std.specs.Prelude.{OnOk}
use Rattle.std.specs.List.{flat_map}
use Rattle.std.specs.Option.{option_or}
use Rattle.gl_base.specs.Rows.{Grows}
use Rattle.secs_items.specs.declared.encode_fault.EncodeFault.{EncodeFault}
use Rattle.secs_items.specs.declared.encode_fault.EncodeFault.TheVariants as fault
use Rattle.secs_items.specs.declared.item.Item.{Item, out-Item}
use Rattle.secs_items.specs.declared.item.Item.TheOpen.{Item-F}
use Rattle.secs_items.specs.declared.item.Item.TheViews.{roll-Item}
use Rattle.secs_items.specs.declared.item.Item.TheFolds.{fold-roll-Item, map-Item}
use Rattle.secs_items.specs.declared.item.Item.TheVariants as item
use Rattle.secs_items.specs.declared.item.Item.TheVariants.{rolls-L}
use Rattle.secs_items.specs.declared.kind.Kind.TheVariants as kind
use Rattle.secs_items.specs.Encoding.{Encodes, fault_within, first_of, long_fault}
use Rattle.secs_items.specs.Kinds.{is_list}
use Rattle.secs_items.specs.Layers.{kind_of, length_of, items_of}
use Rattle.secs_items.specs.Ranges.{HasRanges, InRange}
use Rattle.secs_items.specs.Spelling.{shortest_head, shortest_layer, shortest_spelling}
use Rattle.secs_items.proofs.Layers.{opened, out_L}
use Rattle.secs_items.proofs.RangeLaws.{leaf_in_range}

option_or_none : (o : Option EncodeFault) → option_or o None ≡ o
option_or_none None = refl
option_or_none (Some e) = refl

-- the first fault of an item that is no list
leaf_fault : (depth at : ℕ) (i : Item) (x : Item-F Item) → out-Item i ≡ x → is_list (kind_of x) ≡ false → items_of x ≡ []
    → fault_within depth at i ≡ long_fault at (length_of x)
leaf_fault zero at i x opens leaf none = rw (opens, leaf) refl
leaf_fault (suc depth) at i x opens leaf none = rw (opens, none) (option_or_none (long_fault at (length_of x)))

-- the first fault of a list that doesn't stand too deep
pub list_fault : (depth at : ℕ) (items : List Item)
    → fault_within (suc depth) at (item.L items) ≡ option_or (long_fault at (1 * length items)) (first_of (fault_within depth) (at + length (shortest_head kind.L (1 * length items))) items)
list_fault depth at items = rw (out_L items) refl

flat_map-map : (items : List Item) → flat_map (λ (s : List ℕ). s) (map shortest_spelling items) ≡ flat_map shortest_spelling items
flat_map-map [] = refl
flat_map-map (i ∷ items) = ap (λ (s : List ℕ). shortest_spelling i ++ s) (flat_map-map items)

pub layer_L : (items : List Item)
    → shortest_layer (Item-F.L (map shortest_spelling items)) ≡ shortest_head kind.L (1 * length items) ++ flat_map shortest_spelling items
layer_L items =
    ap (λ (n : ℕ). shortest_head kind.L (1 * n) ++ flat_map (λ (s : List ℕ). s) (map shortest_spelling items)) (length-map items shortest_spelling)
    ∙ ap (λ (s : List ℕ). shortest_head kind.L (1 * length items) ++ s) (flat_map-map items)

spelling_L : (items : List Item) → shortest_spelling (item.L items) ≡ shortest_head kind.L (1 * length items) ++ flat_map shortest_spelling items
spelling_L items = ap shortest_spelling (sym (rolls-L items)) ∙ fold-roll-Item (List ℕ) shortest_layer (Item-F.L items) ∙ layer_L items

puts_as : (s s' : List ℕ) (f f' : Option EncodeFault) (old new : List ℕ) (r : Result (Unit {0}) EncodeFault) → s' ≡ s → f' ≡ f → Encodes s f old new r
    → Encodes s' f' old new r
puts_as s s' f f' old new r same_s same_f puts = rw (same_s, same_f) puts

-- an item that is no list is written as its head and its content, which fits
pub puts_leaf : (x : Item-F Item) (i : Item) (s : List ℕ) (depth n start : ℕ) (old new : List ℕ) (r : Result (Unit {0}) EncodeFault)
    → roll-Item x ≡ i → is_list (kind_of x) ≡ false → items_of x ≡ [] → shortest_layer (map-Item Item (List ℕ) shortest_spelling x) ≡ s
    → n ≡ length old
    → record { puts : Encodes s (long_fault (n - start) (length_of x)) old new r; ranges : OnOk r (HasRanges x) }
    → record { puts : Encodes (shortest_spelling i) (fault_within depth (length old - start) i) old new r; ranges : OnOk r (InRange i) }
puts_leaf x i s depth n start old new r rolls leaf none spelled len put = record {
  puts =
      puts_as s (shortest_spelling i) (long_fault (n - start) (length_of x)) (fault_within depth (length old - start) i) old new r
      (ap shortest_spelling (sym rolls) ∙ fold-roll-Item (List ℕ) shortest_layer x ∙ spelled)
      (leaf_fault depth (length old - start) i x (opened x i rolls) leaf none ∙ ap (λ (k : ℕ). long_fault (k - start) (length_of x)) (sym len))
      put.puts;
  ranges = leaf_in_range r x i rolls none put.ranges;
}

-- the head of a list was refused
pub puts_no_head : (items : List Item) (depth at : ℕ) (old new : List ℕ) (e : EncodeFault) → (depth ≡ 0 → ⊥)
    → Grows old new × (e ≢ fault.NoMemory → long_fault at (1 * length items) ≡ Some e)
    → Encodes (shortest_spelling (item.L items)) (fault_within depth at (item.L items)) old new (Err e)
puts_no_head items zero at old new e deep refused = absurd (deep refl)
puts_no_head items (suc depth) at old new e deep refused =
    (refused.0, λ named. list_fault depth at items ∙ ap (λ (o : Option EncodeFault). option_or o (first_of (fault_within depth) (at + length (shortest_head kind.L (1 * length items))) items)) (refused.1 named))

grows_on : (old mid new more : List ℕ) → mid ≡ old ++ more → Grows mid new → Grows old new
grows_on old mid new more e g = (more ++ g.0, g.1 ∙ ap (λ (s : List ℕ). s ++ g.0) e ∙ append_assoc old more g.0)

then_items : (items : List Item) (depth at : ℕ) (old mid new : List ℕ) (r : Result (Unit {0}) EncodeFault)
    → mid ≡ old ++ shortest_head kind.L (1 * length items)
    → fault_within (suc depth) at (item.L items) ≡ first_of (fault_within depth) (at + length (shortest_head kind.L (1 * length items))) items
    → Encodes (flat_map shortest_spelling items) (first_of (fault_within depth) (at + length (shortest_head kind.L (1 * length items))) items) mid new r
    → Encodes (shortest_spelling (item.L items)) (fault_within (suc depth) at (item.L items)) old new r
then_items items depth at old mid new (Ok u) e same puts =
    let head = shortest_head kind.L (1 * length items) in
    (puts.0 ∙ ap (λ (s : List ℕ). s ++ flat_map shortest_spelling items) e ∙ append_assoc old head (flat_map shortest_spelling items) ∙ ap (λ (s : List ℕ). old ++ s) (sym (spelling_L items)), same ∙ puts.1)
then_items items depth at old mid new (Err f) e same puts =
    (grows_on old mid new (shortest_head kind.L (1 * length items)) e puts.0, λ named. same ∙ puts.1 named)

-- the head of a list was written, and then its items
pub puts_list : (items : List Item) (depth start n : ℕ) (old mid new : List ℕ) (r : Result (Unit {0}) EncodeFault) → (depth ≡ 0 → ⊥)
    → start ≤ length old → n ≡ length old → mid ≡ old ++ shortest_head kind.L (1 * length items) → long_fault (n - start) (1 * length items) ≡ None
    → Encodes (flat_map shortest_spelling items) (first_of (fault_within (depth - 1)) (length mid - start) items) mid new r
    → Encodes (shortest_spelling (item.L items)) (fault_within depth (length old - start) (item.L items)) old new r
puts_list items zero start n old mid new r deep within len e fits puts = absurd (deep refl)
puts_list items (suc depth) start n old mid new r deep within len e fits puts =
    let head = shortest_head kind.L (1 * length items) in
    let at : length mid - start ≡ (length old - start) + length head = omega (arith, ap length e, length-append old head) in
    let same : fault_within (suc depth) (length old - start) (item.L items) ≡ first_of (fault_within depth) ((length old - start) + length head) items =
    list_fault depth (length old - start) items ∙ ap (λ (o : Option EncodeFault). option_or o (first_of (fault_within depth) ((length old - start) + length head) items)) (ap (λ (k : ℕ). long_fault (k - start) (1 * length items)) (sym len) ∙ fits) in
    let less : suc depth - 1 ≡ depth = omega arith in
    let deep_puts =
    subst (λ (d : ℕ). Encodes (flat_map shortest_spelling items) (first_of (fault_within d) (length mid - start) items) mid new r) less puts in
    then_items items depth (length old - start) old mid new r e same
    (subst (λ (k : ℕ). Encodes (flat_map shortest_spelling items) (first_of (fault_within depth) k items) mid new r) at deep_puts)
