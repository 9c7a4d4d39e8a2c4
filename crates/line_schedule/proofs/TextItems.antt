-- An item that a text of at most 1,048,576 bytes reads as can be encoded, and its elements are within the ranges of their kinds.
use Rattle.std.proofs.Common.{◌≡◌, ◌≢◌, ℕ, zero, suc, ◌+◌, ◌*◌, ◌^◌, ◌<◌, ◌≤◌, lit≤, Bool, true, false, cond, ◌⊎◌, inl, inr, List, [], ◌∷◌, ◌++◌, length, Option, Some, None, refl, sym, ap, subst, ◌∙◌, length-append, arith}
use Rattle.std.specs.Prelude.{FitsSigned}
use Rattle.std.specs.Int.{w8, w16, w32, w64}
use Rattle.std.specs.List.{AllByRecursion}
use Rattle.std.specs.Option.{option_or}
use Rattle.std.proofs.lemmas.Bool.{le-ltb}
use Rattle.std.proofs.lemmas.Nat.{mul-le}
use Rattle.secs_items.specs.declared.encode_fault.EncodeFault.{EncodeFault}
use Rattle.secs_items.specs.declared.encode_fault.EncodeFault.TheVariants as fault
use Rattle.secs_items.specs.declared.item.Item.{Item, out-Item}
use Rattle.secs_items.specs.declared.item.Item.TheOpen.{Item-F}
use Rattle.secs_items.specs.declared.item.Item.TheViews.{roll-Item, roll-out-Item}
use Rattle.secs_items.specs.Elements.{IsByte, IsRaw}
use Rattle.secs_items.specs.Encoding.{encode_fault, fault_within, first_of, long_fault}
use Rattle.secs_items.specs.Kinds.{is_list}
use Rattle.secs_items.specs.Layers.{items_of, kind_of, length_of}
use Rattle.secs_items.specs.Ranges.{HasRanges, InRange}
use Rattle.secs_items.specs.Spelling.{shortest_head, shortest_spelling}
use Rattle.secs_items.proofs.RangeLaws.{layer_in_range}
use Rattle.secs_text.specs.Grammar.{AfterBlanks, HasElements, InTurn, IsHexByte, IsHexBytes, IsItemText, IsQuoted, IsShown, IsSigned, IsText, IsUnsigned, Kept, ReadsAs, ReadsWithin}
use Rattle.secs_text.specs.Names.{name_of}
use Rattle.short_text.specs.Shown.{stands_for_itself}
use Rattle.secs_text.proofs.Quotes.{digit_small, shown_some}

-- ---- values one after another

-- each has what its text shows of it
all_fit : {T : Type 0} (Is : T → List ℕ → Type 0) (Fits : T → Type 0) → ((x : T) (text : List ℕ) → Is x text → Fits x) → (xs : List T) (text : List ℕ)
    → InTurn Is xs text → AllByRecursion Fits xs
all_fit Is Fits each [] text t = tt
all_fit Is Fits each (x ∷ xs) text t = (each x t.0 t.3, all_fit Is Fits each xs t.1 t.4)

spaced_fit : {T : Type 0} (Is : T → List ℕ → Type 0) (Fits : T → Type 0) → ((x : T) (text : List ℕ) → Is x text → Fits x)
    → (xs : List T) (text : List ℕ) → InTurn (AfterBlanks Is) xs text → AllByRecursion Fits xs
spaced_fit Is Fits each xs text t = all_fit (AfterBlanks Is) Fits (λ x s a. each x a.1 a.5) xs text t

-- there are no more values than bytes, where none has an empty text
fewer : {T : Type 0} (Is : T → List ℕ → Type 0) → ((x : T) (text : List ℕ) → Is x text → 0 < length text) → (xs : List T) (text : List ℕ)
    → InTurn Is xs text → length xs ≤ length text
fewer Is some [] text t = omega arith
fewer Is some (x ∷ xs) text t = omega (arith, some x t.0 t.3, fewer Is some xs t.1 t.4, ap length t.2, length-append t.0 t.1)

some_bytes : (bytes : List ℕ) → bytes ≢ [] → 0 < length bytes
some_bytes [] h = absurd (h refl)
some_bytes (b ∷ bytes) h = omega arith

after_some : {T : Type 0} (Is : T → List ℕ → Type 0) (x : T) (text : List ℕ) → AfterBlanks Is x text → 0 < length text
after_some Is x text a = omega (arith, some_bytes a.0 a.4, ap length a.2, length-append a.0 a.1)

spaced_fewer : {T : Type 0} (Is : T → List ℕ → Type 0) (xs : List T) (text : List ℕ) → InTurn (AfterBlanks Is) xs text → length xs ≤ length text
spaced_fewer Is xs text t = fewer (AfterBlanks Is) (after_some Is) xs text t

-- ---- elements

hex_fits : (b : ℕ) (text : List ℕ) → IsHexByte b text → IsByte b
hex_fits b [] is = absurd is
hex_fits b (high ∷ []) is = absurd is
hex_fits b (high ∷ low ∷ []) is = omega (arith, digit_small high is.0 is.2, digit_small low is.1 is.3, is.4)
hex_fits b (high ∷ low ∷ c ∷ text) is = absurd is

raw_fits : (size : ℕ) (bytes text : List ℕ) → IsHexBytes size bytes text → IsRaw size bytes
raw_fits size bytes text is = record { whole = is.0; each = all_fit IsHexByte IsByte hex_fits bytes text is.1 }

plain_small : (b : ℕ) → stands_for_itself b ≡ true → IsByte b
plain_small b h = grind (arith, h)

shown_fits : (b : ℕ) (text : List ℕ) → IsShown b text → IsByte b
shown_fits b text (inl is) = plain_small b is.0
shown_fits b text (inr is) = hex_fits b is.1 is.3

quoted_fits : (bytes text : List ℕ) → AfterBlanks IsQuoted bytes text → AllByRecursion IsByte bytes
quoted_fits bytes text a = let q = a.5 in all_fit IsShown IsByte shown_fits bytes q.0 q.2

quoted_fewer : (bytes text : List ℕ) → AfterBlanks IsQuoted bytes text → length bytes ≤ length text
quoted_fewer bytes text a =
    let q = a.5 in
    omega (arith, fewer IsShown shown_some bytes q.0 q.2, ap length a.2, length-append a.0 a.1, ap length q.1, length-append q.0 (34 ∷ []))

-- ---- one item

-- a list, whose items have the text, or an item that holds none
abbrev Holds : (List Item → List ℕ → Type 0) → Item-F Item → List ℕ → Type 0
Holds Items x text = ((is_list (kind_of x) ≡ true) × Items (items_of x) text) ⊎ ((is_list (kind_of x) ≡ false) × (items_of x ≡ []))

-- what the text of its elements shows of an item
record IsLayer (Items : List Item → List ℕ → Type 0) (x : Item-F Item) (text : List ℕ) : Type 0 where
  short : length_of x ≤ 8 * length text
  holds : Holds Items x text
  ranges : InRange (roll-Item x)

leaf : (Items : List Item → List ℕ → Type 0) (x : Item-F Item) (text : List ℕ) → is_list (kind_of x) ≡ false → items_of x ≡ [] → HasRanges x
    → length_of x ≤ 8 * length text → IsLayer Items x text
leaf Items x text simple none ranges short =
    record { short = short; holds = inr (simple, none); ranges = layer_in_range x ranges (subst (AllByRecursion InRange) (sym none) tt) }

layer : (Items : List Item → List ℕ → Type 0) → ((items : List Item) (text : List ℕ) → Items items text → length items ≤ length text)
    → ((items : List Item) (text : List ℕ) → Items items text → AllByRecursion InRange items)
    → (x : Item-F Item) (text : List ℕ) → HasElements Kept Items x text → IsLayer Items x text
layer Items few fit (Item-F.L items) text has =
    record { short = mul-le 1 (length items) 8 (length text) (lit≤ tt) (few items text has); holds = inl (refl, has); ranges = layer_in_range (Item-F.L items) tt (fit items text has) }
layer Items few fit (Item-F.B ys) text has =
    leaf Items (Item-F.B ys) text refl refl (spaced_fit IsHexByte IsByte hex_fits ys text has)
    (mul-le 1 (length ys) 8 (length text) (lit≤ tt) (spaced_fewer IsHexByte ys text has))
layer Items few fit (Item-F.Bool ys) text has =
    leaf Items (Item-F.Bool ys) text refl refl (spaced_fit IsHexByte IsByte hex_fits ys text has)
    (mul-le 1 (length ys) 8 (length text) (lit≤ tt) (spaced_fewer IsHexByte ys text has))
layer Items few fit (Item-F.A ys) text has =
    leaf Items (Item-F.A ys) text refl refl (quoted_fits ys text has) (mul-le 1 (length ys) 8 (length text) (lit≤ tt) (quoted_fewer ys text has))
layer Items few fit (Item-F.J ys) text has =
    leaf Items (Item-F.J ys) text refl refl (spaced_fit IsHexByte IsByte hex_fits ys text has)
    (mul-le 1 (length ys) 8 (length text) (lit≤ tt) (spaced_fewer IsHexByte ys text has))
layer Items few fit (Item-F.I1 ys) text has =
    leaf Items (Item-F.I1 ys) text refl refl (spaced_fit (IsSigned Kept w8) (FitsSigned w8) (λ z s is. is.0) ys text has)
    (mul-le 1 (length ys) 8 (length text) (lit≤ tt) (spaced_fewer _ ys text has))
layer Items few fit (Item-F.I2 ys) text has =
    leaf Items (Item-F.I2 ys) text refl refl (spaced_fit (IsSigned Kept w16) (FitsSigned w16) (λ z s is. is.0) ys text has)
    (mul-le 2 (length ys) 8 (length text) (lit≤ tt) (spaced_fewer _ ys text has))
layer Items few fit (Item-F.I4 ys) text has =
    leaf Items (Item-F.I4 ys) text refl refl (spaced_fit (IsSigned Kept w32) (FitsSigned w32) (λ z s is. is.0) ys text has)
    (mul-le 4 (length ys) 8 (length text) (lit≤ tt) (spaced_fewer _ ys text has))
layer Items few fit (Item-F.I8 ys) text has =
    leaf Items (Item-F.I8 ys) text refl refl (spaced_fit (IsSigned Kept w64) (FitsSigned w64) (λ z s is. is.0) ys text has)
    (mul-le 8 (length ys) 8 (length text) (lit≤ tt) (spaced_fewer _ ys text has))
layer Items few fit (Item-F.U1 ys) text has =
    leaf Items (Item-F.U1 ys) text refl refl (spaced_fit (IsUnsigned Kept (2 ^ 8)) (λ n. n < 2 ^ 8) (λ n s is. is.0) ys text has)
    (mul-le 1 (length ys) 8 (length text) (lit≤ tt) (spaced_fewer _ ys text has))
layer Items few fit (Item-F.U2 ys) text has =
    leaf Items (Item-F.U2 ys) text refl refl (spaced_fit (IsUnsigned Kept (2 ^ 16)) (λ n. n < 2 ^ 16) (λ n s is. is.0) ys text has)
    (mul-le 2 (length ys) 8 (length text) (lit≤ tt) (spaced_fewer _ ys text has))
layer Items few fit (Item-F.U4 ys) text has =
    leaf Items (Item-F.U4 ys) text refl refl (spaced_fit (IsUnsigned Kept (2 ^ 32)) (λ n. n < 2 ^ 32) (λ n s is. is.0) ys text has)
    (mul-le 4 (length ys) 8 (length text) (lit≤ tt) (spaced_fewer _ ys text has))
layer Items few fit (Item-F.U8 ys) text has =
    leaf Items (Item-F.U8 ys) text refl refl (spaced_fit (IsUnsigned Kept (2 ^ 64)) (λ n. n < 2 ^ 64) (λ n s is. is.0) ys text has)
    (mul-le 8 (length ys) 8 (length text) (lit≤ tt) (spaced_fewer _ ys text has))
layer Items few fit (Item-F.F4 ys) text has =
    leaf Items (Item-F.F4 ys) text refl refl (spaced_fit (IsHexBytes 4) (IsRaw 4) (raw_fits 4) ys text has)
    (mul-le 4 (length ys) 8 (length text) (lit≤ tt) (spaced_fewer (IsHexBytes 4) ys text has))
layer Items few fit (Item-F.F8 ys) text has =
    leaf Items (Item-F.F8 ys) text refl refl (spaced_fit (IsHexBytes 8) (IsRaw 8) (raw_fits 8) ys text has)
    (mul-le 8 (length ys) 8 (length text) (lit≤ tt) (spaced_fewer (IsHexBytes 8) ys text has))

-- ---- items in items

-- an item within such a depth has no fault at any place, and is in range
record IsSound (depth : ℕ) (i : Item) (text : List ℕ) : Type 0 where
  encodes : (at : ℕ) → length text ≤ 1048576 → fault_within depth at i ≡ None
  ranges : InRange i

abbrev AreSound : ℕ → Type 0
AreSound depth = (i : Item) (text : List ℕ) → ReadsWithin Kept depth i text → IsSound depth i text

inside : (before inner after text : List ℕ) → text ≡ before ++ (inner ++ after) → length inner ≤ length text
inside before inner after text e = omega (arith, ap length e, length-append before (inner ++ after), length-append inner after)

no_long : (at n : ℕ) (text : List ℕ) → n ≤ 8 * length text → length text ≤ 1048576 → long_fault at n ≡ None
no_long at n text short le = ap (λ (b : Bool). cond b (Some (fault.TooLong at)) None) (le-ltb 16777215 n (omega (arith, short, le)))

no_first : (depth : ℕ) → AreSound depth → (at : ℕ) (items : List Item) (text : List ℕ) → InTurn (AfterBlanks (ReadsWithin Kept depth)) items text
    → length text ≤ 1048576 → first_of (fault_within depth) at items ≡ None
no_first depth each at [] text t le = refl
no_first depth each at (i ∷ items) text t le =
    let a = t.3 in
    let after = at + length (shortest_spelling i) in
    let parts : length text ≡ length a.0 + length a.1 + length t.1 =
    omega (arith, ap length t.2, length-append t.0 t.1, ap length a.2, length-append a.0 a.1) in
    let here : fault_within depth at i ≡ None = (each i a.1 a.5).encodes at (omega (arith, le, parts)) in
    ap (λ (f : Option EncodeFault). option_or f (first_of (fault_within depth) after items)) here ∙ no_first depth each after items t.1 t.4 (omega (arith, le, parts))

no_deep : (at : ℕ) (x : Item-F Item) (text : List ℕ) → Holds (λ _ _. ⊥) x text → long_fault at (length_of x) ≡ None
    → cond (is_list (kind_of x)) (Some (fault.TooDeep at)) (long_fault at (length_of x)) ≡ None
no_deep at x text (inl h) e = absurd h.1
no_deep at x text (inr h) e = ap (λ (b : Bool). cond b (Some (fault.TooDeep at)) (long_fault at (length_of x))) h.0 ∙ e

lowest : (i : Item) (text : List ℕ) → IsText Kept (λ _ _. ⊥) (out-Item i) text → IsSound 0 i text
lowest i text r =
    let x = out-Item i in
    let l = layer (λ _ _. ⊥) (λ items s none. absurd none) (λ items s none. absurd none) x r.elements r.holds in
    let part = inside (60 ∷ name_of (kind_of x)) r.elements (r.blanks ++ 62 ∷ []) text r.placed in
    record { encodes = λ at le. no_deep at x r.elements l.holds (no_long at (length_of x) r.elements l.short (omega (arith, part, le))); ranges = subst InRange (roll-out-Item i) l.ranges }

no_held : (depth place : ℕ) (x : Item-F Item) (text : List ℕ) → AreSound depth → Holds (InTurn (AfterBlanks (ReadsWithin Kept depth))) x text
    → length text ≤ 1048576 → first_of (fault_within depth) place (items_of x) ≡ None
no_held depth place x text each (inl h) le = no_first depth each place (items_of x) text h.1 le
no_held depth place x text each (inr h) le = ap (first_of (fault_within depth) place) h.1

higher : (depth : ℕ) → AreSound depth → (i : Item) (text : List ℕ) → IsText Kept (InTurn (AfterBlanks (ReadsWithin Kept depth))) (out-Item i) text
    → IsSound (suc depth) i text
higher depth each i text r =
    let x = out-Item i in
    let l =
    layer (InTurn (AfterBlanks (ReadsWithin Kept depth))) (spaced_fewer (ReadsWithin Kept depth))
    (spaced_fit (ReadsWithin Kept depth) InRange (λ j s t. (each j s t).ranges)) x r.elements r.holds in
    let part = inside (60 ∷ name_of (kind_of x)) r.elements (r.blanks ++ 62 ∷ []) text r.placed in
    record {
      encodes = λ at le.
          let place = at + length (shortest_head (kind_of x) (length_of x)) in
          let small : length r.elements ≤ 1048576 = omega (arith, part, le) in
          ap (λ (f : Option EncodeFault). option_or f (first_of (fault_within depth) place (items_of x))) (no_long at (length_of x) r.elements l.short small) ∙ no_held depth place x r.elements each l.holds small;
      ranges = subst InRange (roll-out-Item i) l.ranges;
    }

sound : (depth : ℕ) → AreSound depth
sound zero i text r = lowest i text r
sound (suc depth) i text r = higher depth (sound depth) i text r

inner_sound : (i : Item) (inner : List ℕ) → IsItemText i inner → IsSound 64 i inner
unfolding IsItemText
inner_sound i inner r = sound 64 i inner r

pub text_encodes : (text : List ℕ) (item : Item) → ReadsAs text item → length text ≤ 1048576 → encode_fault item ≡ None
unfolding encode_fault
text_encodes text item r le = (inner_sound item r.inner r.reads).encodes 0 (omega (arith, le, inside r.before r.inner r.after text r.placed))

pub text_in_range : (text : List ℕ) (item : Item) → ReadsAs text item → InRange item
text_in_range text item r = (inner_sound item r.inner r.reads).ranges
