-- What is printed reads as the item.
use Rattle.std.proofs.Common.{◌≡◌, ℕ, zero, suc, ◌/◌, ◌%◌, ◌^◌, ◌<◌, Bool, true, false, cond, List, [], ◌∷◌, ◌++◌, refl, sym, ap, ◌∙◌, append_assoc, arith, inl, inr}
use Rattle.std.specs.Prelude.{decimal, FitsSigned}
use Rattle.std.specs.Fmt.{signed_decimal}
use Rattle.std.specs.Int.{w8, w16, w32, w64}
use Rattle.std.specs.List.{flat_map, AllByRecursion}
use Rattle.std.proofs.lemmas.List.{append-nil}
use Rattle.hex.proofs.HexLemmas.{IsDigits-upper_digits}
use Rattle.secs_items.specs.declared.item.Item.{Item, out-Item}
use Rattle.secs_items.specs.declared.item.Item.TheOpen.{Item-F}
use Rattle.secs_items.specs.declared.item.Item.TheViews.{roll-Item, roll-out-Item}
use Rattle.secs_items.specs.declared.item.Item.TheFolds.{every_here-Item, fold-roll-Item, map-Item}
use Rattle.secs_items.specs.Kinds.{is_list}
use Rattle.secs_items.specs.Layers.{kind_of, items_of}
use Rattle.secs_items.specs.Elements.{IsByte, IsRaw}
use Rattle.secs_items.specs.Ranges.{HasRanges, InRange}
use Rattle.secs_items.proofs.RangeLaws.{items_in_range}
use Rattle.secs_text.specs.Grammar.{AfterBlanks, HasElements, InTurn, IsHexByte, IsHexBytes, IsItemText, IsQuoted, IsShallow, IsShown, IsSigned, IsText, IsUnsigned, Kept, NestsWithin, ReadsAs, ReadsWithin}
use Rattle.secs_text.specs.Names.{name_of}
use Rattle.short_text.specs.Shown.{hex_byte, shown_text, stands_for_itself}
use Rattle.secs_text.specs.Text.{hex_bytes, quoted_text, spaced_texts, text_layer, text_of}
use Rattle.secs_text.proofs.Printed.{spaced_texts-map}

-- ---- elements

hex_is : (b : ℕ) → IsByte b → IsHexByte b (hex_byte b)
hex_is b small = (b / 16, b % 16, IsDigits-upper_digits (b / 16) (omega arith), IsDigits-upper_digits (b % 16) (omega arith), omega arith)

turn_is : {T : Type 0} (Is : T → List ℕ → Type 0) (text : T → List ℕ) (Fits : T → Type 0) → ((x : T) → Fits x → Is x (text x)) → (xs : List T)
    → AllByRecursion Fits xs → InTurn Is xs (flat_map text xs)
turn_is Is text Fits each [] fits = refl
turn_is Is text Fits each (x ∷ xs) fits = (text x, flat_map text xs, refl, each x fits.0, turn_is Is text Fits each xs fits.1)

some_blank : ◌≡◌ {A = List ℕ} (32 ∷ []) [] → ⊥
some_blank e = cc

after_is : {T : Type 0} (Is : T → List ℕ → Type 0) (x : T) (text : List ℕ) → Is x text → AfterBlanks Is x (32 ∷ text)
after_is Is x text is = (32 ∷ [], text, refl, (refl, tt), some_blank, is)

spaced_is : {T : Type 0} (Is : T → List ℕ → Type 0) (text : T → List ℕ) (Fits : T → Type 0) → ((x : T) → Fits x → Is x (text x)) → (xs : List T)
    → AllByRecursion Fits xs → InTurn (AfterBlanks Is) xs (spaced_texts text xs)
spaced_is Is text Fits each xs fits = turn_is (AfterBlanks Is) (λ x. 32 ∷ text x) Fits (λ x fit. after_is Is x (text x) (each x fit)) xs fits

shown_by : (b : ℕ) (t : Bool) → stands_for_itself b ≡ t → IsByte b → IsShown b (cond t (b ∷ []) (92 ∷ 120 ∷ hex_byte b))
shown_by b true e small = inl (e, refl)
shown_by b false e small = inr (e, hex_byte b, refl, hex_is b small)

shown_is : (b : ℕ) → IsByte b → IsShown b (shown_text b)
shown_is b small = shown_by b (stands_for_itself b) refl small

quoted_is : (bytes : List ℕ) → AllByRecursion IsByte bytes → IsQuoted bytes (quoted_text bytes)
quoted_is bytes fits = (flat_map shown_text bytes, refl, turn_is IsShown shown_text IsByte shown_is bytes fits)

raw_is : (size : ℕ) (bytes : List ℕ) → IsRaw size bytes → IsHexBytes size bytes (hex_bytes bytes)
raw_is size bytes raw = (raw.whole, turn_is IsHexByte hex_byte IsByte hex_is bytes raw.each)

-- ---- items

one_text : (bytes : List ℕ) → 60 ∷ 65 ∷ [] ++ spaced_texts quoted_text (bytes ∷ []) ++ 62 ∷ [] ≡ 60 ∷ 65 ∷ [] ++ 32 ∷ quoted_text bytes ++ 62 ∷ []
one_text bytes = ap (λ (s : List ℕ). 60 ∷ 65 ∷ [] ++ s ++ 62 ∷ []) (append-nil (32 ∷ quoted_text bytes))

-- the elements of one item between its name and its end, where those of a list are printed in turn
layer_text : (Items : List Item → List ℕ → Type 0) (x : Item-F Item) → HasRanges x
    → (is_list (kind_of x) ≡ true → Items (items_of x) (spaced_texts text_of (items_of x)))
    → (elements : List ℕ) × HasElements Kept Items x elements × (text_layer (map-Item Item (List ℕ) text_of x) ≡ 60 ∷ name_of (kind_of x) ++ elements ++ 62 ∷ [])
layer_text Items (Item-F.L items) ranges turn =
    (spaced_texts text_of items, turn refl, ap (λ (s : List ℕ). 60 ∷ 76 ∷ [] ++ s ++ 62 ∷ []) (spaced_texts-map items))
layer_text Items (Item-F.B ys) ranges turn = (spaced_texts hex_byte ys, spaced_is IsHexByte hex_byte IsByte hex_is ys ranges, refl)
layer_text Items (Item-F.Bool ys) ranges turn = (spaced_texts hex_byte ys, spaced_is IsHexByte hex_byte IsByte hex_is ys ranges, refl)
layer_text Items (Item-F.A ys) ranges turn = (32 ∷ quoted_text ys, after_is IsQuoted ys (quoted_text ys) (quoted_is ys ranges), one_text ys)
layer_text Items (Item-F.J ys) ranges turn = (spaced_texts hex_byte ys, spaced_is IsHexByte hex_byte IsByte hex_is ys ranges, refl)
layer_text Items (Item-F.I1 ys) ranges turn =
    (spaced_texts signed_decimal ys, spaced_is (IsSigned Kept w8) signed_decimal (FitsSigned w8) (λ z fits. (fits, refl)) ys ranges, refl)
layer_text Items (Item-F.I2 ys) ranges turn =
    (spaced_texts signed_decimal ys, spaced_is (IsSigned Kept w16) signed_decimal (FitsSigned w16) (λ z fits. (fits, refl)) ys ranges, refl)
layer_text Items (Item-F.I4 ys) ranges turn =
    (spaced_texts signed_decimal ys, spaced_is (IsSigned Kept w32) signed_decimal (FitsSigned w32) (λ z fits. (fits, refl)) ys ranges, refl)
layer_text Items (Item-F.I8 ys) ranges turn =
    (spaced_texts signed_decimal ys, spaced_is (IsSigned Kept w64) signed_decimal (FitsSigned w64) (λ z fits. (fits, refl)) ys ranges, refl)
layer_text Items (Item-F.U1 ys) ranges turn =
    (spaced_texts decimal ys, spaced_is (IsUnsigned Kept (2 ^ 8)) decimal (λ n. n < 2 ^ 8) (λ n fits. (fits, refl)) ys ranges, refl)
layer_text Items (Item-F.U2 ys) ranges turn =
    (spaced_texts decimal ys, spaced_is (IsUnsigned Kept (2 ^ 16)) decimal (λ n. n < 2 ^ 16) (λ n fits. (fits, refl)) ys ranges, refl)
layer_text Items (Item-F.U4 ys) ranges turn =
    (spaced_texts decimal ys, spaced_is (IsUnsigned Kept (2 ^ 32)) decimal (λ n. n < 2 ^ 32) (λ n fits. (fits, refl)) ys ranges, refl)
layer_text Items (Item-F.U8 ys) ranges turn =
    (spaced_texts decimal ys, spaced_is (IsUnsigned Kept (2 ^ 64)) decimal (λ n. n < 2 ^ 64) (λ n fits. (fits, refl)) ys ranges, refl)
layer_text Items (Item-F.F4 ys) ranges turn = (spaced_texts hex_bytes ys, spaced_is (IsHexBytes 4) hex_bytes (IsRaw 4) (raw_is 4) ys ranges, refl)
layer_text Items (Item-F.F8 ys) ranges turn = (spaced_texts hex_bytes ys, spaced_is (IsHexBytes 8) hex_bytes (IsRaw 8) (raw_is 8) ys ranges, refl)

printed : (Items : List Item → List ℕ → Type 0) (x : Item-F Item) (i : Item) → roll-Item x ≡ i → HasRanges x
    → (is_list (kind_of x) ≡ true → Items (items_of x) (spaced_texts text_of (items_of x))) → IsText Kept Items x (text_of i)
printed Items x i rolls ranges turn =
    let c = layer_text Items x ranges turn in
    record {
      elements = c.0;
      blanks = [];
      holds = c.1;
      ends = tt;
      placed = ap text_of (sym rolls) ∙ fold-roll-Item (List ℕ) text_layer x ∙ c.2 ∙ append_assoc (60 ∷ name_of (kind_of x)) c.0 (62 ∷ []);
    }

each_text : (Is : Item → List ℕ → Type 0) (Nests : Item → Type 0) → ((i : Item) → InRange i → Nests i → Is i (text_of i)) → (items : List Item)
    → AllByRecursion InRange items → AllByRecursion Nests items → InTurn (AfterBlanks Is) items (spaced_texts text_of items)
each_text Is Nests each [] ranges nests = refl
each_text Is Nests each (i ∷ items) ranges nests =
    (32 ∷ text_of i, spaced_texts text_of items, refl, after_is Is i (text_of i) (each i ranges.0 nests.0), each_text Is Nests each items ranges.1 nests.1)

text_reads : (depth : ℕ) (i : Item) → InRange i → NestsWithin depth i → ReadsWithin Kept depth i (text_of i)
text_reads zero i ranges leaf =
    printed (λ _ _. ⊥) (out-Item i) i (roll-out-Item i) (every_here-Item HasRanges i ranges) (λ listed. absurd (cc (listed, leaf)))
text_reads (suc depth) i ranges nests =
    let x = out-Item i in
    printed (InTurn (AfterBlanks (ReadsWithin Kept depth))) x i (roll-out-Item i) (every_here-Item HasRanges i ranges)
    (λ _. each_text (ReadsWithin Kept depth) (NestsWithin depth) (text_reads depth) (items_of x) (items_in_range i ranges) nests)

inner_text : (i : Item) → InRange i → IsShallow i → IsItemText i (text_of i)
unfolding IsShallow IsItemText
inner_text i ranges nests = text_reads 64 i ranges nests

pub printed_reads : (i : Item) → InRange i → IsShallow i → ReadsAs (text_of i) i
printed_reads i ranges shallow =
    record { before = []; inner = text_of i; after = []; begins = tt; reads = inner_text i ranges shallow; ends = tt; placed = sym (append-nil (text_of i)) }
