-- What spells an item are bytes.
use Rattle.std.proofs.Common.{ℕ, ℤ, zero, suc, ◌+◌, ◌*◌, ◌/◌, ◌%◌, ◌^◌, ◌<◌, ◌≤◌, List, [], ◌∷◌, ◌++◌, length, sym, subst, arith}
use Rattle.std.specs.Prelude.{FitsSigned}
use Rattle.std.specs.Int.{Width, w8, w16, w32, w64, byte_at, byte_len, bytes_high_first, cast_unsigned, to_be_bytes}
use Rattle.std.specs.List.{flat_map, AllByRecursion}
use Rattle.secs_items.specs.declared.kind.Kind.{Kind}
use Rattle.secs_items.specs.declared.kind.Kind.TheVariants as kind
use Rattle.secs_items.specs.declared.item.Item.{Item, out-Item}
use Rattle.secs_items.specs.declared.item.Item.TheOpen.{Item-F}
use Rattle.secs_items.specs.Elements.{AreBytes, AreElements, IsByte, IsRaw, signed_bytes}
use Rattle.secs_items.specs.Kinds.{code_of}
use Rattle.secs_items.specs.Layers.{kind_of, length_of}
use Rattle.secs_items.specs.Spelling.{HasContent, HoldsLength, IsHead, IsSpelled, Spells, SpellsEach, SpellsWithin}

abbrev Bytes : List ℕ → Type 0
Bytes = AllByRecursion IsByte

both : (front rest : List ℕ) → Bytes front → Bytes rest → Bytes (front ++ rest)
both [] rest f r = r
both (b ∷ front) rest f r = (f.0, both front rest f.1 r)

-- ---- the head

lengths_fit : (n : ℕ) (lengths : List ℕ) → HoldsLength n lengths → Bytes lengths × (length lengths ≤ 3)
lengths_fit n [] h = absurd h
lengths_fit n (a ∷ []) h = ((h.0, tt), omega arith)
lengths_fit n (a ∷ b ∷ []) h = ((h.0, (h.1, tt)), omega arith)
lengths_fit n (a ∷ b ∷ c ∷ []) h = ((h.0, (h.1, (h.2, tt))), omega arith)
lengths_fit n (a ∷ b ∷ c ∷ d ∷ lengths) h = absurd h

low_code : (k : Kind) → code_of k ≤ 44
low_code kind.L = omega arith
low_code kind.B = omega arith
low_code kind.Bool = omega arith
low_code kind.A = omega arith
low_code kind.J = omega arith
low_code kind.I8 = omega arith
low_code kind.I1 = omega arith
low_code kind.I2 = omega arith
low_code kind.I4 = omega arith
low_code kind.F8 = omega arith
low_code kind.F4 = omega arith
low_code kind.U8 = omega arith
low_code kind.U1 = omega arith
low_code kind.U2 = omega arith
low_code kind.U4 = omega arith

head_fits : (k : Kind) (n : ℕ) (head : List ℕ) → IsHead k n head → Bytes head
head_fits k n head h =
    let l = lengths_fit n h.lengths h.holds in
    let first : 4 * code_of k + length h.lengths < 256 = omega (arith, low_code k, l.1) in
    subst Bytes (sym h.placed) (first, l.0)

-- ---- the content

low_byte : (n : ℕ) → n % 256 < 256
low_byte n = omega arith

byte_fits : (i n : ℕ) → byte_at i n < 256
byte_fits zero n = low_byte n
byte_fits (suc i) n = low_byte (n / 256 ^ suc i)

high_first_fit : (k n : ℕ) → Bytes (bytes_high_first k n)
high_first_fit zero n = tt
high_first_fit (suc k) n = (byte_fits k n, high_first_fit k n)

number_fits : (w : Width) (n : ℕ) → Bytes (to_be_bytes w n)
number_fits w n = high_first_fit (byte_len w) n

plain_fit : (bytes content : List ℕ) → AreBytes bytes content → Bytes content
plain_fit bytes content has = subst Bytes (sym has.placed) has.fit

each_fit : {T : Type 0} (Fits : T → Type 0) (put : T → List ℕ) → ((x : T) → Fits x → Bytes (put x)) → (xs : List T)
    → AllByRecursion Fits xs → Bytes (flat_map put xs)
each_fit Fits put one [] fit = tt
each_fit Fits put one (x ∷ xs) fit = both (put x) (flat_map put xs) (one x fit.0) (each_fit Fits put one xs fit.1)

elements_fit : {T : Type 0} (Fits : T → Type 0) (put : T → List ℕ) → ((x : T) → Fits x → Bytes (put x)) → (xs : List T) (content : List ℕ)
    → AreElements Fits put xs content → Bytes content
elements_fit Fits put one xs content has = subst Bytes (sym has.placed) (each_fit Fits put one xs has.fit)

signed_fit : (w : Width) (zs : List ℤ) (content : List ℕ) → AreElements (FitsSigned w) (signed_bytes w) zs content → Bytes content
signed_fit w = elements_fit (FitsSigned w) (signed_bytes w) (λ z fits. number_fits w (cast_unsigned w z))

unsigned_fit : (w : Width) (limit : ℕ) (ns content : List ℕ) → AreElements (λ n. n < limit) (to_be_bytes w) ns content → Bytes content
unsigned_fit w limit = elements_fit (λ n. n < limit) (to_be_bytes w) (λ n fits. number_fits w n)

raw_fit : (size : ℕ) (floats : List (List ℕ)) (content : List ℕ) → AreElements (IsRaw size) (λ bytes. bytes) floats content → Bytes content
raw_fit size = elements_fit (IsRaw size) (λ bytes. bytes) (λ bytes raw. raw.each)

content_fits : (Items : List Item → List ℕ → Type 0) → ((items : List Item) (content : List ℕ) → Items items content → Bytes content)
    → (x : Item-F Item) (content : List ℕ)
    → HasContent Items x content → Bytes content
content_fits Items fit (Item-F.L items) content has = fit items content has
content_fits Items fit (Item-F.B bytes) content has = plain_fit bytes content has
content_fits Items fit (Item-F.Bool bytes) content has = plain_fit bytes content has
content_fits Items fit (Item-F.A bytes) content has = plain_fit bytes content has
content_fits Items fit (Item-F.J bytes) content has = plain_fit bytes content has
content_fits Items fit (Item-F.I1 numbers) content has = signed_fit w8 numbers content has
content_fits Items fit (Item-F.I2 numbers) content has = signed_fit w16 numbers content has
content_fits Items fit (Item-F.I4 numbers) content has = signed_fit w32 numbers content has
content_fits Items fit (Item-F.I8 numbers) content has = signed_fit w64 numbers content has
content_fits Items fit (Item-F.U1 numbers) content has = plain_fit numbers content has
content_fits Items fit (Item-F.U2 numbers) content has = unsigned_fit w16 (2 ^ 16) numbers content has
content_fits Items fit (Item-F.U4 numbers) content has = unsigned_fit w32 (2 ^ 32) numbers content has
content_fits Items fit (Item-F.U8 numbers) content has = unsigned_fit w64 (2 ^ 64) numbers content has
content_fits Items fit (Item-F.F4 floats) content has = raw_fit 4 floats content has
content_fits Items fit (Item-F.F8 floats) content has = raw_fit 8 floats content has

-- ---- items

layer_fits : (Items : List Item → List ℕ → Type 0) → ((items : List Item) (content : List ℕ) → Items items content → Bytes content)
    → (x : Item-F Item) (bytes : List ℕ)
    → IsSpelled Items x bytes → Bytes bytes
layer_fits Items fit x bytes s =
    subst Bytes (sym s.placed) (both s.head s.content (head_fits (kind_of x) (length_of x) s.head s.begins) (content_fits Items fit x s.content s.holds))

items_fit : (Spelled : Item → List ℕ → Type 0) → ((item : Item) (bytes : List ℕ) → Spelled item bytes → Bytes bytes)
    → (items : List Item) (content : List ℕ)
    → SpellsEach Spelled items content → Bytes content
items_fit Spelled fit [] content s = subst Bytes (sym s) tt
items_fit Spelled fit (item ∷ items) content s = subst Bytes (sym s.2) (both s.0 s.1 (fit item s.0 s.3) (items_fit Spelled fit items s.1 s.4))

within_fit : (depth : ℕ) (item : Item) (bytes : List ℕ) → SpellsWithin depth item bytes → Bytes bytes
within_fit zero item bytes s = layer_fits (λ _ _. ⊥) (λ items content none. absurd none) (out-Item item) bytes s
within_fit (suc depth) item bytes s =
    layer_fits (SpellsEach (SpellsWithin depth)) (items_fit (SpellsWithin depth) (within_fit depth)) (out-Item item) bytes s

pub spelled_bytes : (item : Item) (bytes : List ℕ) → Spells item bytes → AllByRecursion IsByte bytes
unfolding Spells
spelled_bytes item bytes s = within_fit 64 item bytes s
