-- What an item's bytes are (SEMI E5): a format byte, 1 to 3 length bytes and the content.
use Rattle.std.specs.Prelude.{◌≡◌, ℕ, zero, suc, ◌+◌, ◌*◌, ◌/◌, ◌%◌, ◌<◌, ◌^◌, List, [], ◌∷◌, ◌++◌, length, nat_lt, if◌then◌else◌, FitsSigned}
use Rattle.std.specs.Int.{w8, w16, w32, w64, to_be_bytes}
use Rattle.secs_items.specs.declared.kind.Kind.{Kind}
use Rattle.secs_items.specs.declared.item.Item.{Item, out-Item}
use Rattle.secs_items.specs.declared.item.Item.TheOpen.{Item-F}
use Rattle.secs_items.specs.declared.item.Item.TheFolds.{fold-Item}
use Rattle.secs_items.specs.Kinds.{code_of}
use Rattle.secs_items.specs.Elements.{IsByte, AreBytes, IsRaw, AreElements, signed_bytes}
use Rattle.secs_items.specs.Layers.{kind_of, length_of, content_of}
use Rattle.secs_items.specs.Limits.{max_depth}

-- 1 to 3 bytes that hold the length, high byte first
abbrev pub HoldsLength : ℕ → List ℕ → Type 0
HoldsLength n (a ∷ []) = IsByte a × (n ≡ a)
HoldsLength n (a ∷ b ∷ []) = IsByte a × IsByte b × (n ≡ 256 * a + b)
HoldsLength n (a ∷ b ∷ c ∷ []) = IsByte a × IsByte b × IsByte c × (n ≡ 65536 * a + 256 * b + c)
HoldsLength n _ = ⊥

-- the format byte, which has the kind's code and the number of length bytes, and these
pub record IsHead (kind : Kind) (n : ℕ) (head : List ℕ) : Type 0 where
  pub lengths : List ℕ
  pub holds : HoldsLength n lengths
  pub placed : head ≡ (4 * code_of kind + length lengths) ∷ lengths

-- one spelling after another, of each item
abbrev pub SpellsEach : (Item → List ℕ → Type 0) → List Item → List ℕ → Type 0
SpellsEach Spelled [] content = content ≡ []
SpellsEach Spelled (item ∷ items) content =
    (front : List ℕ) × (rest : List ℕ) × (content ≡ front ++ rest) × Spelled item front × SpellsEach Spelled items rest

-- The content of one item: a list has its items as InTurn says, another kind its elements, high byte first.
abbrev pub HasContent : (List Item → List ℕ → Type 0) → Item-F Item → List ℕ → Type 0
HasContent InTurn (Item-F.L items) = InTurn items
HasContent InTurn (Item-F.B bytes) = AreBytes bytes
HasContent InTurn (Item-F.Bool bytes) = AreBytes bytes
HasContent InTurn (Item-F.A bytes) = AreBytes bytes
HasContent InTurn (Item-F.J bytes) = AreBytes bytes
HasContent InTurn (Item-F.I1 numbers) = AreElements (FitsSigned w8) (signed_bytes w8) numbers
HasContent InTurn (Item-F.I2 numbers) = AreElements (FitsSigned w16) (signed_bytes w16) numbers
HasContent InTurn (Item-F.I4 numbers) = AreElements (FitsSigned w32) (signed_bytes w32) numbers
HasContent InTurn (Item-F.I8 numbers) = AreElements (FitsSigned w64) (signed_bytes w64) numbers
HasContent InTurn (Item-F.U1 numbers) = AreBytes numbers
HasContent InTurn (Item-F.U2 numbers) = AreElements (λ n. n < 2 ^ 16) (to_be_bytes w16) numbers
HasContent InTurn (Item-F.U4 numbers) = AreElements (λ n. n < 2 ^ 32) (to_be_bytes w32) numbers
HasContent InTurn (Item-F.U8 numbers) = AreElements (λ n. n < 2 ^ 64) (to_be_bytes w64) numbers
HasContent InTurn (Item-F.F4 floats) = AreElements (IsRaw 4) (λ bytes. bytes) floats
HasContent InTurn (Item-F.F8 floats) = AreElements (IsRaw 8) (λ bytes. bytes) floats

-- a head and the content after it
pub record IsSpelled (InTurn : List Item → List ℕ → Type 0) (x : Item-F Item) (bytes : List ℕ) : Type 0 where
  pub head : List ℕ
  pub content : List ℕ
  pub begins : IsHead (kind_of x) (length_of x) head
  pub holds : HasContent InTurn x content
  pub placed : bytes ≡ head ++ content

-- The bytes spell the item, in which lists nest at most so deep.
abbrev pub SpellsWithin : ℕ → Item → List ℕ → Type 0
SpellsWithin zero item = IsSpelled (λ _ _. ⊥) (out-Item item)
SpellsWithin (suc depth) item = IsSpelled (SpellsEach (SpellsWithin depth)) (out-Item item)

-- The bytes spell the item, in which no list stands in more than 63 others (this profile).
unfoldable pub Spells : Item → List ℕ → Type 0
Spells = SpellsWithin max_depth

-- the bytes begin with a spelling of the item, and these follow it
pub record SpellsFront (item : Item) (bytes rest : List ℕ) : Type 0 where
  pub front : List ℕ
  pub spelled : Spells item front
  pub parts : bytes ≡ front ++ rest

-- the fewest bytes that hold a length, for lengths that 3 bytes hold
abbrev pub shortest_lengths : ℕ → List ℕ
shortest_lengths n =
    if nat_lt n 256 then n ∷ []
    else if nat_lt n 65536 then n / 256 ∷ n % 256 ∷ []
    else n / 65536 ∷ n / 256 % 256 ∷ n % 256 ∷ []

abbrev pub shortest_head : Kind → ℕ → List ℕ
shortest_head kind n = (4 * code_of kind + length (shortest_lengths n)) ∷ shortest_lengths n

-- one item, whose items are spelled already
abbrev pub shortest_layer : Item-F (List ℕ) → List ℕ
shortest_layer x = shortest_head (kind_of x) (length_of x) ++ content_of x

-- the spelling in which every length has the fewest bytes
abbrev pub shortest_spelling : Item → List ℕ
shortest_spelling = fold-Item (List ℕ) shortest_layer
