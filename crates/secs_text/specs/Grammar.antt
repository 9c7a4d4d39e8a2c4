-- Which text reads as which item, and which has the form of one (this profile).
use Rattle.std.specs.Prelude.{◌≡◌, ◌≢◌, ℕ, zero, suc, ◌+◌, ◌*◌, ◌<◌, ◌^◌, ◌⊎◌, ℤ, pos, ◌&&◌, nat_le, Bool, true, false, List, [], ◌∷◌, ◌++◌, length, Some, FitsSigned, decimal}
use Rattle.std.specs.Str.{all_ascii_digits}
use Rattle.std.specs.Fmt.{signed_decimal}
use Rattle.std.specs.Int.{Width, w8, w16, w32, w64}
use Rattle.std.specs.List.{AllByRecursion}
use Rattle.hex.specs.Hex.{hex_digit_value}
use Rattle.secs_items.specs.declared.item.Item.{Item, out-Item}
use Rattle.secs_items.specs.declared.item.Item.TheOpen.{Item-F}
use Rattle.secs_items.specs.Kinds.{is_list}
use Rattle.secs_items.specs.Layers.{items_of, kind_of}
use Rattle.secs_items.specs.Limits.{max_depth}
use Rattle.secs_text.specs.Names.{is_blank, name_of}
use Rattle.short_text.specs.Shown.{stands_for_itself}

-- one text after another, of each value
abbrev pub InTurn : {T : Type 0} → (T → List ℕ → Type 0) → List T → List ℕ → Type 0
InTurn Is [] text = text ≡ []
InTurn Is (x ∷ xs) text = (front : List ℕ) × (rest : List ℕ) × (text ≡ front ++ rest) × Is x front × InTurn Is xs rest

-- nothing but spaces, tabs, CR and LF
abbrev pub AreBlanks : List ℕ → Type 0
AreBlanks = AllByRecursion (λ b. is_blank b ≡ true)

-- an element, and some blanks before it
abbrev pub AfterBlanks : {T : Type 0} → (T → List ℕ → Type 0) → T → List ℕ → Type 0
AfterBlanks Is x text =
    (blanks : List ℕ) × (front : List ℕ) × (text ≡ blanks ++ front) × AreBlanks blanks × (blanks ≢ []) × Is x front

-- two hex digits in either case
abbrev pub IsHexByte : ℕ → List ℕ → Type 0
IsHexByte b (high ∷ low ∷ []) =
    (h : ℕ) × (l : ℕ) × (hex_digit_value high ≡ Some h) × (hex_digit_value low ≡ Some l) × (b ≡ 16 * h + l)
IsHexByte b _ = ⊥

-- so many bytes in hex, one after another
abbrev pub IsHexBytes : ℕ → List ℕ → List ℕ → Type 0
IsHexBytes size bytes text = (length bytes ≡ size) × InTurn IsHexByte bytes text

-- a byte between quotes: as it is where it stands for itself, else a backslash, x and two hex digits
abbrev pub IsShown : ℕ → List ℕ → Type 0
IsShown b text =
    ((stands_for_itself b ≡ true) × (text ≡ b ∷ []))
    ⊎ ((stands_for_itself b ≡ false) × (digits : List ℕ) × (text ≡ 92 ∷ 120 ∷ digits) × IsHexByte b digits)

-- a text in quotes
abbrev pub IsQuoted : List ℕ → List ℕ → Type 0
IsQuoted bytes text = (inner : List ℕ) × (text ≡ 34 ∷ inner ++ 34 ∷ []) × InTurn IsShown bytes inner

-- ---- numbers

-- Whether a number must be within its kind. Where it needn't, a text is read for its form: any number may stand, and
-- the item has 0 in its place, which every kind holds; so the text still reads in one way.
pub data Bounds : Type 0 where
  Kept : Bounds
  Free : Bounds

-- a digit from 1 to 9 stands at the front
abbrev pub positive_first : List ℕ → Bool
positive_first [] = false
positive_first (b ∷ rest) = nat_le 49 b && nat_le b 57

-- digits, of which the first isn't 0
abbrev pub ArePositive : List ℕ → Type 0
ArePositive digits = (positive_first digits ≡ true) × (all_ascii_digits digits ≡ true)

-- the digits of a number other than 0, with a minus before them or none
abbrev pub IsNumeral : List ℕ → Type 0
IsNumeral text = ArePositive text ⊎ ((digits : List ℕ) × (text ≡ 45 ∷ digits) × ArePositive digits)

-- any number: 0, or another
abbrev pub IsNumber : List ℕ → Type 0
IsNumber text = (text ≡ 48 ∷ []) ⊎ IsNumeral text

-- a number below the limit, without leading zeros; any number where bounds are free
abbrev pub IsUnsigned : Bounds → ℕ → ℕ → List ℕ → Type 0
IsUnsigned Kept limit n text = (n < limit) × (text ≡ decimal n)
IsUnsigned Free limit n text = (n ≡ 0) × IsNumber text

-- a signed number that so many bits hold, without leading zeros; any number where bounds are free
abbrev pub IsSigned : Bounds → Width → ℤ → List ℕ → Type 0
IsSigned Kept w z text = FitsSigned w z × (text ≡ signed_decimal z)
IsSigned Free w z text = (z ≡ pos 0) × IsNumber text

-- ---- items

-- the elements of one item, where Items says what the items of a list are
abbrev pub HasElements : Bounds → (List Item → List ℕ → Type 0) → Item-F Item → List ℕ → Type 0
HasElements bounds Items (Item-F.L items) = Items items
HasElements bounds Items (Item-F.B bytes) = InTurn (AfterBlanks IsHexByte) bytes
HasElements bounds Items (Item-F.Bool bytes) = InTurn (AfterBlanks IsHexByte) bytes
HasElements bounds Items (Item-F.A bytes) = AfterBlanks IsQuoted bytes
HasElements bounds Items (Item-F.J bytes) = InTurn (AfterBlanks IsHexByte) bytes
HasElements bounds Items (Item-F.I1 numbers) = InTurn (AfterBlanks (IsSigned bounds w8)) numbers
HasElements bounds Items (Item-F.I2 numbers) = InTurn (AfterBlanks (IsSigned bounds w16)) numbers
HasElements bounds Items (Item-F.I4 numbers) = InTurn (AfterBlanks (IsSigned bounds w32)) numbers
HasElements bounds Items (Item-F.I8 numbers) = InTurn (AfterBlanks (IsSigned bounds w64)) numbers
HasElements bounds Items (Item-F.U1 numbers) = InTurn (AfterBlanks (IsUnsigned bounds (2 ^ 8))) numbers
HasElements bounds Items (Item-F.U2 numbers) = InTurn (AfterBlanks (IsUnsigned bounds (2 ^ 16))) numbers
HasElements bounds Items (Item-F.U4 numbers) = InTurn (AfterBlanks (IsUnsigned bounds (2 ^ 32))) numbers
HasElements bounds Items (Item-F.U8 numbers) = InTurn (AfterBlanks (IsUnsigned bounds (2 ^ 64))) numbers
HasElements bounds Items (Item-F.F4 floats) = InTurn (AfterBlanks (IsHexBytes 4)) floats
HasElements bounds Items (Item-F.F8 floats) = InTurn (AfterBlanks (IsHexBytes 8)) floats

-- `<`, the name, the elements, any blanks and `>`
pub record IsText (bounds : Bounds) (Items : List Item → List ℕ → Type 0) (x : Item-F Item) (text : List ℕ) : Type 0 where
  pub elements : List ℕ
  pub blanks : List ℕ
  pub holds : HasElements bounds Items x elements
  pub ends : AreBlanks blanks
  pub placed : text ≡ 60 ∷ name_of (kind_of x) ++ (elements ++ (blanks ++ 62 ∷ []))

-- The text reads as the item, in which lists nest at most so deep; where bounds are free, with 0 for each number.
abbrev pub ReadsWithin : Bounds → ℕ → Item → List ℕ → Type 0
ReadsWithin bounds zero item = IsText bounds (λ _ _. ⊥) (out-Item item)
ReadsWithin bounds (suc depth) item = IsText bounds (InTurn (AfterBlanks (ReadsWithin bounds depth))) (out-Item item)

-- The text of an item, from `<` to `>`. No list stands in more than 63 others.
unfoldable pub IsItemText : Item → List ℕ → Type 0
IsItemText = ReadsWithin Kept max_depth

-- blanks may stand at both ends
pub record InBlanks (Is : Item → List ℕ → Type 0) (text : List ℕ) (item : Item) : Type 0 where
  pub before : List ℕ
  pub inner : List ℕ
  pub after : List ℕ
  pub begins : AreBlanks before
  pub reads : Is item inner
  pub ends : AreBlanks after
  pub placed : text ≡ before ++ (inner ++ after)

-- The text reads as the item.
abbrev pub ReadsAs : List ℕ → Item → Type 0
ReadsAs = InBlanks IsItemText

-- The text has the form of an item's text: its numbers may be outside their kinds, and its lists nest at any depth.
abbrev pub IsFormed : List ℕ → Type 0
IsFormed text = (depth : ℕ) × (item : Item) × InBlanks (ReadsWithin Free depth) text item

-- Lists nest at most so deep in the item.
abbrev pub NestsWithin : ℕ → Item → Type 0
NestsWithin zero item = is_list (kind_of (out-Item item)) ≡ false
NestsWithin (suc depth) item = AllByRecursion (NestsWithin depth) (items_of (out-Item item))

-- no list of the item stands in 64 others
unfoldable pub IsShallow : Item → Type 0
IsShallow = NestsWithin max_depth
