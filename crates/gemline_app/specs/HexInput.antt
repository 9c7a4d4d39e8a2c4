-- Bytes as pairs of hex digits, with spaces and newlines between pairs (this profile).
use Rattle.std.specs.Prelude.{◌≡◌, ℕ, Bool, true, ◌==◌, ◌||◌, List, [], ◌∷◌, ◌++◌, length}
use Rattle.std.specs.List.{AllByRecursion}
use Rattle.secs_text.specs.Grammar.{IsHexByte}

-- a space or a newline
abbrev pub is_gap : ℕ → Bool
is_gap byte = byte == 32 || byte == 10

abbrev pub AreGaps : List ℕ → Type 0
AreGaps = AllByRecursion (λ byte. is_gap byte ≡ true)

-- the input means the bytes: each is a pair of digits in either case, and gaps may stand anywhere but inside a pair
abbrev pub HexMeans : List ℕ → List ℕ → Type 0
HexMeans [] input = AreGaps input
HexMeans (byte ∷ bytes) input =
    (gaps : List ℕ) × (pair : List ℕ) × (rest : List ℕ) × (input ≡ gaps ++ (pair ++ rest))
    × AreGaps gaps × IsHexByte byte pair × HexMeans bytes rest

-- The input is good up to this place and no further: what stands before it begins an input that means bytes, and no
-- such input goes on with the byte that stands here. Where no byte stands here, the input ends with half a pair.
pub record IsHexBreak (input : List ℕ) (at : ℕ) : Type 0 where
  pub front : List ℕ
  pub rest : List ℕ
  pub split : input ≡ front ++ rest
  pub placed : at ≡ length front
  pub more : List ℕ
  pub bytes : List ℕ
  pub begins : HexMeans bytes (front ++ more)
  pub ends : (next : ℕ) (tail later others : List ℕ) → rest ≡ next ∷ tail → HexMeans others (front ++ next ∷ later) → ⊥
  pub unread : (others : List ℕ) → HexMeans others input → ⊥
