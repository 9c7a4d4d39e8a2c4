-- How a text is shown, byte by byte (this profile).
use Rattle.std.specs.Prelude.{ℕ, ◌/◌, ◌%◌, ◌==◌, ◌&&◌, not, nat_le, Bool, List, [], ◌∷◌, slice_index, if◌then◌else◌}
use Rattle.hex.specs.Hex.{upper_digits}

-- a byte that stands for itself: 20 to 7E, but the quote and the backslash
abbrev pub stands_for_itself : ℕ → Bool
stands_for_itself b = nat_le 32 b && nat_le b 126 && not (b == 34) && not (b == 92)

-- two hex digits in upper case
abbrev pub hex_byte : ℕ → List ℕ
hex_byte b = slice_index upper_digits (b / 16) ∷ slice_index upper_digits (b % 16) ∷ []

-- a byte of a text: as it is, or a backslash, x and two hex digits
abbrev pub shown_text : ℕ → List ℕ
shown_text b = if stands_for_itself b then b ∷ [] else 92 ∷ 120 ∷ hex_byte b
