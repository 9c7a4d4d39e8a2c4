-- The hex text of bytes means them.
use Rattle.std.proofs.Common.{ℕ, ◌/◌, ◌%◌, List, [], ◌∷◌, ◌++◌, slice_index, refl, arith}
use Rattle.std.specs.List.{AllByRecursion}
use Rattle.hex.specs.Hex.{encode_upper, encode_with, upper_digits}
use Rattle.hex.proofs.HexLemmas.{IsDigits-upper_digits}
use Rattle.secs_items.specs.Elements.{IsByte}
use Rattle.secs_text.specs.Grammar.{IsHexByte}
use Rattle.gemline_app.specs.HexInput.{HexMeans}

pair_is : (b : ℕ) → IsByte b → IsHexByte b (slice_index upper_digits (b / 16) ∷ slice_index upper_digits (b % 16) ∷ [])
pair_is b small = (
  b / 16,
  b % 16,
  IsDigits-upper_digits (b / 16) (omega arith),
  IsDigits-upper_digits (b % 16) (omega arith),
  omega arith,
)

pub hex_means : (bytes : List ℕ) → AllByRecursion IsByte bytes → HexMeans bytes (encode_upper bytes ++ 10 ∷ [])
unfolding encode_with
hex_means [] fit = (refl, tt)
hex_means (b ∷ bytes) fit =
    let pair = slice_index upper_digits (b / 16) ∷ slice_index upper_digits (b % 16) ∷ [] in
    ([], pair, encode_upper bytes ++ 10 ∷ [], refl, tt, pair_is b fit.0, hex_means bytes fit.1)
