-- Elements and the bytes that they stand in.
use Rattle.std.specs.Prelude.{◌≡◌, ℕ, zero, suc, ◌<◌, ℤ, List, [], ◌∷◌, length, take, drop}
use Rattle.std.specs.Int.{Width, cast_signed, cast_unsigned, from_be_bytes, to_be_bytes}
use Rattle.std.specs.List.{flat_map, AllByRecursion}

abbrev pub IsByte : ℕ → Type 0
IsByte b = b < 256

abbrev pub AllBytes : List ℕ → Type 0
AllBytes = AllByRecursion IsByte

-- the content is these bytes
pub record AreBytes (bytes content : List ℕ) : Type 0 where
  pub fit : AllByRecursion IsByte bytes
  pub placed : content ≡ bytes

-- every element fits its kind, and the content is made of the bytes of the first, then of the second, and so on
pub record AreElements {T : Type 0} (Fits : T → Type 0) (bytes_of : T → List ℕ) (elements : List T) (content : List ℕ) : Type 0 where
  pub fit : AllByRecursion Fits elements
  pub placed : content ≡ flat_map bytes_of elements

-- so many bytes, as they are
pub record IsRaw (size : ℕ) (bytes : List ℕ) : Type 0 where
  pub whole : length bytes ≡ size
  pub each : AllByRecursion IsByte bytes

-- so many elements, each read from unit bytes
abbrev pub elements_at : {T : Type 0} → (List ℕ → T) → ℕ → ℕ → List ℕ → List T
elements_at read unit zero bytes = []
elements_at read unit (suc count) bytes = read (take unit bytes) ∷ elements_at read unit count (drop unit bytes)

-- a signed number as bytes and back, in two's complement
abbrev pub signed_bytes : Width → ℤ → List ℕ
signed_bytes w z = to_be_bytes w (cast_unsigned w z)

abbrev pub signed_at : Width → List ℕ → ℤ
signed_at w bytes = cast_signed w (from_be_bytes w bytes)
