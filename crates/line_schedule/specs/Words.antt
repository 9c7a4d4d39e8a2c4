-- The words of a line, found by functions that compute (this profile).
use Rattle.std.specs.Prelude.{ℕ, ◌+◌, ◌*◌, ◌-◌, ◌^◌, ◌==◌, ◌&&◌, nat_le, Bool, List, take, drop, fold, length, slice_index, bytes_eq, codes, Option, Some, None, if◌then◌else◌}
use Rattle.std.specs.Char.{is_ascii_digit}
use Rattle.std.specs.List.{list_all, position}
use Rattle.std.specs.Option.{option_and_then, option_map, option_or, option_zip}
use Rattle.gl_base.specs.declared.side.Side.{Side}
use Rattle.gl_base.specs.declared.side.Side.TheVariants.{Equipment, Host}
use Rattle.hex.specs.Hex.{hex_digit_value}

-- ---- parts of a text

-- what stands behind these bytes at the front
abbrev pub after : List ℕ → List ℕ → Option (List ℕ)
after front text = if bytes_eq (take (length front) text) front then Some (drop (length front) text) else None

-- what is read behind these bytes at the front
abbrev pub read_after : {V : Type 0} → List ℕ → (List ℕ → Option V) → List ℕ → Option V
read_after front read text = option_and_then read (after front text)

-- what stands before the first such byte and what behind it
abbrev pub split_at : ℕ → List ℕ → Option (List ℕ × List ℕ)
split_at wanted text = option_map (λ at. (take at text, drop (at + 1) text)) (position (λ b. b == wanted) text)

-- what is read before the first such byte and what behind it
abbrev pub read_split :
    {V W : Type 0} → ℕ → (List ℕ → Option V) → (List ℕ → Option W) → List ℕ → Option (V × W)
read_split wanted first second text =
    option_and_then (λ parts. option_zip (first parts.0) (second parts.1)) (split_at wanted text)

-- the value that stands for a word, where the text is that word
abbrev pub word_in : {V : Type 0} → List ℕ → V → List ℕ → Option V
word_in word value text = if bytes_eq text word then Some value else None

-- ---- numbers

-- the value of decimal digits behind a number
abbrev pub value_from : ℕ → List ℕ → ℕ
value_from = fold (λ n digit. 10 * n + (digit - 48))

abbrev pub value_of : List ℕ → ℕ
value_of = value_from 0

-- a number that 32 bits hold
abbrev pub as_u32 : ℕ → Option ℕ
as_u32 n = if nat_le n (2 ^ 32 - 1) then Some n else None

-- one to ten decimal digits
abbrev pub is_numeral : List ℕ → Bool
is_numeral text = nat_le 1 (length text) && nat_le (length text) 10 && list_all is_ascii_digit text

abbrev pub is_within : ℕ → ℕ → ℕ → Bool
is_within least most n = nat_le least n && nat_le n most

-- a number from a least to a greatest
abbrev pub number_in : ℕ → ℕ → List ℕ → Option ℕ
number_in least most text =
    if is_numeral text && is_within least most (value_of text) then Some (value_of text) else None

-- a number of 32 bits
abbrev pub any_number_in : List ℕ → Option ℕ
any_number_in = number_in 0 (2 ^ 32 - 1)

-- the byte of two digits
abbrev pub byte_of : Option ℕ → Option ℕ → Option ℕ
byte_of high low = option_map (λ digits. 16 * digits.0 + digits.1) (option_zip high low)

-- the byte that two hex digits mean, in either case
abbrev pub byte_in : List ℕ → Option ℕ
byte_in text =
    if length text == 2 then byte_of (hex_digit_value (slice_index text 0)) (hex_digit_value (slice_index text 1))
    else None

-- ---- ends

-- the end that a letter names, and what stands behind the letter and a space
abbrev pub after_side : List ℕ → Option (Side × List ℕ)
after_side text =
    option_or (option_map (λ rest. (Equipment, rest)) (after (codes "E ") text))
    (option_map (λ rest. (Host, rest)) (after (codes "H ") text))

-- the end that a letter names, and what is read behind the letter and a space
abbrev pub read_side : {V : Type 0} → (List ℕ → Option V) → List ℕ → Option (Side × V)
read_side read text = option_and_then (λ x. option_map (λ value. (x.0, value)) (read x.1)) (after_side text)
