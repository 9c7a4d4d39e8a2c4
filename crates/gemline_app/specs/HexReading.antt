-- Reading hex from left to right: digit by digit, with the first one of a pair kept until the second comes.
use Rattle.std.specs.Prelude.{◌≡◌, ℕ, ◌+◌, ◌*◌, List, [], ◌∷◌, ◌++◌, Option, Some, None, Result, Ok, Err, if◌then◌else◌}
use Rattle.std.specs.Option.{option_map}
use Rattle.hex.specs.Hex.{hex_digit_value}
use Rattle.gemline_app.specs.HexInput.{is_gap}
use Rattle.gemline_app.specs.declared.hex_input.HexFault.{HexFault}
use Rattle.gemline_app.specs.declared.hex_input.HexFault.TheVariants.{Break, NoMemory}

-- What a byte does behind a first digit, or outside of pairs: the first digit then, and the byte that is whole. Nothing
-- where it is no digit and, outside of pairs, no gap either.
abbrev pub after_digit : Option ℕ → ℕ → Option (Option ℕ × List ℕ)
after_digit (Some high) byte = option_map (λ low. (None, (16 * high + low) ∷ [])) (hex_digit_value byte)
after_digit None byte =
    if is_gap byte then Some (None, []) else option_map (λ high. (Some high, [])) (hex_digit_value byte)

-- these bytes in front of what was read
abbrev pub with_front : List ℕ → Result (List ℕ) ℕ → Result (List ℕ) ℕ
with_front bytes (Ok more) = Ok (bytes ++ more)
with_front bytes (Err at) = Err at

abbrev pub reading_behind : ℕ → Option (Option ℕ × List ℕ) → (Option ℕ → Result (List ℕ) ℕ) → Result (List ℕ) ℕ
reading_behind at None next = Err at
reading_behind at (Some (high, put)) next = with_front put (next high)

-- an input ends outside of pairs
abbrev pub reading_at_end : ℕ → Option ℕ → Result (List ℕ) ℕ
reading_at_end at None = Ok []
reading_at_end at (Some high) = Err at

-- the bytes of an input from a place on, or the place where no input can go on
abbrev pub bytes_from : Option ℕ → ℕ → List ℕ → Result (List ℕ) ℕ
bytes_from high at [] = reading_at_end at high
bytes_from high at (byte ∷ rest) = reading_behind at (after_digit high byte) (λ next. bytes_from next (at + 1) rest)

-- what a function returned is what reading gives, unless memory ran out
abbrev pub Gives : Result (List ℕ) HexFault → Result (List ℕ) ℕ → Type 0
Gives (Ok bytes) read = read ≡ Ok bytes
Gives (Err (Break at)) read = read ≡ Err at
Gives (Err NoMemory) read = Unit {0}

-- the same of one byte, which stands at a place
abbrev pub TakesDigit : ℕ → Option (Option ℕ × List ℕ) → List ℕ → List ℕ → Result (Option ℕ) HexFault → Type 0
TakesDigit at next old new (Ok high) = (put : List ℕ) × (next ≡ Some (high, put)) × (new ≡ old ++ put)
TakesDigit at next old new (Err (Break place)) = (next ≡ None) × (place ≡ at)
TakesDigit at next old new (Err NoMemory) = Unit {0}
