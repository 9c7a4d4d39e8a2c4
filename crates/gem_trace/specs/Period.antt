-- The period of a trace as S2F23 writes it, in milliseconds (SEMI E5, DSPER).
use Rattle.std.specs.Prelude.{ℕ, ◌+◌, ◌*◌, ◌-◌, ◌==◌, ◌&&◌, ◌||◌, Bool, List, length, get_or, nat_le, Option, Some, None, if◌then◌else◌}
use Rattle.std.specs.List.{list_all}

-- a decimal digit in ASCII
abbrev pub is_digit : ℕ → Bool
is_digit code = nat_le 48 code && nat_le code 57

-- the digit at a place, and 0 where the text has ended
abbrev pub digit_at : List ℕ → ℕ → ℕ
digit_at text place = get_or text place 48 - 48

-- the number of the two digits from a place on
abbrev pub pair_at : List ℕ → ℕ → ℕ
pair_at text place = digit_at text place * 10 + digit_at text (place + 1)

-- hours, minutes, seconds, and hundredths of a second where they are written
abbrev pub milliseconds_of : List ℕ → ℕ
milliseconds_of text =
    pair_at text 0 * 3600000 + pair_at text 2 * 60000 + pair_at text 4 * 1000 + pair_at text 6 * 10

-- six digits hhmmss or eight hhmmsscc, with minutes and seconds up to 59
abbrev pub is_period_text : List ℕ → Bool
is_period_text text =
    (length text == 6 || length text == 8) && list_all is_digit text && nat_le (pair_at text 2) 59
    && nat_le (pair_at text 4) 59

-- the period of a text that is so and names 100 ms or more (this profile)
abbrev pub period_of : List ℕ → Option ℕ
period_of text =
    if is_period_text text && nat_le 100 (milliseconds_of text) then Some (milliseconds_of text) else None
