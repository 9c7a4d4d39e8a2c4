-- How far a line goes on as a command: the place of the first byte with which none goes on, and the length of the line
-- where it ends too soon (this profile).
use Rattle.std.specs.Prelude.{ℕ, zero, suc, ◌+◌, ◌-◌, ◌^◌, ◌==◌, ◌&&◌, not, Bool, false, List, [], ◌∷◌, codes, drop, fold, length, max, take, Option, None, if◌then◌else◌}
use Rattle.std.specs.List.{common_prefix_len}
use Rattle.std.specs.Option.{option_map, unwrap_or}
use Rattle.secs_text.specs.Reading.{after_blanks}
use Rattle.line_schedule.specs.Words.{after}
use Rattle.live_commands.specs.ItemPlaces.{digits_go, item_goes}

-- ---- words and numbers

-- as far as a word goes
abbrev pub word_goes : List ℕ → List ℕ → ℕ
word_goes = common_prefix_len (λ w b. b == w)

-- as far as the word does that goes furthest
abbrev pub words_go : List (List ℕ) → List ℕ → ℕ
words_go words text = fold (λ furthest word. max furthest (word_goes word text)) 0 words

-- as far as these bytes go, and behind all of them as far as what is behind them does
abbrev pub goes_after : List ℕ → (List ℕ → ℕ) → List ℕ → ℕ
goes_after front goes text =
    unwrap_or (option_map (λ rest. length front + goes rest) (after front text)) (word_goes front text)

-- a number of ten digits at most
abbrev pub number_goes : ℕ → List ℕ → ℕ
number_goes most text = digits_go most 0 (take 10 text)

abbrev pub any_number_goes : List ℕ → ℕ
any_number_goes = number_goes (2 ^ 32 - 1)

-- what stands behind so many digits and a space
abbrev pub behind_space : ℕ → List ℕ → Option (List ℕ)
behind_space zero text = None
behind_space (suc digits) text = after (codes " ") (drop (suc digits) text)

-- digits, a space, and then as far as what is behind it does
abbrev pub number_and : ℕ → (List ℕ → ℕ) → List ℕ → ℕ
number_and most goes text =
    let digits = number_goes most text in
    unwrap_or (option_map (λ rest. digits + 1 + goes rest) (behind_space digits text)) digits

-- ---- items

-- `<` and the first letter of another item than an A
abbrev pub is_no_text : List ℕ → Bool
is_no_text [] = false
is_no_text (front ∷ []) = false
is_no_text (front ∷ letter ∷ rest) = front == 60 && not (letter == 65)

-- as far as an A goes
abbrev pub text_goes : List ℕ → ℕ
text_goes text =
    let inner = after_blanks text in
    if is_no_text inner then length text - length inner + 1 else item_goes text

-- ---- commands

-- the commands that are a word
abbrev pub bare_words : List (List ℕ)
bare_words =
    codes "enable" ∷ codes "disable" ∷ codes "online" ∷ codes "offline" ∷ codes "local" ∷ codes "remote"
    ∷ codes "stop" ∷ []

abbrev pub alarm_states : List (List ℕ)
alarm_states = codes "set" ∷ codes "clear" ∷ []

abbrev pub event_goes : List ℕ → ℕ
event_goes = goes_after (codes "event ") any_number_goes

abbrev pub alarm_goes : List ℕ → ℕ
alarm_goes = goes_after (codes "alarm ") (number_and (2 ^ 32 - 1) (words_go alarm_states))

abbrev pub setting_goes : List ℕ → ℕ
setting_goes = goes_after (codes "set ") (number_and (2 ^ 32 - 1) item_goes)

abbrev pub terminal_goes : List ℕ → ℕ
terminal_goes = goes_after (codes "terminal ") (number_and 255 text_goes)

-- as far as the command does that goes furthest
abbrev pub command_goes : List ℕ → ℕ
command_goes line =
    max (words_go bare_words line)
    (max (event_goes line) (max (alarm_goes line) (max (setting_goes line) (terminal_goes line))))
