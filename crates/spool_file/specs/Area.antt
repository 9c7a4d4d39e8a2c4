-- Slots that hold messages: the list of these, and the first break that a test of slots finds (this profile).
use Rattle.std.specs.Prelude.{ℕ, zero, suc, ◌+◌, Bool, true, false, ◌||◌, nat_lt, if◌then◌else◌}
use Rattle.std.specs.Prelude.{List, [], ◌∷◌, Option, Some, None}
use Rattle.spool_file.specs.Slot.{Message, width}

-- what the first test that finds something finds, of two
abbrev pub or_else : Option ℕ → Option ℕ → Option ℕ
or_else None other = other
or_else (Some place) other = Some place

-- and of a list of tests
abbrev pub first_break : List (Option ℕ) → Option ℕ
first_break [] = None
first_break (place ∷ places) = or_else place (first_break places)

-- what a test finds at the first of the n places before n at which it finds something
abbrev pub first_at : (ℕ → Option ℕ) → ℕ → Option ℕ
first_at test zero = None
first_at test (suc k) = or_else (first_at test k) (test k)

-- whether a test holds at one of the n places before n
abbrev pub any_below : (ℕ → Bool) → ℕ → Bool
any_below test zero = false
any_below test (suc k) = any_below test k || test k

-- a message put into a list by its number
abbrev pub put_by_number : Message → List Message → List Message
put_by_number message [] = message ∷ []
put_by_number message (other ∷ list) =
    if nat_lt message.number other.number then message ∷ other ∷ list else other ∷ put_by_number message list

abbrev pub put_if : Bool → Message → List Message → List Message
put_if true message list = put_by_number message list
put_if false message list = list

-- the messages that the first n slots hold, by number: which slots hold one, and which one each of these holds
abbrev pub messages_below : (ℕ → Bool) → (ℕ → Message) → ℕ → List Message
messages_below stands message zero = []
messages_below stands message (suc k) = put_if (stands k) (message k) (messages_below stands message k)

-- the number of the first message; where there is none, the floor
abbrev pub first_of : ℕ → List Message → ℕ
first_of floor [] = floor
first_of floor (message ∷ list) = message.number

-- the number behind those of the last message; where there is none, the floor
abbrev pub next_of : ℕ → List Message → ℕ
next_of floor [] = floor
next_of floor (message ∷ list) = next_of (message.number + width message) list
