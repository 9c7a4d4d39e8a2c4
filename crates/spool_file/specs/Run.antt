-- Lists of messages whose numbers have no gap (this profile).
use Rattle.std.specs.Prelude.{◌≡◌, ℕ, ◌+◌, List, [], ◌∷◌}
use Rattle.spool_file.specs.Slot.{Message, width}

-- the first message has the first of two numbers, each other one the number behind those of the one before it, and the
-- second number is the one behind all
abbrev pub IsChainFrom : ℕ → ℕ → List Message → Type 0
IsChainFrom first next [] = first ≡ next
IsChainFrom first next (message ∷ list) = (message.number ≡ first) × IsChainFrom (first + width message) next list

-- the numbers go up one by one, from this one on
abbrev pub IsRunFrom : ℕ → List Message → Type 0
IsRunFrom n [] = Unit {0}
IsRunFrom n (message ∷ list) = (message.number ≡ n) × IsRunFrom (n + 1) list
