-- A text as lines, and what its lines tell (this profile).
use Rattle.std.specs.Prelude.{◌≡◌, ◌⊎◌, ℕ, ◌+◌, ◌≤◌, ◌==◌, List, [], ◌∷◌, ◌++◌, length, Result, Ok, Err, if◌then◌else◌}
use Rattle.line_schedule.specs.declared.schedule.ScheduleFault.{ScheduleFault}
use Rattle.line_schedule.specs.declared.schedule.ScheduleFault.TheVariants as fault
use Rattle.line_schedule.specs.Grammar.{IsPassedOver}

-- a byte in front of the first line
abbrev pub with_front : ℕ → List (List ℕ) → List (List ℕ)
with_front b [] = (b ∷ []) ∷ []
with_front b (line ∷ lines) = (b ∷ line) ∷ lines

-- LF ends each line; the last one may lack it
abbrev pub lines_of : List ℕ → List (List ℕ)
lines_of [] = []
lines_of (b ∷ text) = if b == 10 then [] ∷ lines_of text else with_front b (lines_of text)

-- Each line is passed over or tells a value, and these are the values, in order. Is says which value a line may tell
-- behind values up to a moment, and each value has its own moment.
abbrev pub Tell : {V : Type 0} → (ℕ → V → List ℕ → Type 0) → (V → ℕ) → ℕ → List (List ℕ) → List V → Type 0
Tell Is moment_of least [] values = values ≡ []
Tell {V} Is moment_of least (line ∷ lines) values =
    (IsPassedOver line × Tell Is moment_of least lines values)
    ⊎ ((value : V) × (others : List V) × (values ≡ value ∷ others)
    × Is least value line × Tell Is moment_of (moment_of value) lines others)

-- the moment of the last value, if there is one
abbrev pub last_moment : {V : Type 0} → (V → ℕ) → ℕ → List V → ℕ
last_moment moment_of least [] = least
last_moment moment_of least (value ∷ values) = last_moment moment_of (moment_of value) values

-- The line of this number, counted from 1, stops the reading, and those before it are passed over or tell values. Why
-- says of it what it is behind values up to a moment.
pub record StopsAt {V : Type 0} (Is : ℕ → V → List ℕ → Type 0) (moment_of : V → ℕ) (most : ℕ) (text : List ℕ)
    (number : ℕ) (Why : ℕ → List ℕ → Type 0) : Type 0 where
  pub before : List (List ℕ)
  pub line : List ℕ
  pub behind : List (List ℕ)
  pub values : List V
  pub lines : lines_of text ≡ before ++ line ∷ behind
  pub tell : Tell Is moment_of 0 before values
  pub within : length before ≤ most
  pub counted : number ≡ length before + 1
  pub is : Why (last_moment moment_of 0 values) line

-- what was read are these values, unless memory ran out
abbrev pub ReadsOnly : {R V : Type 0} → (R → List V) → List V → Result R ScheduleFault → Type 0
ReadsOnly values_of values (Ok read) = values_of read ≡ values
ReadsOnly values_of values (Err e) = e ≡ fault.NoMemory

-- the text was refused for this fault, unless memory ran out
abbrev pub RefusesOnly : {R : Type 0} → ScheduleFault → Result R ScheduleFault → Type 0
RefusesOnly named (Ok read) = ⊥
RefusesOnly named (Err e) = (e ≡ named) ⊎ (e ≡ fault.NoMemory)
