-- The commands of a row of bytes that comes in parts: a line counts as its LF comes, the last one at the end of all
-- (this profile).
use Rattle.std.specs.Prelude.{◌≡◌, ℕ, ◌+◌, ◌≤◌, ◌==◌, Bool, true, false, List, [], ◌∷◌, ◌++◌, drop, length, take, Option, Some, None, if◌then◌else◌}
use Rattle.gl_base.specs.Faults.{one_more}
use Rattle.line_schedule.specs.Reading.{is_passed_over}
use Rattle.live_commands.specs.Commands.{Numbered, asked_by, line_limit}

-- how a row stands: how many lines that count have ended, and the line that is open, as far as it is kept
pub record Standing : Type 0 where
  pub number : ℕ
  pub line : List ℕ

abbrev pub at_start : Standing
at_start = record { number = 0; line = [] }

-- one byte past the limit tells that a line is too long
abbrev pub kept : List ℕ → List ℕ
kept line = take (line_limit + 1) line

-- more bytes of the open line
abbrev pub with_bytes : List ℕ → Standing → Standing
with_bytes bytes s = record { number = s.number; line = kept (s.line ++ bytes) }

-- ---- a line's end

-- what the open line asks for, if it ends here
abbrev pub asked_at_end : Standing → List Numbered
asked_at_end s = if is_passed_over s.line then [] else (one_more s.number, asked_by s.line) ∷ []

abbrev pub closed : Standing → Standing
closed s = record { number = if is_passed_over s.line then s.number else one_more s.number; line = [] }

-- ---- bytes

abbrev pub behind_byte : Standing → ℕ → Standing
behind_byte s byte = if byte == 10 then closed s else with_bytes (byte ∷ []) s

abbrev pub asked_with_byte : Standing → ℕ → List Numbered
asked_with_byte s byte = if byte == 10 then asked_at_end s else []

-- how a row stands behind bytes, and what comes with them
abbrev pub behind : Standing → List ℕ → Standing
behind s [] = s
behind s (byte ∷ bytes) = behind (behind_byte s byte) bytes

abbrev pub asked_with : Standing → List ℕ → List Numbered
asked_with s [] = []
asked_with s (byte ∷ bytes) = asked_with_byte s byte ++ asked_with (behind_byte s byte) bytes

-- ---- parts

-- what comes with these parts, and at the end of all
abbrev pub asked_in_parts : Standing → List (List ℕ) → List Numbered
asked_in_parts s [] = asked_at_end s
asked_in_parts s (part ∷ parts) = asked_with s part ++ asked_in_parts (behind s part) parts

-- ---- a part that is read line by line

-- of a row that stands so among the bytes of a part: whether the open line counts and ends there, and how many of these
-- bytes were taken
pub record Reading : Type 0 where
  pub here : Standing
  pub found : Bool
  pub taken : ℕ

abbrev pub reads_on : Standing → Reading
reads_on s = record { here = s; found = false; taken = 0 }

-- what is still to come of a part, and how the row stands behind it
abbrev pub asked_left : Reading → List ℕ → List Numbered
asked_left r bytes =
    if r.found then asked_at_end r.here ++ asked_with (closed r.here) (drop r.taken bytes) else []

abbrev pub behind_left : Reading → List ℕ → Standing
behind_left r bytes = if r.found then behind (closed r.here) (drop r.taken bytes) else r.here

-- it goes through the bytes that come behind a standing
pub record GoesThrough (from : Standing) (rest : List ℕ) (r : Reading) (bytes : List ℕ) : Type 0 where
  pub asked : asked_with from rest ≡ asked_left r bytes
  pub stands : behind from rest ≡ behind_left r bytes
  pub counts : r.found ≡ true → is_passed_over r.here.line ≡ false

-- this is the next of what is still to come, if any is
abbrev pub IsNextOf : List Numbered → Option Numbered → List Numbered → Type 0
IsNextOf left (Some x) later = left ≡ x ∷ later
IsNextOf left None later = (left ≡ []) × (later ≡ [])

-- ---- one line

-- the open line ends as it stands behind, and then come the bytes that are left
pub record Ends (from : Standing) (bytes : List ℕ) (to : Standing) (left : List ℕ) : Type 0 where
  pub asked : asked_with from bytes ≡ asked_at_end to ++ asked_with (closed to) left
  pub stands : behind from bytes ≡ behind (closed to) left

-- nothing comes with bytes, and the row stands so behind them
pub record Passes (from : Standing) (bytes : List ℕ) (to : Standing) : Type 0 where
  pub asked : asked_with from bytes ≡ []
  pub stands : behind from bytes ≡ to

-- so many bytes were taken up to the end of the open line; or all of them, and it doesn't end
abbrev pub TakesLine : Standing → List ℕ → Standing → Option ℕ → Type 0
TakesLine from bytes to (Some count) = (1 ≤ count) × (count ≤ length bytes) × Ends from bytes to (drop count bytes)
TakesLine from bytes to None = Passes from bytes to
