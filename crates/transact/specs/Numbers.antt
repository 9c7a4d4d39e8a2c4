-- The system bytes of the primaries that a side sends.
use Rattle.std.specs.Prelude.{ℕ, zero, suc, ◌+◌, ◌==◌, ◌≤◌, ◌^◌, min, List, [], ◌∷◌, Option, Some, None, if◌then◌else◌}

-- the next number, and the number at which they are spent
pub record NumbersView : Type 0 where
  pub next : ℕ
  pub end : ℕ

-- each number that is left is of four bytes
pub record IsNumbers (numbers : NumbersView) : Type 0 where
  pub ordered : numbers.next ≤ numbers.end
  pub four_bytes : numbers.end ≤ 2 ^ 32

-- so many numbers, from the first on
abbrev pub numbers_from : ℕ → ℕ → NumbersView
numbers_from first count = record { next = first; end = first + count }

-- the next number, where one is left
abbrev pub next_number : NumbersView → Option ℕ
next_number numbers = if numbers.next == numbers.end then None else Some numbers.next

-- what is left after a number was drawn
abbrev pub after_draw : NumbersView → NumbersView
after_draw numbers = if numbers.next == numbers.end then numbers else record numbers { next = numbers.next + 1 }

-- this many numbers more behind those that are left, as far as there are numbers of four bytes
abbrev pub with_more : ℕ → NumbersView → NumbersView
with_more count numbers = record numbers { end = min (numbers.end + count) (2 ^ 32) }

-- the answers of so many draws
abbrev pub draws : NumbersView → ℕ → List (Option ℕ)
draws numbers zero = []
draws numbers (suc more) = next_number numbers ∷ draws (after_draw numbers) more
