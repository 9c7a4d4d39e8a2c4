-- What a crash may leave on a disk (this profile).
use Rattle.std.specs.Prelude.{◌≡◌, ℕ, ◌+◌, ◌<◌, ◌≤◌, Bool, false, ◌&&◌, nat_le, nat_lt, List, length, slice_index}
use Rattle.std.specs.List.{list_any}
use Rattle.disk_base.specs.Story.{Moment}

-- a place lies in a range
abbrev pub is_in : ℕ → ℕ × ℕ → Bool
is_in place range = nat_le range.0 place && nat_lt place (range.0 + range.1)

abbrev pub is_loose : List (ℕ × ℕ) → ℕ → Bool
is_loose loose place = list_any (is_in place) loose

-- none of so many bytes from a place on is loose
abbrev pub AreSettled : Moment → ℕ → ℕ → Type 0
AreSettled moment from size = (place : ℕ) → from ≤ place → place < from + size → is_loose moment.loose place ≡ false

-- what a crash at this moment may leave: any bytes in the loose ranges, and all others as they are
pub record IsImage (moment : Moment) (image : List ℕ) : Type 0 where
  pub long : length image ≡ length moment.bytes
  pub kept : (place : ℕ) → is_loose moment.loose place ≡ false →
      slice_index image place ≡ slice_index moment.bytes place
