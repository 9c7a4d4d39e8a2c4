-- Counts of faults of outside objects (this profile).
use Rattle.std.specs.Prelude.{◌≡◌, ℕ, ◌+◌, ◌-◌, ◌^◌, ◌≤◌, min}

-- a count with one more; it stands at its end, 2^64 - 1
abbrev pub one_more : ℕ → ℕ
one_more before = min (before + 1) (2 ^ 64 - 1)

-- one fault more was counted, and none was taken back
pub record Rose (before now : ℕ) : Type 0 where
  pub by_one : now ≡ one_more before
  pub later : before ≤ now
